-- The contents hang on which pairs there are, not on their order. Assumes nothing.
use Rattle.std.proofs.Common.{◌≡◌, ℕ, Bool, true, false, List, [], ◌∷◌, Some, None, Option, sym, refl, ap, ◌∙◌, subst, inl, inr, ⊎_elim}
use mathlib.Core.Path.{fun_ext}
use Rattle.std.specs.Option.{option_map}
use Rattle.std.specs.List.{AllByRecursion}
use Rattle.std.proofs.lemmas.Bool.{cases_Bool, cond-true, cond-false}
use Rattle.steps.specs.Change.{Among}
use Rattle.steps.specs.Sheet.{Sheet}
use Rattle.records.specs.declared.pairs.Pair.{Pair}
use Rattle.records.specs.Pairs.{is_pair}
use Rattle.worksheet.specs.Claims.{OrderFree}
use Rattle.worksheet.specs.Records.{found, pair_scores, contents, Apart}
use Rattle.worksheet.proofs.Running.{found_keys, all_found}

all_among : {X : Type 0} (P : X → Type 0) (xs : List X) (x : X) → AllByRecursion P xs → Among x xs → P x
all_among P [] x h m = absurd m
all_among P (y ∷ ys) x h m = ⊎_elim (λ (e : x ≡ y). subst P (sym e) h.0) (all_among P ys x h.1) m

module _ {K : Type 0} where
  found_among : (ps : List (Pair K)) (a b : ℕ) (p : Pair K) → found a b ps ≡ Some p → Among p ps
  found_among [] a b p e = absurd cc
  found_among (q ∷ qs) a b p e =
      ⊎_elim
      (λ (t : is_pair a b q ≡ true).
      let s : Some q ≡ Some p = sym (cond-true (is_pair a b q) (Some q) (found a b qs) t) ∙ e in
      let same : p ≡ q = cc in
      inl same)
      (λ (t : is_pair a b q ≡ false). inr (found_among qs a b p (sym (cond-false (is_pair a b q) (Some q) (found a b qs) t) ∙ e)))
      (cases_Bool (is_pair a b q))

  -- what is found in the one is found in the other
  found_too : (ps qs : List (Pair K)) → Apart qs → ((p : Pair K) → Among p ps → Among p qs)
      → (a b : ℕ) (p : Pair K) → found a b ps ≡ Some p → found a b qs ≡ Some p
  found_too ps qs apart in_too a b p e =
      let keys = found_keys ps a b p e in
      ap (λ x. found x b qs) keys.0
      ∙ ap (λ y. found p.low y qs) keys.1
      ∙ all_among (λ q. found q.low q.high qs ≡ Some q) qs p (all_found qs apart) (in_too p (found_among ps a b p e))

  same_found : (ps qs : List (Pair K)) → Apart ps → Apart qs
      → ((p : Pair K) → Among p ps → Among p qs) → ((p : Pair K) → Among p qs → Among p ps) → (a b : ℕ) → found a b ps ≡ found a b qs
  same_found ps qs apart apart_too there back a b = go (found a b ps) (found a b qs) refl refl
    where
      go : (o o' : Option (Pair K)) → found a b ps ≡ o → found a b qs ≡ o' → found a b ps ≡ found a b qs
      go (Some p) o' e e' = e ∙ sym (found_too ps qs apart_too there a b p e)
      go None None e e' = e ∙ sym e'
      go None (Some q) e e' = found_too qs ps apart back a b q e' ∙ sym e'

pub order_free : {K S : Type 0} (means : K → S) → OrderFree means
order_free {K} {S} means b vs ps qs arranged arranged_too there back =
    let f : (ℕ → ℕ → Option (Pair K)) → Sheet Bool S
    = λ at. record { size = (contents means b vs ps).size; base = means b; one = (contents means b vs ps).one; two = λ x y. option_map (pair_scores means) (at x y) } in
    ap f (fun_ext (λ x. fun_ext (λ y. same_found ps qs arranged.apart arranged_too.apart there back x y)))
