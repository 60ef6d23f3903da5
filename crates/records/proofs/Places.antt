-- Where a pair stands among others. Assumes nothing.
use Rattle.std.proofs.Common.{◌≡◌, ℕ, suc, ◌+◌, ◌<◌, Bool, true, false, cond, List, [], ◌∷◌, length, Some, None, Option, sym, refl, ap, ◌∙◌, ⊎_elim, arith}
use Rattle.std.specs.Option.{option_map}
use Rattle.std.specs.List.{position_from}
use Rattle.std.proofs.lemmas.Bool.{cases_Bool, cond-true, cond-false}
use Rattle.std.proofs.lemmas.Iterator.Adapters.{position_from-zero}
use Rattle.records.specs.declared.pairs.Pair.{Pair}
use Rattle.records.specs.Pairs.{is_pair, place}

pub some_suc : (o : Option ℕ) (i : ℕ) → option_map suc o ≡ Some i → (k : ℕ) × (i ≡ suc k) × (o ≡ Some k)
some_suc None i e = absurd cc
some_suc (Some k) i e = let s : suc k ≡ i = cc in (k, sym s, refl)

module _ {K : Type 0} (x z : ℕ) where
  later : (i : ℕ) (ps : List (Pair K)) → position_from (is_pair x z) (i + 1) ps ≡ option_map suc (position_from (is_pair x z) i ps)
  later i [] = refl
  later i (p ∷ ps) = go (is_pair x z p) (later (i + 1) ps)
    where
      go : (t : Bool) → position_from (is_pair x z) (i + 1 + 1) ps ≡ option_map suc (position_from (is_pair x z) (i + 1) ps)
          → cond t (Some (i + 1)) (position_from (is_pair x z) (i + 1 + 1) ps) ≡ option_map suc (cond t (Some i) (position_from (is_pair x z) (i + 1) ps))
      go true h = ap Some (omega arith)
      go false h = h

  -- the first pair, or the place among the others and one more
  pub place_cons : (p : Pair K) (ps : List (Pair K)) → place x z (p ∷ ps) ≡ cond (is_pair x z p) (Some 0) (option_map suc (place x z ps))
  place_cons p ps =
      position_from-zero (is_pair x z) (p ∷ ps)
      ∙ ap (cond (is_pair x z p) (Some 0)) (later 0 ps ∙ ap (option_map suc) (sym (position_from-zero (is_pair x z) ps)))

  pub place_below : (ps : List (Pair K)) (i : ℕ) → place x z ps ≡ Some i → i < length ps
  place_below [] i e = absurd cc
  place_below (p ∷ ps) i e =
      ⊎_elim
      (λ (t : is_pair x z p ≡ true). let s : Some 0 ≡ Some i = sym (place_cons p ps ∙ cond-true (is_pair x z p) (Some 0) (option_map suc (place x z ps)) t) ∙ e in let k : 0 ≡ i = cc in omega arith)
      (λ (t : is_pair x z p ≡ false).
      let q = some_suc (place x z ps) i (sym (place_cons p ps ∙ cond-false (is_pair x z p) (Some 0) (option_map suc (place x z ps)) t) ∙ e) in
      omega (arith, place_below ps q.0 q.2, q.1))
      (cases_Bool (is_pair x z p))
