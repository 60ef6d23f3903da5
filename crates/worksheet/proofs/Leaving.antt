-- A variable leaves with its pairs: the records then say the sheet without it. Assumes nothing.
use Rattle.std.proofs.Common.{◌≡◌, ℕ, suc, ◌<◌, ◌≤◌, true, false, cond, not, ◌||◌, eqb, List, [], ◌∷◌, length, set, Some, None, sym, refl, ap, ◌∙◌, subst, ⊎_elim, arith}
use Rattle.std.specs.Option.{option_map}
use Rattle.std.specs.List.{AllByRecursion, slice_get}
use Rattle.std.proofs.lemmas.List.{length-set}
use Rattle.std.proofs.lemmas.Bool.{eq-eqb, ne_eqb, eqb-true, eqb-false, cases_eq, cases_Bool, cond-true, cond-false, or_cases, or_parts, or_left, or_right, or_from}
use Rattle.steps.specs.Change.{without}
use Rattle.records.specs.declared.pairs.Pair.{Pair}
use Rattle.score.specs.declared.values.Two.{Two}
use Rattle.sheets.specs.declared.variables.Var.{Var}
use Rattle.sheets.specs.declared.variables.Var.TheVariants.{Remains, Left}
use Rattle.sheets.specs.Changed.{kept}
use Rattle.partners.specs.Links.{front, links}
use Rattle.records.specs.Pairs.{touches, is_pair}
use Rattle.worksheet.specs.Records.{found, var_says, pair_scores, contents, Present, Placed, Apart, Arranged}
use Rattle.std.proofs.lemmas.Option.{slice_get_within}
use Rattle.records.proofs.Lists.{nth_set_same, nth_set_other}
use Rattle.worksheet.proofs.Partners.{link_cases, found_on_low, found_on_high}

module _ {K : Type 0} (y : ℕ) where
  pub kept_yes : (p : Pair K) (ps : List (Pair K)) → touches y p ≡ false → kept y (p ∷ ps) ≡ p ∷ kept y ps
  kept_yes p ps e = cond-true (not (touches y p)) (p ∷ kept y ps) (kept y ps) (ap not e)

  pub kept_no : (p : Pair K) (ps : List (Pair K)) → touches y p ≡ true → kept y (p ∷ ps) ≡ kept y ps
  kept_no p ps e = cond-false (not (touches y p)) (p ∷ kept y ps) (kept y ps) (ap not e)

  -- the pairs with y are gone, and the others are found as before
  pub found_kept : (ps : List (Pair K)) (a b : ℕ) → found a b (kept y ps) ≡ cond (eqb a y || eqb b y) None (found a b ps)
  found_kept ps a b = ⊎_elim (λ (t : (eqb a y || eqb b y) ≡ true). none ps t ∙ sym (cond-true _ None (found a b ps) t)) (λ (t : (eqb a y || eqb b y) ≡ false). same ps t ∙ sym (cond-false _ None (found a b ps) t)) (cases_Bool (eqb a y || eqb b y))
    where
      other : (p : Pair K) → touches y p ≡ false → (p.low ≡ y → ⊥) × (p.high ≡ y → ⊥)
      other p e = let q = or_parts (eqb p.low y) (eqb p.high y) e in (eqb-false p.low y q.0, eqb-false p.high y q.1)

      none : (ps : List (Pair K)) → (eqb a y || eqb b y) ≡ true → found a b (kept y ps) ≡ None
      none [] t = refl
      none (p ∷ ps) t =
          ⊎_elim
          (λ (e : touches y p ≡ true). ap (found a b) (kept_no p ps e) ∙ none ps t)
          (λ (e : touches y p ≡ false).
          let d = other p e in
          ap (found a b) (kept_yes p ps e)
          ∙ ⊎_elim
          (λ (q : eqb a y ≡ true). found_on_low a b p (kept y ps) (λ f. d.0 (sym f ∙ eqb-true a y q)))
          (λ (q : eqb b y ≡ true). found_on_high a b p (kept y ps) (λ f. d.1 (sym f ∙ eqb-true b y q)))
          (or_cases (eqb a y) (eqb b y) t)
          ∙ none ps t)
          (cases_Bool (touches y p))

      same : (ps : List (Pair K)) → (eqb a y || eqb b y) ≡ false → found a b (kept y ps) ≡ found a b ps
      same [] t = refl
      same (p ∷ ps) t =
          ⊎_elim
          (λ (e : touches y p ≡ true).
          let d = or_parts (eqb a y) (eqb b y) t in
          ap (found a b) (kept_no p ps e) ∙ same ps t
          ∙ ⊎_elim
          (λ (q : eqb p.low y ≡ true). sym (found_on_low a b p ps (λ f. eqb-false a y d.0 (f ∙ eqb-true p.low y q))))
          (λ (q : eqb p.high y ≡ true). sym (found_on_high a b p ps (λ f. eqb-false b y d.1 (f ∙ eqb-true p.high y q))))
          (or_cases (eqb p.low y) (eqb p.high y) e))
          (λ (e : touches y p ≡ false).
          ap (found a b) (kept_yes p ps e)
          ∙ ⊎_elim
          (λ (q : is_pair a b p ≡ true). cond-true (is_pair a b p) (Some p) (found a b (kept y ps)) q ∙ sym (cond-true (is_pair a b p) (Some p) (found a b ps) q))
          (λ (q : is_pair a b p ≡ false). cond-false (is_pair a b p) (Some p) (found a b (kept y ps)) q ∙ same ps t ∙ sym (cond-false (is_pair a b p) (Some p) (found a b ps) q))
          (cases_Bool (is_pair a b p)))
          (cases_Bool (touches y p))

  -- where y has no pair, all are kept
  pub kept_all : (ps : List (Pair K)) → links y ps ≡ [] → kept y ps ≡ ps
  kept_all [] e = refl
  kept_all (p ∷ ps) e =
      link_cases y p (λ o. front o (links y ps) ≡ [] → kept y (p ∷ ps) ≡ p ∷ ps)
      (λ _ h. absurd cc)
      (λ _ _ h. absurd cc)
      (λ d f h. kept_yes p ps (or_from (eqb p.low y) (eqb p.high y) (ne_eqb p.low y d) (ne_eqb p.high y f)) ∙ ap (λ qs. p ∷ qs) (kept_all ps h))
      e

  -- no more are kept than there were, and fewer where y has a pair
  kept_most : (ps : List (Pair K)) → length (kept y ps) ≤ length ps
  kept_most [] = omega arith
  kept_most (p ∷ ps) =
      let rest : length (kept y ps) ≤ length ps = kept_most ps in
      ⊎_elim
      (λ (e : touches y p ≡ true). subst (λ n. n ≤ suc (length ps)) (sym (ap length (kept_no p ps e))) (omega arith))
      (λ (e : touches y p ≡ false). subst (λ n. n ≤ suc (length ps)) (sym (ap length (kept_yes p ps e))) (omega arith))
      (cases_Bool (touches y p))

  pub kept_fewer : (ps : List (Pair K)) → 0 < length (links y ps) → length (kept y ps) < length ps
  kept_fewer [] h = absurd (omega (arith, h))
  kept_fewer (p ∷ ps) h =
      let most : length (kept y ps) ≤ length ps = kept_most ps in
      let dropped : touches y p ≡ true → length (kept y (p ∷ ps)) < suc (length ps)
      = λ e. subst (λ n. n < suc (length ps)) (sym (ap length (kept_no p ps e))) (omega arith) in
      link_cases y p (λ o. 0 < length (front o (links y ps)) → length (kept y (p ∷ ps)) < suc (length ps))
      (λ is _. dropped (or_left (eqb p.low y) (eqb p.high y) (eq-eqb p.low y is)))
      (λ _ is _. dropped (or_right (eqb p.low y) (eqb p.high y) (eq-eqb p.high y is)))
      (λ d f some.
      let rest : length (kept y ps) < length ps = kept_fewer ps some in
      subst (λ n. n < suc (length ps)) (sym (ap length (kept_yes p ps (or_from (eqb p.low y) (eqb p.high y) (ne_eqb p.low y d) (ne_eqb p.high y f))))) (omega arith))
      h

-- gone: the scores with which y has left
module _ {K : Type 0} (vs : List (Var K)) (y : ℕ) (r gone : Two K) (there : slice_get vs y ≡ Some (Remains r)) where
  pub gone_says : {S : Type 0} (means : K → S) (v : ℕ) → var_says means (slice_get (set vs y (Left gone)) v) ≡ cond (eqb v y) None (var_says means (slice_get vs v))
  gone_says means v =
      ⊎_elim
      (λ (e : v ≡ y).
      ap (λ x. var_says means (slice_get (set vs y (Left gone)) x)) e
      ∙ ap (var_says means) (nth_set_same vs y (Left gone) (slice_get_within vs y (Remains r) there))
      ∙ sym (cond-true (eqb v y) None (var_says means (slice_get vs v)) (eq-eqb v y e)))
      (λ (e : v ≡ y → ⊥). ap (var_says means) (nth_set_other vs y v (Left gone) e) ∙ sym (cond-false (eqb v y) None (var_says means (slice_get vs v)) (ne_eqb v y e)))
      (cases_eq v y)

  -- the records say the sheet without y
  pub leaving : {S : Type 0} (means : K → S) (base : K) (ps : List (Pair K))
      → contents means base (set vs y (Left gone)) (kept y ps) ≡ without y (contents means base vs ps)
  leaving {S} means base ps = λ i. record {
    size = length-set vs y (Left gone) i;
    base = means base;
    one = λ v. gone_says means v i;
    two = λ a b. two_is a b i;
  }
    where
      two_is : (a b : ℕ) → option_map (pair_scores means) (found a b (kept y ps)) ≡ cond (eqb a y || eqb b y) None (option_map (pair_scores means) (found a b ps))
      two_is a b =
          ap (option_map (pair_scores means)) (found_kept y ps a b)
          ∙ ⊎_elim
          (λ (e : (eqb a y || eqb b y) ≡ true). ap (option_map (pair_scores means)) (cond-true _ None (found a b ps) e) ∙ sym (cond-true _ None (option_map (pair_scores means) (found a b ps)) e))
          (λ (e : (eqb a y || eqb b y) ≡ false). ap (option_map (pair_scores means)) (cond-false _ None (found a b ps) e) ∙ sym (cond-false _ None (option_map (pair_scores means) (found a b ps)) e))
          (cases_Bool (eqb a y || eqb b y))

  pub gone_present : (v : ℕ) → (v ≡ y → ⊥) → Present vs v → Present (set vs y (Left gone)) v
  gone_present v d h = (h.0, nth_set_other vs y v (Left gone) d ∙ h.1)

  gone_placed : (ps : List (Pair K)) → AllByRecursion (Placed vs) ps → AllByRecursion (Placed (set vs y (Left gone))) (kept y ps)
  gone_placed [] h = tt
  gone_placed (p ∷ ps) h =
      ⊎_elim
      (λ (e : touches y p ≡ true). subst (AllByRecursion (Placed (set vs y (Left gone)))) (sym (kept_no y p ps e)) (gone_placed ps h.1))
      (λ (e : touches y p ≡ false).
      let q = or_parts (eqb p.low y) (eqb p.high y) e in
      let d = eqb-false p.low y q.0 in
      let f = eqb-false p.high y q.1 in
      subst (AllByRecursion (Placed (set vs y (Left gone)))) (sym (kept_yes y p ps e)) (
        record { lower_first = h.0.lower_first; low_present = gone_present p.low d h.0.low_present; high_present = gone_present p.high f h.0.high_present },
        gone_placed ps h.1,
      ))
      (cases_Bool (touches y p))

  kept_apart : (ps : List (Pair K)) → Apart ps → Apart (kept y ps)
  kept_apart [] h = tt
  kept_apart (p ∷ ps) h =
      ⊎_elim
      (λ (e : touches y p ≡ true). subst Apart (sym (kept_no y p ps e)) (kept_apart ps h.1))
      (λ (e : touches y p ≡ false).
      subst Apart (sym (kept_yes y p ps e))
      (found_kept y ps p.low p.high ∙ cond-false _ None (found p.low p.high ps) e ∙ h.0, kept_apart ps h.1))
      (cases_Bool (touches y p))

  pub leaving_arranged : (ps : List (Pair K)) → Arranged vs ps → Arranged (set vs y (Left gone)) (kept y ps)
  leaving_arranged ps a = record { placed = gone_placed ps a.placed; apart = kept_apart ps a.apart }
