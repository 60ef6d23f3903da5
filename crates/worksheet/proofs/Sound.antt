-- The contents of records in order are sound. Assumes nothing.
use Rattle.std.proofs.Common.{◌≡◌, ℕ, ◌<◌, true, false, eqb, List, [], ◌∷◌, length, is_some, Some, None, Option, sym, refl, ap, ◌∙◌, subst, ⊎_elim}
use Rattle.std.specs.Option.{option_map}
use Rattle.std.specs.List.{AllByRecursion, slice_get}
use Rattle.std.proofs.lemmas.Bool.{both_ways, cases_Bool, cond-false, and_parts, eqb-true}
use Rattle.steps.proofs.Sheets.{some_mapped}
use Rattle.records.specs.declared.pairs.Pair.{Pair}
use Rattle.sheets.specs.declared.variables.Var.{Var}
use Rattle.worksheet.specs.Claims.{ContentsSound}
use Rattle.records.specs.Pairs.{is_pair}
use Rattle.worksheet.specs.Records.{found, var_says, pair_scores, Present, Placed}
use Rattle.std.proofs.lemmas.Option.{slice_get_within}

module _ {K S : Type 0} (means : K → S) (b : K) (vs : List (Var K)) where
  -- what is found is in order
  found_placed : (ps : List (Pair K)) → AllByRecursion (Placed vs) ps → (x z : ℕ) → is_some (found x z ps) ≡ true → (x < z) × Present vs x × Present vs z
  found_placed [] h x z e = absurd (both_ways false refl e)
  found_placed (p ∷ ps) h x z e =
      ⊎_elim
      (λ (t : is_pair x z p ≡ true).
      let k = and_parts (eqb x p.low) (eqb z p.high) t in
      let low = eqb-true x p.low k.0 in
      let high = eqb-true z p.high k.1 in
      (subst (λ y. y < z) (sym low) (subst (λ y. p.low < y) (sym high) h.0.lower_first), subst (Present vs) (sym low) h.0.low_present, subst (Present vs) (sym high) h.0.high_present))
      (λ (t : is_pair x z p ≡ false). found_placed ps h.1 x z (sym (ap is_some (cond-false (is_pair x z p) (Some p) (found x z ps) t)) ∙ e))
      (cases_Bool (is_pair x z p))

  present_remains : (v : ℕ) → Present vs v → is_some (var_says means (slice_get vs v)) ≡ true
  present_remains v h = ap (λ o. is_some (var_says means o)) h.1

  remains_below : (v : ℕ) → is_some (var_says means (slice_get vs v)) ≡ true → v < length vs
  remains_below v e = go (slice_get vs v) refl e
    where
      go : (o : Option (Var K)) → slice_get vs v ≡ o → is_some (var_says means o) ≡ true → v < length vs
      go None is e = absurd (both_ways false refl e)
      go (Some r) is e = slice_get_within vs v r is

pub contents_sound : {K S : Type 0} (means : K → S) → ContentsSound means
contents_sound means b vs ps a = record {
  below = remains_below means b vs;
  lower_first = λ x z e. (at x z e).0;
  left = λ x z e. present_remains means b vs x (at x z e).1;
  right = λ x z e. present_remains means b vs z (at x z e).2;
}
  where
    at : (x z : ℕ) → is_some (option_map (pair_scores means) (found x z ps)) ≡ true → (x < z) × Present vs x × Present vs z
    at x z e = found_placed means b vs ps a.placed x z (sym (some_mapped (pair_scores means) (found x z ps)) ∙ e)
