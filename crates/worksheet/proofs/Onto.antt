-- Scores joined onto a variable or onto a pair. Assumes nothing.
use Rattle.std.proofs.Common.{◌≡◌, ℕ, ◌<◌, Bool, true, false, cond, ◌&&◌, eqb, List, [], ◌∷◌, length, set, Some, None, Option, sym, refl, ap, ◌∙◌, subst, ⊎_elim}
use mathlib.Core.Path.{fun_ext}
use Rattle.std.specs.Option.{option_map}
use Rattle.std.specs.List.{AllByRecursion, slice_get}
use Rattle.std.proofs.lemmas.List.{length-set}
use Rattle.std.proofs.lemmas.Bool.{eq-eqb, ne_eqb, eqb-true, cases_eq, cases_Bool, cond-true, cond-false, and_parts, and_from}
use Rattle.score.specs.Model.{Model}
use Rattle.steps.specs.Change.{onto_one, onto_two, onto_scores, onto_pair}
use Rattle.score.specs.declared.values.Four.{Four}
use Rattle.records.specs.declared.pairs.Pair.{Pair}
use Rattle.score.specs.declared.values.Two.{Two}
use Rattle.sheets.specs.Changed.{join_at, post}
use Rattle.records.specs.Pairs.{joined_pair, is_pair}
use Rattle.sheets.specs.declared.variables.Var.{Var}
use Rattle.sheets.specs.declared.variables.Var.TheVariants.{Remains, Left}
use Rattle.sheets.specs.Variables.{joined_var}
use Rattle.score.specs.Values.{at_two, joined_two, at_four, joined_four}
use Rattle.worksheet.specs.Records.{found, var_says, pair_scores, contents, Present, Placed, Apart}
use Rattle.std.proofs.lemmas.Option.{slice_get_within}
use Rattle.records.proofs.Lists.{nth_set_same, nth_set_other}
use Rattle.worksheet.proofs.Partners.{found_here, found_on_low, found_on_high}

joined_two_at : {K : Type 0} (J : K → K → K) (r t : Two K) (u : Bool) → at_two (joined_two J r t) u ≡ J (at_two r u) (at_two t u)
joined_two_at J r t true = refl
joined_two_at J r t false = refl

joined_four_at : {K : Type 0} (J : K → K → K) (f g : Four K) (u w : Bool) → at_four (joined_four J f g) u w ≡ J (at_four f u w) (at_four g u w)
joined_four_at J f g false false = refl
joined_four_at J f g false true = refl
joined_four_at J f g true false = refl
joined_four_at J f g true true = refl

module _ {K : Type 0} (J : K → K → K) (vs : List (Var K)) (x : ℕ) (t : Two K) where
  pub join_at_some : (r : Var K) → slice_get vs x ≡ Some r → join_at J vs x t ≡ set vs x (joined_var J r t)
  join_at_some r e = ap (λ q. elim q [ None ↦ vs | Some r ↦ set vs x (joined_var J r t) ]) e

  pub join_at_other : (v : ℕ) → (v ≡ x → ⊥) → slice_get (join_at J vs x t) v ≡ slice_get vs v
  join_at_other v d = go (slice_get vs x)
    where
      go : (q : Option (Var K)) → slice_get (elim q [ None ↦ vs | Some r ↦ set vs x (joined_var J r t) ]) v ≡ slice_get vs v
      go None = refl
      go (Some r) = nth_set_other vs x v (joined_var J r t) d

  pub join_at_same : (r : Var K) → slice_get vs x ≡ Some r → slice_get (join_at J vs x t) x ≡ Some (joined_var J r t)
  join_at_same r e = ap (λ ws. slice_get ws x) (join_at_some r e) ∙ nth_set_same vs x (joined_var J r t) (slice_get_within vs x r e)

  pub join_at_length : length (join_at J vs x t) ≡ length vs
  join_at_length = go (slice_get vs x)
    where
      go : (q : Option (Var K)) → length {A = Var K} (elim q [ None ↦ vs | Some r ↦ set vs x (joined_var J r t) ]) ≡ length vs
      go None = refl
      go (Some r) = length-set vs x (joined_var J r t)

  pub join_at_present : (v : ℕ) → Present vs v → Present (join_at J vs x t) v
  join_at_present v h =
      ⊎_elim
      (λ (e : v ≡ x). (joined_two J h.0 t, ap (slice_get (join_at J vs x t)) e ∙ join_at_same (Remains h.0) (ap (slice_get vs) (sym e) ∙ h.1)))
      (λ (e : v ≡ x → ⊥). (h.0, join_at_other v e ∙ h.1))
      (cases_eq v x)

  pub join_at_placed : (ps : List (Pair K)) → AllByRecursion (Placed vs) ps → AllByRecursion (Placed (join_at J vs x t)) ps
  join_at_placed [] h = tt
  join_at_placed (p ∷ ps) h = (
    record { lower_first = h.0.lower_first; low_present = join_at_present p.low h.0.low_present; high_present = join_at_present p.high h.0.high_present },
    join_at_placed ps h.1,
  )

module _ {E S K : Type 0} (M : Model E S) (means : K → S) (J : K → K → K) (vs : List (Var K)) (x : ℕ) (t : Two K) (g : Bool → S)
    (exact : (r : Two K) → slice_get vs x ≡ Some (Remains r) → (u : Bool) → means (J (at_two r u) (at_two t u)) ≡ M.join (means (at_two r u)) (g u)) where
  -- what x then says
  pub joined_says : var_says means (slice_get (join_at J vs x t) x) ≡ option_map (onto_scores M g) (var_says means (slice_get vs x))
  joined_says = go (slice_get vs x) refl
    where
      there : (r : Var K) → slice_get vs x ≡ Some r
          → var_says means (Some (joined_var J r t)) ≡ option_map (onto_scores M g) (var_says means (Some r))
      there (Remains r) e = ap Some (fun_ext (λ u. ap means (joined_two_at J r t u) ∙ exact r e u))
      there (Left r) e = refl

      go : (q : Option (Var K)) → slice_get vs x ≡ q → var_says means (slice_get (join_at J vs x t) x) ≡ option_map (onto_scores M g) (var_says means q)
      go None e = ap (λ q. var_says means (slice_get (elim q [ None ↦ vs | Some r ↦ set vs x (joined_var J r t) ]) x)) e ∙ ap (var_says means) e
      go (Some r) e = ap (var_says means) (join_at_same J vs x t r e) ∙ there r e

  pub onto_one_says : (base : K) (ps : List (Pair K)) → contents means base (join_at J vs x t) ps ≡ onto_one M x g (contents means base vs ps)
  onto_one_says base ps = λ i. record {
    size = join_at_length J vs x t i;
    base = means base;
    one = λ v. one_is v i;
    two = λ a b. option_map (pair_scores means) (found a b ps);
  }
    where
      one_is : (v : ℕ) → var_says means (slice_get (join_at J vs x t) v) ≡ cond (eqb v x) (option_map (onto_scores M g) (var_says means (slice_get vs x))) (var_says means (slice_get vs v))
      one_is v =
          ⊎_elim
          (λ (e : v ≡ x). ap (λ q. var_says means (slice_get (join_at J vs x t) q)) e ∙ joined_says ∙ sym (cond-true (eqb v x) _ (var_says means (slice_get vs v)) (eq-eqb v x e)))
          (λ (e : v ≡ x → ⊥). ap (var_says means) (join_at_other J vs x t v e) ∙ sym (cond-false (eqb v x) _ (var_says means (slice_get vs v)) (ne_eqb v x e)))
          (cases_eq v x)

-- A post onto a pair -----------------------------------------------------------------------------------------------------------------

module _ {K : Type 0} (J : K → K → K) (x z : ℕ) (f : Four K) where
  abbrev new_pair : Pair K
  new_pair = record { low = x; high = z; scores = f }

  post_onto : (p : Pair K) (ps : List (Pair K)) → is_pair x z p ≡ true → post J x z f (p ∷ ps) ≡ joined_pair J p f ∷ ps
  post_onto p ps e = cond-true (is_pair x z p) _ _ e

  post_on : (p : Pair K) (ps : List (Pair K)) → is_pair x z p ≡ false → post J x z f (p ∷ ps) ≡ p ∷ post J x z f ps
  post_on p ps e = cond-false (is_pair x z p) _ _ e

  keys : (p : Pair K) → is_pair x z p ≡ true → (x ≡ p.low) × (z ≡ p.high)
  keys p e = let q = and_parts (eqb x p.low) (eqb z p.high) e in (eqb-true x p.low q.0, eqb-true z p.high q.1)

  -- the pair of x and z after the post
  abbrev posted : Option (Pair K) → Pair K
  posted None = new_pair
  posted (Some p) = joined_pair J p f

  pub found_posted : (ps : List (Pair K)) → found x z (post J x z f ps) ≡ Some (posted (found x z ps))
  found_posted [] = found_here x z new_pair [] refl refl
  found_posted (p ∷ ps) =
      ⊎_elim
      (λ (e : is_pair x z p ≡ true).
      ap (found x z) (post_onto p ps e) ∙ cond-true (is_pair x z p) (Some (joined_pair J p f)) (found x z ps) e ∙ sym (ap (λ o. Some (posted o)) (cond-true (is_pair x z p) (Some p) (found x z ps) e)))
      (λ (e : is_pair x z p ≡ false).
      ap (found x z) (post_on p ps e) ∙ cond-false (is_pair x z p) (Some p) (found x z (post J x z f ps)) e ∙ found_posted ps ∙ sym (ap (λ o. Some (posted o)) (cond-false (is_pair x z p) (Some p) (found x z ps) e)))
      (cases_Bool (is_pair x z p))

  pub found_unposted : (ps : List (Pair K)) (a b : ℕ) → ((a ≡ x) × (b ≡ z) → ⊥) → found a b (post J x z f ps) ≡ found a b ps
  found_unposted [] a b d = elsewhere a b new_pair [] (λ e h. d (e, h))
    where
      elsewhere : (a b : ℕ) (p : Pair K) (ps : List (Pair K)) → (a ≡ p.low → b ≡ p.high → ⊥) → found a b (p ∷ ps) ≡ found a b ps
      elsewhere a b p ps d =
          ⊎_elim
          (λ (e : a ≡ p.low). ⊎_elim (λ (h : b ≡ p.high). absurd (d e h)) (λ (h : b ≡ p.high → ⊥). found_on_high a b p ps h) (cases_eq b p.high))
          (λ (e : a ≡ p.low → ⊥). found_on_low a b p ps e)
          (cases_eq a p.low)
  found_unposted (p ∷ ps) a b d =
      ⊎_elim
      (λ (e : is_pair x z p ≡ true).
      let k = keys p e in
      let off : is_pair a b p ≡ false = ⊎_elim (λ (t : is_pair a b p ≡ true). let q = and_parts (eqb a p.low) (eqb b p.high) t in absurd (d (eqb-true a p.low q.0 ∙ sym k.0, eqb-true b p.high q.1 ∙ sym k.1))) (λ (t : is_pair a b p ≡ false). t) (cases_Bool (is_pair a b p)) in
      ap (found a b) (post_onto p ps e) ∙ cond-false (is_pair a b p) (Some (joined_pair J p f)) (found a b ps) off ∙ sym (cond-false (is_pair a b p) (Some p) (found a b ps) off))
      (λ (e : is_pair x z p ≡ false). ap (found a b) (post_on p ps e) ∙ ap (cond (is_pair a b p) (Some p)) (found_unposted ps a b d))
      (cases_Bool (is_pair x z p))

  pub post_placed : (vs : List (Var K)) (ps : List (Pair K)) → x < z → Present vs x → Present vs z → AllByRecursion (Placed vs) ps → AllByRecursion (Placed vs) (post J x z f ps)
  post_placed vs [] lt px pz h = (record { lower_first = lt; low_present = px; high_present = pz }, tt)
  post_placed vs (p ∷ ps) lt px pz h =
      ⊎_elim
      (λ (e : is_pair x z p ≡ true). subst (AllByRecursion (Placed vs)) (sym (post_onto p ps e)) (record { lower_first = h.0.lower_first; low_present = h.0.low_present; high_present = h.0.high_present }, h.1))
      (λ (e : is_pair x z p ≡ false). subst (AllByRecursion (Placed vs)) (sym (post_on p ps e)) (h.0, post_placed vs ps lt px pz h.1))
      (cases_Bool (is_pair x z p))

  pub post_apart : (ps : List (Pair K)) → Apart ps → Apart (post J x z f ps)
  post_apart [] h = (refl, tt)
  post_apart (p ∷ ps) h =
      ⊎_elim
      (λ (e : is_pair x z p ≡ true). subst Apart (sym (post_onto p ps e)) (h.0, h.1))
      (λ (e : is_pair x z p ≡ false).
      subst Apart (sym (post_on p ps e)) (
        found_unposted ps p.low p.high (λ q. absurd (apart e (and_from (eqb x p.low) (eqb z p.high) (eq-eqb x p.low (sym q.0)) (eq-eqb z p.high (sym q.1))))) ∙ h.0,
        post_apart ps h.1,
      ))
      (cases_Bool (is_pair x z p))
    where
      apart : {t : Bool} → t ≡ false → t ≡ true → ⊥
      apart e h = let z : false ≡ true = sym e ∙ h in cc

module _ {E S K : Type 0} (M : Model E S) (means : K → S) (J : K → K → K) (x z : ℕ) (f : Four K) (g : Bool → Bool → S) (ps : List (Pair K))
    (fresh : (u w : Bool) → means (at_four f u w) ≡ g u w)
    (exact : (p : Pair K) → found x z ps ≡ Some p → (u w : Bool) → means (J (at_four p.scores u w) (at_four f u w)) ≡ M.join (pair_scores means p u w) (g u w)) where
  posted_says : (o : Option (Pair K)) → found x z ps ≡ o → pair_scores means (posted J x z f o) ≡ onto_pair M g (option_map (pair_scores means) o)
  posted_says None e = fun_ext (λ u. fun_ext (λ w. fresh u w))
  posted_says (Some p) e = fun_ext (λ u. fun_ext (λ w. ap means (joined_four_at J p.scores f u w) ∙ exact p e u w))

  pub onto_two_says : (base : K) (vs : List (Var K)) → contents means base vs (post J x z f ps) ≡ onto_two M x z g (contents means base vs ps)
  onto_two_says base vs = λ i. record {
    size = length vs;
    base = means base;
    one = λ v. var_says means (slice_get vs v);
    two = λ a b. two_is a b i;
  }
    where
      two_is : (a b : ℕ) → option_map (pair_scores means) (found a b (post J x z f ps))
          ≡ cond (eqb a x && eqb b z) (Some (onto_pair M g (option_map (pair_scores means) (found x z ps)))) (option_map (pair_scores means) (found a b ps))
      two_is a b =
          ⊎_elim
          (λ (t : (eqb a x && eqb b z) ≡ true).
          let q = and_parts (eqb a x) (eqb b z) t in
          ap (λ c. option_map (pair_scores means) (found c b (post J x z f ps))) (eqb-true a x q.0)
          ∙ ap (λ c. option_map (pair_scores means) (found x c (post J x z f ps))) (eqb-true b z q.1)
          ∙ ap (option_map (pair_scores means)) (found_posted J x z f ps)
          ∙ ap Some (posted_says (found x z ps) refl)
          ∙ sym (cond-true (eqb a x && eqb b z) _ (option_map (pair_scores means) (found a b ps)) t))
          (λ (t : (eqb a x && eqb b z) ≡ false).
          ap (option_map (pair_scores means)) (found_unposted J x z f ps a b (λ q. off t (and_from (eqb a x) (eqb b z) (eq-eqb a x q.0) (eq-eqb b z q.1))))
          ∙ sym (cond-false (eqb a x && eqb b z) _ (option_map (pair_scores means) (found a b ps)) t))
          (cases_Bool (eqb a x && eqb b z))
        where
          off : {t : Bool} → t ≡ false → t ≡ true → ⊥
          off e h = let z : false ≡ true = sym e ∙ h in cc
