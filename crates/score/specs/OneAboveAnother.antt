-- One kind above another keeps the laws of scores where the first kind's join can be cancelled. Assumes nothing.
use Rattle.std.specs.Prelude.{◌≡◌, Bool, true, false, cond, ◌&&◌, ◌⊎◌}
use Rattle.std.proofs.Math.Path.{refl, ap, subst}
use Rattle.std.proofs.Common.{sym, ◌∙◌}
use Rattle.std.proofs.Math.Logic.{inl, inr, ⊎_elim}
use Rattle.std.proofs.lemmas.Bool.{both_ways, and_parts, and_from, cases_Bool}
use Rattle.score.specs.Model.{Model, Laws}
use Rattle.score.specs.Tiered.{tiers, tiers_at_most}

-- every score is at most itself
pub at_most_same : {E S : Type 0} (M : Model E S) → Laws M → (a : S) → M.at_most a a ≡ true
at_most_same M laws a = ⊎_elim (λ h. h) (λ h. h) (laws.compares a a)

-- what is not at most another is above it
pub above : {E S : Type 0} (M : Model E S) → Laws M → (a b : S) → M.at_most b a ≡ false → M.at_most a b ≡ true
above M laws a b h = ⊎_elim (λ k. k) (λ k. absurd (both_ways _ h k)) (laws.compares a b)

module _ {P E F A B : Type 0} (first_of : P → E) (second_of : P → F) (first : Model E A) (second : Model F B) (one : Laws first) (two : Laws second) where
  -- strictly below in the first part, or equal there and at most in the second
  Below : A × B → A × B → Type 0
  Below x y = (first.at_most y.0 x.0 ≡ false) ⊎ ((x.0 ≡ y.0) × (second.at_most x.1 y.1 ≡ true))

  tiered_below : (x y : A × B) → tiers_at_most first_of second_of first second x y ≡ true → Below x y
  unfolding Below
  tiered_below x y h = go (first.at_most y.0 x.0) refl h
    where
      go : (t : Bool) → first.at_most y.0 x.0 ≡ t → cond t (first.at_most x.0 y.0 && second.at_most x.1 y.1) true ≡ true
          → (first.at_most y.0 x.0 ≡ false) ⊎ ((x.0 ≡ y.0) × (second.at_most x.1 y.1 ≡ true))
      go true e k = let both = and_parts _ _ k in inr (one.antisym x.0 y.0 both.0 e, both.1)
      go false e k = inl e

  below_tiered : (x y : A × B) → Below x y → tiers_at_most first_of second_of first second x y ≡ true
  unfolding Below
  below_tiered x y (inl h) = ap (λ t. cond t (first.at_most x.0 y.0 && second.at_most x.1 y.1) true) h
  below_tiered x y (inr h) =
      let le : first.at_most x.0 y.0 ≡ true = subst (λ a. first.at_most x.0 a ≡ true) h.0 (at_most_same first one x.0) in
      let ge : first.at_most y.0 x.0 ≡ true = subst (λ a. first.at_most a x.0 ≡ true) h.0 (at_most_same first one x.0) in
      ap (λ t. cond t (first.at_most x.0 y.0 && second.at_most x.1 y.1) true) ge ∙ and_from _ _ le h.1

  module _ (cancels : (a b c : A) → first.join a c ≡ first.join b c → a ≡ b) where
    trans : (x y z : A × B) → Below x y → Below y z → Below x z
    unfolding Below
    trans x y z (inl h) (inl k) = inl (strict x y z h (above first one y.0 z.0 k))
      where
        strict : (x y z : A × B) → first.at_most y.0 x.0 ≡ false → first.at_most y.0 z.0 ≡ true → first.at_most z.0 x.0 ≡ false
        strict x y z h k = ⊎_elim (λ e. absurd (both_ways _ h (one.trans y.0 z.0 x.0 k e))) (λ e. e) (cases_Bool (first.at_most z.0 x.0))
    trans x y z (inl h) (inr k) = inl (subst (λ a. first.at_most a x.0 ≡ false) k.0 h)
    trans x y z (inr h) (inl k) = inl (subst (λ a. first.at_most z.0 a ≡ false) (sym h.0) k)
    trans x y z (inr h) (inr k) = inr (h.0 ∙ k.0, two.trans x.1 y.1 z.1 h.1 k.1)

    antisym : (x y : A × B) → Below x y → Below y x → x ≡ y
    unfolding Below
    antisym x y (inl h) (inl k) = absurd (both_ways _ h (above first one y.0 x.0 k))
    antisym x y (inl h) (inr k) = absurd (both_ways _ h (subst (λ a. first.at_most y.0 a ≡ true) k.0 (at_most_same first one y.0)))
    antisym x y (inr h) (inl k) = absurd (both_ways _ k (subst (λ a. first.at_most x.0 a ≡ true) h.0 (at_most_same first one x.0)))
    antisym x y (inr h) (inr k) = λ i. (h.0 i, two.antisym x.1 y.1 h.1 k.1 i)

    compares : (x y : A × B) → Below x y ⊎ Below y x
    unfolding Below
    compares x y = ⊎_elim below (λ e. inl (inl e)) (cases_Bool (first.at_most y.0 x.0))
      where
        Goal : Type 0
        Goal = Below x y ⊎ Below y x

        equal : first.at_most y.0 x.0 ≡ true → first.at_most x.0 y.0 ≡ true → Goal
        equal h k = let e = one.antisym x.0 y.0 k h in ⊎_elim (λ m. inl (inr (e, m))) (λ m. inr (inr (sym e, m))) (two.compares x.1 y.1)

        below : first.at_most y.0 x.0 ≡ true → Goal
        below h = ⊎_elim (equal h) (λ e. inr (inl e)) (cases_Bool (first.at_most x.0 y.0))

    keeps : (x y z : A × B) → Below x y → Below (first.join x.0 z.0, second.join x.1 z.1) (first.join y.0 z.0, second.join y.1 z.1)
    unfolding Below
    keeps x y z (inl h) = inl (⊎_elim (λ e. absurd (both_ways _ h (same e))) (λ e. e) (cases_Bool (first.at_most (first.join y.0 z.0) (first.join x.0 z.0))))
      where
        same : first.at_most (first.join y.0 z.0) (first.join x.0 z.0) ≡ true → first.at_most y.0 x.0 ≡ true
        same e =
            let up = one.keeps x.0 y.0 z.0 (above first one x.0 y.0 h) in
            let eq = cancels x.0 y.0 z.0 (one.antisym _ _ up e) in
            subst (λ a. first.at_most y.0 a ≡ true) (sym eq) (at_most_same first one y.0)
    keeps x y z (inr h) = inr (ap (λ a. first.join a z.0) h.0, two.keeps x.1 y.1 z.1 h.1)

    pub tiers_laws : Laws (tiers first_of second_of first second)
    tiers_laws = record {
      assoc = λ x y z i. (one.assoc x.0 y.0 z.0 i, two.assoc x.1 y.1 z.1 i);
      comm = λ x y i. (one.comm x.0 y.0 i, two.comm x.1 y.1 i);
      unit = λ x i. (one.unit x.0 i, two.unit x.1 i);
      compares = λ x y. ⊎_elim (λ h. inl (below_tiered x y h)) (λ h. inr (below_tiered y x h)) (compares x y);
      trans = λ x y z h k. below_tiered x z (trans x y z (tiered_below x y h) (tiered_below y z k));
      antisym = λ x y h k. antisym x y (tiered_below x y h) (tiered_below y x k);
      keeps = λ x y z h. below_tiered _ _ (keeps x y z (tiered_below x y h));
    }
