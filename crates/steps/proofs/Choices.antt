-- The choice of a value: none is better than the chosen one. Assumes nothing.
use Rattle.std.proofs.Common.{◌≡◌, ℕ, Bool, true, false, cond, List, [], ◌∷◌, sym, refl, ap, ◌∙◌, ap₂, inl, inr, ⊎_elim}
use Rattle.std.proofs.lemmas.Bool.{both_ways}
use Rattle.score.specs.Model.{Model, Laws, better}
use Rattle.steps.specs.Change.{Among, Values, choice, choose}
use Rattle.steps.specs.Start.{banks}

module _ {E S : Type 0} {M : Model E S} (laws : Laws M) where
  pub at_most_same : (a : S) → M.at_most a a ≡ true
  at_most_same a = ⊎_elim (λ h. h) (λ h. h) (laws.compares a a)

  pub at_most_by : {a b : S} → a ≡ b → M.at_most a b ≡ true
  at_most_by {a} e = ap (M.at_most a) (sym e) ∙ at_most_same a

  -- where the test fails, the order is the other way
  pub at_most_turned : (a b : S) → M.at_most a b ≡ false → M.at_most b a ≡ true
  at_most_turned a b h = ⊎_elim (λ k. absurd (both_ways (M.at_most a b) h k)) (λ k. k) (laws.compares a b)

  -- joining a third score to both, on the other side
  pub keeps_left : (a b c : S) → M.at_most a b ≡ true → M.at_most (M.join c a) (M.join c b) ≡ true
  keeps_left a b c h = ap₂ M.at_most (laws.comm c a) (laws.comm c b) ∙ laws.keeps a b c h

  module _ {V : Type 0} (f : V → S) where
    kept : (p v : V) → M.at_most (f p) (f (cond (M.at_most (f v) (f p)) p v)) ≡ true
    kept p v = go (M.at_most (f v) (f p)) refl
      where
        go : (b : Bool) → M.at_most (f v) (f p) ≡ b → M.at_most (f p) (f (cond b p v)) ≡ true
        go true e = at_most_same (f p)
        go false e = at_most_turned (f v) (f p) e

    taken : (p v : V) → M.at_most (f v) (f (cond (M.at_most (f v) (f p)) p v)) ≡ true
    taken p v = go (M.at_most (f v) (f p)) refl
      where
        go : (b : Bool) → M.at_most (f v) (f p) ≡ b → M.at_most (f v) (f (cond b p v)) ≡ true
        go true e = e
        go false e = at_most_same (f v)

    first_below : (p : V) (vs : List V) → M.at_most (f p) (f (choice M f p vs)) ≡ true
    first_below p [] = at_most_same (f p)
    first_below p (v ∷ vs) = laws.trans _ _ _ (kept p v) (first_below (cond (M.at_most (f v) (f p)) p v) vs)

    listed_below : (p : V) (vs : List V) (v : V) → Among v vs → M.at_most (f v) (f (choice M f p vs)) ≡ true
    listed_below p [] v h = absurd h
    listed_below p (w ∷ vs) v (inl e) =
        let next = cond (M.at_most (f w) (f p)) p w in
        laws.trans _ _ _ (at_most_by (ap f e)) (laws.trans _ _ _ (taken p w) (first_below next vs))
    listed_below p (w ∷ vs) v (inr h) = listed_below (cond (M.at_most (f w) (f p)) p w) vs v h

    pub chosen_greatest : (vs : Values V) (y : ℕ) (v : V) → M.at_most (f v) (f (choose M vs y f)) ≡ true
    chosen_greatest vs y v = listed_below (vs.preferred y) vs.each v (vs.complete v)

-- The two banks --------------------------------------------------------------------------------------------------------------------

module _ {E S : Type 0} (M : Model E S) (y : ℕ) (f : Bool → S) where
  pub bank_chosen : choose M banks y f ≡ cond (M.at_most (f true) (f false)) false true
  bank_chosen = ap (λ p. cond (M.at_most (f true) (f p)) p true) (same (M.at_most (f false) (f false)))
    where
      same : (b : Bool) → cond b false false ≡ false
      same true = refl
      same false = refl

  pub bank_better : f (choose M banks y f) ≡ better M (f false) (f true)
  bank_better = ap f bank_chosen ∙ go (M.at_most (f true) (f false))
    where
      go : (b : Bool) → f (cond b false true) ≡ cond b (f false) (f true)
      go true = refl
      go false = refl
