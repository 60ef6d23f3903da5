-- Joins over all variables and all pairs of variables. Assumes nothing.
use Rattle.std.proofs.Common.{◌≡◌, ℕ, zero, suc, ◌<◌, ◌≤◌, Bool, true, false, cond, ◌&&◌, eqb, sym, refl, ap, ◌∙◌, ap₂, ⊎_elim, arith}
use mathlib.Core.Path.{fun_ext}
use Rattle.std.proofs.lemmas.Bool.{eqb-true, ne_eqb, eq-eqb, cases_eq}
use Rattle.score.specs.Model.{Model, Laws}
use Rattle.steps.specs.Sheet.{over}

-- a test that two numbers are the same, put to use
pub at_same : {A : Type 0} (v : ℕ) (x y : A) → cond (eqb v v) x y ≡ x
at_same v x y = ap (λ b. cond b x y) (eq-eqb v v refl)

pub at_other : {A : Type 0} (v y : ℕ) (x z : A) → (v ≡ y → ⊥) → cond (eqb v y) x z ≡ z
at_other v y x z d = ap (λ b. cond b x z) (ne_eqb v y d)

-- what is looked at only where v is y may be looked at y
pub at_that : {A : Type 0} (f : ℕ → A) (v y : ℕ) (z : A) → cond (eqb v y) (f v) z ≡ cond (eqb v y) (f y) z
at_that f v y z = go (eqb v y) refl
  where
    go : (b : Bool) → eqb v y ≡ b → cond b (f v) z ≡ cond b (f y) z
    go true e = ap f (eqb-true v y e)
    go false e = refl

-- the base, all variables and all pairs joined
abbrev pub total : {E S : Type 0} → Model E S → ℕ → S → (ℕ → S) → (ℕ → ℕ → S) → S
total M n b o t = M.join b (M.join (over M n o) (over M n (λ x. over M n (t x))))

abbrev pub only : {E S : Type 0} → Model E S → ℕ → S → ℕ → S
only M y c v = cond (eqb v y) c M.neutral

module _ {E S : Type 0} {M : Model E S} (laws : Laws M) where
  pub unit_right : (a : S) → M.join a M.neutral ≡ a
  unit_right a = laws.comm a M.neutral ∙ laws.unit a

  pub swap_last : (a b c : S) → M.join (M.join a b) c ≡ M.join (M.join a c) b
  swap_last a b c = laws.assoc a b c ∙ ap (M.join a) (laws.comm b c) ∙ sym (laws.assoc a c b)

  pub swap_middle : (a b c d : S) → M.join (M.join a b) (M.join c d) ≡ M.join (M.join a c) (M.join b d)
  swap_middle a b c d =
      sym (laws.assoc (M.join a b) c d) ∙ ap (λ x. M.join x d) (swap_last a b c) ∙ laws.assoc (M.join a c) b d

  pub over_same : (n : ℕ) (f g : ℕ → S) → ((v : ℕ) → f v ≡ g v) → over M n f ≡ over M n g
  over_same n f g e = ap (over M n) (fun_ext e)

  pub over_same_below : (n : ℕ) (f g : ℕ → S) → ((v : ℕ) → v < n → f v ≡ g v) → over M n f ≡ over M n g
  over_same_below zero f g e = refl
  over_same_below (suc n) f g e = ap₂ M.join (over_same_below n f g (λ v h. e v (omega arith))) (e n (omega arith))

  pub over_join : (n : ℕ) (f g : ℕ → S) → over M n (λ v. M.join (f v) (g v)) ≡ M.join (over M n f) (over M n g)
  over_join zero f g = sym (laws.unit M.neutral)
  over_join (suc n) f g =
      ap (λ x. M.join x (M.join (f n) (g n))) (over_join n f g) ∙ swap_middle (over M n f) (over M n g) (f n) (g n)

  pub over_neutral : (n : ℕ) → over M n (λ _. M.neutral) ≡ M.neutral
  over_neutral zero = refl
  over_neutral (suc n) = unit_right (over M n (λ _. M.neutral)) ∙ over_neutral n

  only_past : (n y : ℕ) (c : S) → n ≤ y → over M n (only M y c) ≡ M.neutral
  only_past zero y c h = refl
  only_past (suc n) y c h =
      ap₂ M.join (only_past n y c (omega arith)) (at_other n y c M.neutral (omega arith)) ∙ laws.unit M.neutral

  pub over_only : (n y : ℕ) (c : S) → y < n → over M n (only M y c) ≡ c
  over_only zero y c h = absurd (omega arith)
  over_only (suc n) y c h = ⊎_elim here (there (λ k. over_only n y c k)) (cases_eq n y)
    where
      here : n ≡ y → over M (suc n) (only M y c) ≡ c
      here e =
          ap₂ M.join (only_past n y c (omega arith)) (ap (λ b. cond b c M.neutral) (eq-eqb n y e)) ∙ laws.unit c

      there : (y < n → over M n (only M y c) ≡ c) → (n ≡ y → ⊥) → over M (suc n) (only M y c) ≡ c
      there ih d = ap₂ M.join (ih (omega arith)) (at_other n y c M.neutral d) ∙ unit_right c

  -- the join at y, and all others
  pub over_at : (n y : ℕ) (f : ℕ → S) → y < n → over M n f ≡ M.join (over M n (λ v. cond (eqb v y) M.neutral (f v))) (f y)
  over_at n y f h =
      over_same n f (λ v. M.join (cond (eqb v y) M.neutral (f v)) (only M y (f y) v)) parts
      ∙ over_join n (λ v. cond (eqb v y) M.neutral (f v)) (only M y (f y))
      ∙ ap (M.join (over M n (λ v. cond (eqb v y) M.neutral (f v)))) (over_only n y (f y) h)
    where
      parts : (v : ℕ) → f v ≡ M.join (cond (eqb v y) M.neutral (f v)) (only M y (f y) v)
      parts v = go (eqb v y) refl
        where
          go : (b : Bool) → eqb v y ≡ b → f v ≡ M.join (cond b M.neutral (f v)) (cond b (f y) M.neutral)
          go true e = ap f (eqb-true v y e) ∙ sym (laws.unit (f y))
          go false e = sym (unit_right (f v))

  pub over_join_two : (n : ℕ) (t k : ℕ → ℕ → S)
      → over M n (λ a. over M n (λ b. M.join (t a b) (k a b)))
      ≡ M.join (over M n (λ a. over M n (t a))) (over M n (λ a. over M n (k a)))
  over_join_two n t k =
      over_same n _ (λ a. M.join (over M n (t a)) (over M n (k a))) (λ a. over_join n (t a) (k a))
      ∙ over_join n (λ a. over M n (t a)) (λ a. over M n (k a))

  pub total_join : (n : ℕ) (b c : S) (o h : ℕ → S) (t k : ℕ → ℕ → S)
      → total M n (M.join b c) (λ v. M.join (o v) (h v)) (λ x y. M.join (t x y) (k x y))
      ≡ M.join (total M n b o t) (total M n c h k)
  total_join n b c o h t k =
      ap (M.join (M.join b c)) (ap₂ M.join (over_join n o h) (over_join_two n t k)
      ∙ swap_middle (over M n o) (over M n h) (over M n (λ a. over M n (t a))) (over M n (λ a. over M n (k a))))
      ∙ swap_middle b c (M.join (over M n o) (over M n (λ a. over M n (t a)))) (M.join (over M n h) (over M n (λ a. over M n (k a))))

  pub total_same : (n : ℕ) (b c : S) (o h : ℕ → S) (t k : ℕ → ℕ → S)
      → b ≡ c → ((v : ℕ) → o v ≡ h v) → ((x y : ℕ) → t x y ≡ k x y) → total M n b o t ≡ total M n c h k
  total_same n b c o h t k p q r i = total M n (p i) (λ v. q v i) (λ x y. r x y i)

  -- no pairs
  pub over_two_neutral : (n : ℕ) → over M n (λ _. over M n (λ _. M.neutral)) ≡ M.neutral
  over_two_neutral n = over_same n _ _ (λ _. over_neutral n) ∙ over_neutral n

  pub total_base : (n : ℕ) (c : S) → total M n c (λ _. M.neutral) (λ _ _. M.neutral) ≡ c
  total_base n c =
      ap (M.join c) (ap₂ M.join (over_neutral n) (over_two_neutral n) ∙ laws.unit M.neutral) ∙ unit_right c

  pub total_ones : (n : ℕ) (c : S) (o : ℕ → S) → total M n c o (λ _ _. M.neutral) ≡ M.join c (over M n o)
  total_ones n c o = ap (M.join c) (ap (M.join (over M n o)) (over_two_neutral n) ∙ unit_right (over M n o))

  -- one pair only
  pub total_pair : (n x z : ℕ) (c : S) → x < n → z < n
      → total M n M.neutral (λ _. M.neutral) (λ a b. cond (eqb a x && eqb b z) c M.neutral) ≡ c
  total_pair n x z c p q =
      let pairs = over M n (λ a. over M n (λ b. cond (eqb a x && eqb b z) c M.neutral)) in
      laws.unit _ ∙ ap (λ a. M.join a pairs) (over_neutral n) ∙ laws.unit pairs
      ∙ over_same n _ (only M x c) row ∙ over_only n x c p
    where
      row : (a : ℕ) → over M n (λ b. cond (eqb a x && eqb b z) c M.neutral) ≡ only M x c a
      row a = go (eqb a x)
        where
          go : (e : Bool) → over M n (λ b. cond (e && eqb b z) c M.neutral) ≡ cond e c M.neutral
          go true = over_only n z c q
          go false = over_neutral n
