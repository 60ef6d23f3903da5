-- Numbers are a score kind, and so counting is joining. Assumes nothing.
use Rattle.std.proofs.Common.{◌≡◌, ℕ, zero, suc, ◌+◌, ◌<◌, ◌≤◌, Bool, true, false, cond, eqb, refl, ap, ◌∙◌, inl, inr, ⊎_elim, arith}
use Rattle.std.proofs.lemmas.Bool.{leb-true, le-leb, cases_lt, eqb-false, both_ways}
use Rattle.score.specs.Model.{Laws}
use Rattle.steps.specs.Sheet.{numbers, count}
use Rattle.steps.proofs.Joins.{over_at, over_same, over_same_below, over_neutral}

pub numbers_laws : Laws numbers
numbers_laws = record {
  assoc = λ a b c. omega arith;
  comm = λ a b. omega arith;
  unit = λ a. omega arith;
  compares = λ a b. ⊎_elim (λ h. inl (le-leb a b (omega arith))) (λ h. inr (le-leb b a (omega arith))) (cases_lt a b);
  trans = λ a b c p q. le-leb a c (omega (arith, leb-true a b p, leb-true b c q));
  antisym = λ a b p q. omega (arith, leb-true a b p, leb-true b a q);
  keeps = λ a b c p. le-leb (a + c) (b + c) (omega (arith, leb-true a b p));
}

-- the test p, passed by all but y
abbrev pub but : ℕ → (ℕ → Bool) → ℕ → Bool
but y p v = cond (eqb v y) false (p v)

abbrev pub mark : Bool → ℕ
mark b = cond b 1 0

pub count_but : (n y : ℕ) (p : ℕ → Bool) → y < n → count n p ≡ count n (but y p) + mark (p y)
count_but n y p h =
    over_at numbers_laws n y (λ v. mark (p v)) h
    ∙ ap (λ m. m + mark (p y)) (over_same numbers_laws n _ _
    (λ v. elim (eqb v y) as (λ b. cond b 0 (mark (p v)) ≡ mark (cond b false (p v))) [ true ↦ refl | false ↦ refl ]))

pub count_one : (n y : ℕ) (p : ℕ → Bool) → y < n → p y ≡ true → count n p ≡ suc (count n (but y p))
count_one n y p h e =
    let parts : count n p ≡ count n (but y p) + 1 = count_but n y p h ∙ ap (λ b. count n (but y p) + mark b) e in
    omega arith

-- none passes where the count is 0
pub count_none : (n : ℕ) (p : ℕ → Bool) → count n p ≡ 0 → (v : ℕ) → v < n → p v ≡ false
count_none n p e v h = go (p v) refl
  where
    go : (b : Bool) → p v ≡ b → b ≡ false
    go true r = absurd (omega (arith, count_one n v p h r))
    go false r = refl

pub count_below : (n : ℕ) (p q : ℕ → Bool) → ((v : ℕ) → v < n → p v ≡ true → q v ≡ true) → count n p ≤ count n q
count_below zero p q h = omega arith
count_below (suc n) p q h = step (count_below n p q (λ v k e. h v (omega arith) e))
  where
    one : (b c : Bool) → (b ≡ true → c ≡ true) → mark b ≤ mark c
    one true true k = omega arith
    one true false k = absurd (both_ways false refl (k refl))
    one false true k = omega arith
    one false false k = omega arith

    step : count n p ≤ count n q → count (suc n) p ≤ count (suc n) q
    step ih = let last : mark (p n) ≤ mark (q n) = one (p n) (q n) (h n (omega arith)) in omega arith

pub count_same : (n : ℕ) (p q : ℕ → Bool) → ((v : ℕ) → v < n → p v ≡ q v) → count n p ≡ count n q
count_same n p q h = over_same_below numbers_laws n _ _ (λ v k. ap mark (h v k))

pub count_zero : (n : ℕ) (p : ℕ → Bool) → ((v : ℕ) → v < n → p v ≡ false) → count n p ≡ 0
count_zero n p h = count_same n p (λ _. false) h ∙ over_neutral numbers_laws n

pub count_size : (n : ℕ) (p : ℕ → Bool) → count n p ≤ n
count_size zero p = omega arith
count_size (suc n) p =
    let ih = count_size n p in
    let last : mark (p n) ≤ 1 = elim (p n) as (λ b. mark b ≤ 1) [ true ↦ omega arith | false ↦ omega arith ] in
    omega arith

-- what passes but for x is not x
pub but_parts : (p : ℕ → Bool) (x v : ℕ) → but x p v ≡ true → (v ≡ x → ⊥) × (p v ≡ true)
but_parts p x v h = go (eqb v x) refl h
  where
    go : (b : Bool) → eqb v x ≡ b → cond b false (p v) ≡ true → (v ≡ x → ⊥) × (p v ≡ true)
    go true e k = absurd (both_ways false refl k)
    go false e k = (eqb-false v x e, k)
