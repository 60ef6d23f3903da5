-- Lists read at an index, written, cut and joined. Assumes nothing.
use Rattle.std.proofs.Common.{◌≡◌, ℕ, zero, suc, ◌+◌, ◌-◌, ◌<◌, ◌≤◌, List, [], ◌∷◌, ◌++◌, length, take, set, replicate, Some, None, sym, refl, ap, ◌∙◌, arith}
use Rattle.std.specs.List.{slice_get}

module _ {X : Type 0} where
  pub nth_set_same : (xs : List X) (i : ℕ) (x : X) → i < length xs → slice_get (set xs i x) i ≡ Some x
  nth_set_same [] i x h = absurd (omega (arith, h))
  nth_set_same (y ∷ ys) zero x h = refl
  nth_set_same (y ∷ ys) (suc i) x h = nth_set_same ys i x (omega (arith, h))

  pub nth_set_other : (xs : List X) (i j : ℕ) (x : X) → (j ≡ i → ⊥) → slice_get (set xs i x) j ≡ slice_get xs j
  nth_set_other [] i j x h = refl
  nth_set_other (y ∷ ys) zero zero x h = absurd (h refl)
  nth_set_other (y ∷ ys) zero (suc j) x h = refl
  nth_set_other (y ∷ ys) (suc i) zero x h = refl
  nth_set_other (y ∷ ys) (suc i) (suc j) x h = nth_set_other ys i j x (λ e. h (ap suc e))

  pub take_set : (xs : List X) (n i : ℕ) (x : X) → take n (set xs i x) ≡ set (take n xs) i x
  take_set [] zero i x = refl
  take_set [] (suc n) i x = refl
  take_set (y ∷ ys) zero i x = refl
  take_set (y ∷ ys) (suc n) zero x = refl
  take_set (y ∷ ys) (suc n) (suc i) x = ap (λ zs. y ∷ zs) (take_set ys n i x)

  pub nth_take : (xs : List X) (n i : ℕ) → i < n → slice_get (take n xs) i ≡ slice_get xs i
  nth_take [] zero i h = refl
  nth_take [] (suc n) i h = refl
  nth_take (x ∷ xs) zero i h = absurd (omega (arith, h))
  nth_take (x ∷ xs) (suc n) zero h = refl
  nth_take (x ∷ xs) (suc n) (suc i) h = nth_take xs n i (omega (arith, h))

  pub nth_none : (xs : List X) (i : ℕ) → slice_get xs i ≡ None → length xs ≤ i
  nth_none [] i e = omega arith
  nth_none (x ∷ xs) zero e = absurd cc
  nth_none (x ∷ xs) (suc i) e = omega (arith, nth_none xs i e)

  -- an old element put back
  pub set_back : (xs : List X) (i : ℕ) (old new : X) → slice_get xs i ≡ Some old → set (set xs i new) i old ≡ xs
  set_back [] i old new h = refl
  set_back (y ∷ ys) zero old new h = let e : y ≡ old = cc in ap (λ z. z ∷ ys) (sym e)
  set_back (y ∷ ys) (suc i) old new h = ap (λ zs. y ∷ zs) (set_back ys i old new h)

  -- the last element taken off again
  pub take_pushed : (xs : List X) (x : X) → take (length (xs ++ x ∷ []) - 1) (xs ++ x ∷ []) ≡ xs
  take_pushed xs x = go xs (length (xs ++ x ∷ []) - 1) (omega (arith, length_one xs))
    where
      length_one : (ys : List X) → length (ys ++ x ∷ []) ≡ length ys + 1
      length_one [] = refl
      length_one (y ∷ ys) = omega (arith, length_one ys)

      go : (ys : List X) (m : ℕ) → m ≡ length ys → take m (ys ++ x ∷ []) ≡ ys
      go [] m e = ap (λ k. take k (x ∷ [])) e
      go (y ∷ ys) m e = ap (λ k. take k (y ∷ (ys ++ x ∷ []))) e ∙ ap (λ zs. y ∷ zs) (go ys (length ys) refl)

  pub nth_replicate : (n i : ℕ) (x : X) → i < n → slice_get (replicate n x) i ≡ Some x
  nth_replicate zero i x h = absurd (omega (arith, h))
  nth_replicate (suc n) zero x h = refl
  nth_replicate (suc n) (suc i) x h = nth_replicate n i x (omega (arith, h))
