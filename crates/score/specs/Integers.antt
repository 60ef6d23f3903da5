-- Whole numbers under addition and their order keep the laws of scores, and how large a sum of m entries can be. Assumes nothing.
use Rattle.std.specs.Prelude.{◌≡◌, ℕ, ◌+◌, ◌*◌, ◌^◌, ◌<◌, ◌≤◌, true, ◌⊎◌, List, [], ◌∷◌, length, ℤ, pos, negsuc, ◌+ℤ◌, Some, Option, int_le, unsigned_abs}
use Rattle.std.proofs.Common.{ap, subst, arith, add-mul, mul-le-mul_right}
use Rattle.std.proofs.Math.IntN.{+ℤ_assoc, +ℤ_comm, +ℤ_idl}
use Rattle.std.specs.Int.{saturate_to_bits}
use Rattle.std.specs.List.{AllByRecursion}
use Rattle.std.proofs.lemmas.Int.{ints}
use Rattle.score.specs.Adding.{adding}
use Rattle.score.specs.Model.{Laws, Entered, Of, Together, joined, exact_entries}

leZ_compares : (a b : ℤ) → (int_le a b ≡ true) ⊎ (int_le b a ≡ true)
leZ_compares a b = grind (arith, ints)

leZ_trans : (a b c : ℤ) → int_le a b ≡ true → int_le b c ≡ true → int_le a c ≡ true
leZ_trans a b c h k = grind (arith, ints)

leZ_antisym : (a b : ℤ) → int_le a b ≡ true → int_le b a ≡ true → a ≡ b
leZ_antisym a b h k = grind (arith, ints)

leZ_keeps : (a b c : ℤ) → int_le a b ≡ true → int_le (a +ℤ c) (b +ℤ c) ≡ true
leZ_keeps a b c h = grind (arith, ints)

pub +ℤ_cancels : (a b c : ℤ) → a +ℤ c ≡ b +ℤ c → a ≡ b
+ℤ_cancels a b c h = omega (arith, ints)

natAbs_sum : (a b : ℤ) → unsigned_abs (a +ℤ b) ≤ unsigned_abs a + unsigned_abs b
natAbs_sum a b = grind (arith, ints)

saturated_small : (h : ℕ) (z : ℤ) → unsigned_abs z < 2 ^ h → saturate_to_bits h z ≡ z
saturated_small h (pos n) small = ap pos (omega arith)
saturated_small h (negsuc n) small = ap negsuc (omega arith)

module _ {E : Type 0} (score : E → Option ℤ) where
  pub adding_laws : Laws (adding score)
  adding_laws = record { assoc = +ℤ_assoc; comm = +ℤ_comm; unit = +ℤ_idl; compares = leZ_compares; trans = leZ_trans; antisym = leZ_antisym; keeps = leZ_keeps }

  -- where each entry's score is at most `limit` in size
  module _ (limit : ℕ) (small : (e : E) (s : ℤ) → score e ≡ Some s → unsigned_abs s ≤ limit) where
    joined_size : (ss : List ℤ) → AllByRecursion (Entered (adding score)) ss → unsigned_abs (joined (adding score) ss) ≤ length ss * limit
    joined_size [] h = omega arith
    joined_size (s ∷ ss) h =
        omega (arith, natAbs_sum s (joined (adding score) ss), joined_size ss h.1, small h.0.entry s h.0.scored, add-mul (length ss) 1 limit)

    -- a score of m entries is at most m times that
    adding_size : (m : ℕ) (s : ℤ) → Of (adding score) m s → unsigned_abs s ≤ m * limit
    adding_size m s o =
        let sized = joined_size o.scores o.each in
        let more = mul-le-mul_right limit o.few in
        subst (λ z. unsigned_abs z ≤ m * limit) o.joins (omega (arith, sized, more))

    -- so a sum within the entries that a kind joins exactly fits h bits and its sign
    pub adding_exact : (h : ℕ) → exact_entries * limit < 2 ^ h → (a b : ℤ) → Together (adding score) a b → saturate_to_bits h (a +ℤ b) ≡ a +ℤ b
    adding_exact h room a b t =
        let left = adding_size t.left a t.of_left in
        let right = adding_size t.right b t.of_right in
        let both = mul-le-mul_right limit t.within in
        saturated_small h (a +ℤ b) (omega (arith, natAbs_sum a b, left, right, both, add-mul t.left t.right limit))
