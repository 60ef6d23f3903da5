-- The size of an entry's score, for the kinds that add. Assumes nothing.
use Rattle.std.specs.Prelude.{◌≡◌, ℕ, suc, ◌-◌, ◌*◌, ◌^◌, ◌<◌, ◌≤◌, Bool, true, false, cond, ℤ, pos, negsuc, ◌+ℤ◌, ◌*ℤ◌, Some, None, FitsSigned, unsigned_abs, refl}
use Rattle.std.proofs.Common.{subst, arith, lit<}
use Rattle.std.specs.Int.Signed.{mag}
use Rattle.std.specs.Int.{saturate_to_bits, w32, w64}
use Rattle.std.proofs.lemmas.Nat.{mul-le}
use Rattle.std.proofs.lemmas.Int.{ints}
use Rattle.std.proofs.lemmas.Bool.Decides.{nat_tests}
use Rattle.score.specs.declared.totals.Access.{Access}
use Rattle.score.specs.Model.{Together}
use Rattle.score.specs.Tiered.{weight_model, weight_score, weight_takes}
use Rattle.score.specs.Total.{total_model, total_score, total_takes}
use Rattle.score.specs.Integers.{adding_exact}

-- what is taken under a test passed it, and is the score
taken : {X : Type 0} (t : Bool) (x s : X) → cond t (Some x) None ≡ Some s → (t ≡ true) × (x ≡ s)
taken true x s h = (refl, cc)
taken false x s h = absurd cc

product_size : (h : ℕ) (c : ℤ) (m n : ℕ) → h ≤ m → unsigned_abs c ≤ n → unsigned_abs (pos h *ℤ c) ≤ m * n
product_size h (pos k) m n p q = mul-le h k m n p q
product_size h (negsuc k) m n p q = omega (arith, ints, mul-le h (suc k) m n p q)

-- the greatest size of an entry's total: 4,294,967,295 hits times 65,535 cycles
abbrev total_limit : ℕ
total_limit = 281470681677825

total_small : (e : Access) (s : ℤ) → total_score e ≡ Some s → unsigned_abs s ≤ total_limit
total_small e s h =
    let passed = taken (total_takes e) (pos e.hits *ℤ e.cycles) s h in
    let test : total_takes e ≡ true = passed.0 in
    let hits : e.hits ≤ 4294967295 = grind (arith, ints, nat_tests) in
    let cycles : unsigned_abs e.cycles ≤ 65535 = grind (arith, ints, nat_tests) in
    subst (λ z. unsigned_abs z ≤ total_limit) passed.1 (product_size e.hits e.cycles 4294967295 65535 hits cycles)

pub total_exact : (a b : ℤ) → Together total_model a b → saturate_to_bits 63 (a +ℤ b) ≡ a +ℤ b
total_exact = adding_exact total_score total_limit total_small 63 (lit< tt)

weight_small : (w s : ℤ) → weight_score w ≡ Some s → unsigned_abs s ≤ 1000
weight_small w s h =
    let passed = taken (weight_takes w) w s h in
    let test : weight_takes w ≡ true = passed.0 in
    let small : unsigned_abs w ≤ 1000 = grind (arith, ints, nat_tests) in
    subst (λ z. unsigned_abs z ≤ 1000) passed.1 small

pub weight_exact : (a b : ℤ) → Together weight_model a b → saturate_to_bits 31 (a +ℤ b) ≡ a +ℤ b
weight_exact = adding_exact weight_score 1000 weight_small 31 (lit< tt)

mag_below : (z : ℤ) → unsigned_abs z ≤ (2 ^ 32 - 1) * 2 ^ 31 → mag z < 2 ^ 63
mag_below (pos n) h = omega arith
mag_below (negsuc n) h = omega arith

natAbs_below : (z : ℤ) → mag z < 2 ^ 31 → unsigned_abs z ≤ 2 ^ 31
natAbs_below (pos n) h = omega arith
natAbs_below (negsuc n) h = omega arith

-- 32 bits times 32 bits with a sign fit 64 bits with a sign
pub product_fits : (h : ℕ) (c : ℤ) → h < 2 ^ 32 → FitsSigned w32 c → FitsSigned w64 (pos h *ℤ c)
product_fits h c p q = record { sfits = mag_below (pos h *ℤ c) (product_size h c (2 ^ 32 - 1) (2 ^ 31) (omega arith) (natAbs_below c q.sfits)) }
