-- Numbers as they are written: digits, with or without a minus. Assumes nothing.
use Rattle.std.specs.Prelude.{ℕ, ◌+◌, ◌-◌, ◌*◌, Bool, false, cond, ◌&&◌, List, [], ◌∷◌, ℤ, pos, negsuc, neg_ℤ, ◌==◌, int_le, nat_le}

abbrev pub minus : ℕ
minus = 45

abbrev pub has_minus : List ℕ → Bool
has_minus [] = false
has_minus (b ∷ bs) = b == minus

-- what is written after any minus
abbrev pub unsigned : List ℕ → List ℕ
unsigned [] = []
unsigned (b ∷ bs) = cond (b == minus) bs (b ∷ bs)

-- the number that digits write, after those of n
abbrev pub value_after : ℕ → List ℕ → ℕ
value_after n [] = n
value_after n (d ∷ ds) = value_after (n * 10 + (d - 48)) ds

abbrev pub value : List ℕ → ℕ
value ds = value_after 0 ds

-- the number that digits write after any minus
abbrev pub signed_value : List ℕ → ℤ
signed_value bs = cond (has_minus bs) (neg_ℤ (pos (value (unsigned bs)))) (pos (value (unsigned bs)))

-- the most bytes of a number, with its minus and its leading zeros
abbrev pub number_limit : ℕ
number_limit = 11

abbrev pub natural_range : ℕ → Bool
natural_range n = nat_le n 4294967295

abbrev pub integer_range : ℤ → Bool
integer_range z = int_le (negsuc 2147483647) z && int_le z (pos 2147483647)
