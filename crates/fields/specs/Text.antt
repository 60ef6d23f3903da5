-- A text and the pieces that a byte parts it into. Assumes nothing.
use Rattle.std.specs.Prelude.{ℕ, List, ◌==◌}
use Rattle.std.specs.List.{before_first, after_first, slice_split}

-- what stands before the first byte `cut`
abbrev pub upto : ℕ → List ℕ → List ℕ
upto cut bs = before_first (λ b. b == cut) bs

-- what stands after it
abbrev pub past : ℕ → List ℕ → List ℕ
past cut bs = after_first (λ b. b == cut) bs

-- the pieces that the bytes `cut` part a text into: one more than there are such bytes
abbrev pub pieces : ℕ → List ℕ → List (List ℕ)
pieces cut bs = slice_split (λ b. b == cut) bs
