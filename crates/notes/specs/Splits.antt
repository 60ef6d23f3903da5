-- The open splits, a list with the oldest first, and the rest of their table. Assumes nothing.
use Rattle.std.specs.Prelude.{◌≡◌, ℕ, ◌+◌, ◌-◌, ◌≤◌, true, false, cond, List, [], ◌∷◌, ◌++◌, length, take, drop, set, Some, None, Option, nat_lt}
use Rattle.std.specs.List.{slice_get}
use Rattle.notes.specs.declared.splits.Split.{Split}
use Rattle.notes.specs.declared.splits.TheConstants.{MOST_SPLITS}

-- the open splits, and the records after them, which are not in use: together they are the table
pub record Opened : Type 0 where
  pub splits : List Split
  pub spare : List Split

-- the table has `MOST_SPLITS` records, and no more are open: so it begins, and so it stays
pub record Bounded (s : Opened) : Type 0 where
  pub table_is : length s.splits + length s.spare ≡ MOST_SPLITS
  pub most : length s.splits ≤ MOST_SPLITS

abbrev pub at_zero : ℕ → ℕ → Split
at_zero y n = record { variable = y; noted = n; begun = false }

abbrev pub at_one : Split → Split
at_one p = record { variable = p.variable; noted = p.noted; begun = true }

-- one more, in the place of the first that is not in use; where so many are open, nothing changes
abbrev pub pushed : Opened → ℕ → ℕ → Opened
pushed s y n = cond (nat_lt (length s.splits) MOST_SPLITS) (record { splits = s.splits ++ at_zero y n ∷ []; spare = drop 1 s.spare }) s

-- the newest
abbrev pub top_of : Opened → Option Split
top_of s = slice_get s.splits (length s.splits - 1)

abbrev pub begun : Opened → Opened
begun s = elim (top_of s) [ None ↦ s | Some p ↦ record { splits = set s.splits (length s.splits - 1) (at_one p); spare = s.spare } ]

-- the newest is not in use any more, and its record stays
abbrev pub popped : Opened → Opened
popped s = elim (top_of s) [ None ↦ s | Some p ↦ record { splits = take (length s.splits - 1) s.splits; spare = p ∷ s.spare } ]
