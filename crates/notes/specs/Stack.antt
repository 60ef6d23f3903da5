-- The stack of notes. Assumes nothing.
use Rattle.std.specs.Prelude.{ℕ, suc, min, cond, List, length, take, nat_lt, slice_set}
use Rattle.notes.specs.declared.removal.Removal.{Removal}

-- the table, and how many are noted in it, the oldest first
pub record Noted : Type 0 where
  pub table : List Removal
  pub count : ℕ

abbrev pub no_notes : List Removal → Noted
no_notes ns = record { table = ns; count = 0 }

-- the notes, oldest first
abbrev pub notes_of : Noted → List Removal
notes_of h = take h.count h.table

-- one more; where the table is full, nothing changes
abbrev pub push_note : Noted → Removal → Noted
push_note h n = cond (nat_lt h.count (length h.table)) (record { table = slice_set h.table h.count n; count = suc h.count }) h

-- only the oldest stay, k of them at most
abbrev pub cut_notes : Noted → ℕ → Noted
cut_notes h k = record { table = h.table; count = min k h.count }
