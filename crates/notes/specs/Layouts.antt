-- Layouts of bytes, and the one that notes give. Assumes nothing.
use Rattle.std.specs.Prelude.{◌≡◌, ℕ, ◌<◌, Bool, List, [], ◌∷◌, map, reverse, length, slice_set}
use Rattle.std.specs.List.{AllByRecursion}
use Rattle.steps.specs.Steps.{taken, read}
use Rattle.calls.specs.Runs.{values}
use Rattle.notes.specs.declared.removal.Removal.{Removal}
use Rattle.notes.specs.Removals.{bank_number, way_of, note_of}

-- the value of v; past the end it is 0
abbrev pub bank_at : List ℕ → ℕ → Bool
bank_at bs v = values bs v

-- the value of a removed variable is written
abbrev pub settled : List ℕ → Removal → List ℕ
settled bs n = slice_set bs n.variable (bank_number (taken (way_of n.way) (bank_at bs)))

-- the notes, oldest first, read newest first
abbrev pub read_back : List ℕ → List Removal → List ℕ
read_back bs [] = bs
read_back bs (n ∷ ns) = settled (read_back bs ns) n

-- bs' is the layout that the notes, oldest first, give on bs
abbrev pub ReadFrom : List Removal → List ℕ → List ℕ → Type 0
ReadFrom ns bs bs' = AllByRecursion (λ n. n.variable < length bs) ns → bank_at bs' ≡ read (reverse (map note_of ns)) (bank_at bs)
