-- The number of each refusal. Assumes nothing.
use Rattle.std.specs.Prelude.{ℕ, List, ◌++◌, codes, decimal}
use Rattle.calls.specs.declared.refusals.Refusal.{Refusal}
use Rattle.calls.specs.declared.refusals.Refusal.TheVariants.{Variables, Memory, LayoutLength, NoVariable, SameVariable, Value, Entry, Pinned, NotPinned, NoChange, PinBroken, HistoryFull, PairsFull}

abbrev pub refusal_number : Refusal → ℕ
refusal_number Variables = 1
refusal_number Memory = 2
refusal_number LayoutLength = 3
refusal_number NoVariable = 4
refusal_number SameVariable = 5
refusal_number Value = 6
refusal_number Entry = 7
refusal_number Pinned = 8
refusal_number NotPinned = 9
refusal_number NoChange = 10
refusal_number PinBroken = 11
refusal_number HistoryFull = 12
refusal_number PairsFull = 13

-- a refusal prints as `no,` and its number
abbrev pub refusal_text : Refusal → List ℕ
refusal_text f = codes "no," ++ decimal (refusal_number f)
