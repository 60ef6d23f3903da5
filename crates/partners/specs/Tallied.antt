-- How many pairs touch each variable. Assumes nothing.
use Rattle.std.specs.Prelude.{ℕ, ◌+◌, ◌%◌, ◌^◌, List, Some, None, slice_set}
use Rattle.std.specs.List.{fold, slice_get}
use Rattle.records.specs.declared.pairs.Pair.{Pair}

-- one more for v
abbrev pub one_more : List ℕ → ℕ → List ℕ
one_more ds v = elim (slice_get ds v) [ None ↦ ds | Some d ↦ slice_set ds v ((d + 1) % 2 ^ 64) ]

module _ {K : Type 0} where
  -- one more for both of a pair
  abbrev pub both_more : List ℕ → Pair K → List ℕ
  both_more ds p = one_more (one_more ds p.low) p.high

  abbrev pub tallied : List ℕ → List (Pair K) → List ℕ
  tallied ds ps = fold both_more ds ps
