-- The join of all that a layout selects on a board. Assumes nothing.
use Rattle.std.specs.Prelude.{◌≡◌, ℕ, List, ◌++◌, map, take}
use Rattle.score.specs.Joins.{Within}
use Rattle.score.specs.Model.{Model, joined, exact_entries}
use Rattle.board.specs.Scoring.{vars_at, pairs_at}
use Rattle.board.specs.Tables.{Held, used}

-- the scores that the layout selects: every variable's, then every kept pair's
abbrev pub layout_at : {S K : Type 0} → (K → S) → Held K → List ℕ → List S
layout_at means h layout = map means (vars_at layout 0 (take h.n h.vars)) ++ map means (pairs_at layout (used h))

-- where they are together of no more entries than a kind joins exactly, r is their join
abbrev pub LayoutJoined : {E S K : Type 0} → Model E S → (K → S) → Held K → List ℕ → K → Type 0
LayoutJoined M means h layout r = Within M exact_entries (layout_at means h layout) → means r ≡ joined M (layout_at means h layout)
