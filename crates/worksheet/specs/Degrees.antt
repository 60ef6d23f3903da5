-- How many partners each variable has. Assumes nothing.
use Rattle.std.specs.Prelude.{◌≡◌, ℕ, ◌<◌, List, length, Some}
use Rattle.std.specs.List.{slice_get}
use Rattle.steps.specs.Sheet.{degree}
use Rattle.records.specs.declared.pairs.Pair.{Pair}
use Rattle.sheets.specs.declared.variables.Var.{Var}
use Rattle.worksheet.specs.Records.{contents, Arranged}

-- ds has the number of partners of each variable
abbrev pub Counted : {K S : Type 0} → (K → S) → List (Pair K) → List ℕ → Type 0
Counted {K} means ps ds = (b : K) (vs : List (Var K)) → Arranged vs ps → (v : ℕ) → v < length ds → slice_get ds v ≡ Some (degree (contents means b vs ps) v)
