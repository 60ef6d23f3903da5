-- A worksheet's variable: it remains, or it has left, with its two scores. Assumes nothing.
use Rattle.std.specs.Prelude.{Some, None, Option}
use Rattle.score.specs.declared.values.Two.{Two}
use Rattle.score.specs.Values.{joined_two}
use Rattle.sheets.specs.declared.variables.Var.{Var}
use Rattle.sheets.specs.declared.variables.Var.TheVariants.{Remains, Left}

-- the scores of a variable that remains
abbrev pub remaining : {K : Type 0} → Var K → Option (Two K)
remaining (Remains r) = Some r
remaining (Left r) = None

-- J: what a join of two held scores holds
abbrev pub joined_var : {K : Type 0} → (K → K → K) → Var K → Two K → Var K
joined_var J (Remains r) t = Remains (joined_two J r t)
joined_var J (Left r) t = Left (joined_two J r t)
