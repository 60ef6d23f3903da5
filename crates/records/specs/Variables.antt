-- A board's variable: before any change, with scores joined on, and pinned. Assumes nothing.
use Rattle.std.specs.Prelude.{◌≡◌, Bool, None, Option}
use Rattle.score.specs.Model.{Model}
use Rattle.score.specs.Values.{joined_two, NeutralTwo}
use Rattle.score.specs.declared.values.Two.{Two}
use Rattle.records.specs.declared.variables.Var.{Var}

-- neutral scores and no pin
pub record Fresh {E S K : Type 0} (M : Model E S) (means : K → S) (r : Var K) : Type 0 where
  pub scores : NeutralTwo M means r.scores
  pub pin : r.pin ≡ None

-- J: what a join of two held scores holds
abbrev pub joined_var : {K : Type 0} → (K → K → K) → Var K → Two K → Var K
joined_var J r t = record { scores = joined_two J r.scores t; pin = r.pin }

abbrev pub with_pin : {K : Type 0} → Var K → Option Bool → Var K
with_pin r p = record { scores = r.scores; pin = p }
