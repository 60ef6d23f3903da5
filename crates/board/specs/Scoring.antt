-- The held scores that a layout selects, and a running join of them. Assumes nothing.
use Rattle.std.specs.Prelude.{ℕ, suc, List, [], ◌∷◌, ◌++◌, map}
use Rattle.score.specs.Joins.{Joining}
use Rattle.score.specs.Model.{Model}
use Rattle.calls.specs.Runs.{values}
use Rattle.score.specs.Values.{at_two, at_four}
use Rattle.records.specs.declared.pairs.Pair.{Pair}
use Rattle.records.specs.declared.variables.Var.{Var}

-- the scores of these variables, from v on, at the layout's values
abbrev pub vars_at : {K : Type 0} → List ℕ → ℕ → List (Var K) → List K
vars_at layout v [] = []
vars_at layout v (r ∷ rs) = at_two r.scores (values layout v) ∷ vars_at layout (suc v) rs

abbrev pub pair_at : {K : Type 0} → List ℕ → Pair K → K
pair_at layout p = at_four p.scores (values layout p.low) (values layout p.high)

-- the scores of these pairs at the layout's values
abbrev pub pairs_at : {K : Type 0} → List ℕ → List (Pair K) → List K
pairs_at layout [] = []
pairs_at layout (p ∷ ps) = pair_at layout p ∷ pairs_at layout ps

-- whatever else is to be joined: if at `start` the scores xs were to come, then at s only ys are
abbrev pub JoinsOn : {E S K : Type 0} → Model E S → (K → S) → List K → K → List K → K → Type 0
JoinsOn {E} {S} M means xs start ys s = (rest : List S) (whole : S) → Joining M (map means xs ++ rest) whole (means start) → Joining M (map means ys ++ rest) whole (means s)
