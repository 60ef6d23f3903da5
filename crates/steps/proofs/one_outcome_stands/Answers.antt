use Rattle.steps.proofs.Once.{once}
use Rattle.steps.proofs.one_outcome_stands.Goals as goal

pub returns : goal.returns
returns g c vs rule s notes old new new' k k' sound e e' = once vs rule sound e e'
