use Rattle.calls.proofs.Striking.{taking_back}
use Rattle.calls.proofs.claims.taking_back_holds.Goals as goal

pub returns : goal.returns
returns g c = taking_back g.K.Kind.model
