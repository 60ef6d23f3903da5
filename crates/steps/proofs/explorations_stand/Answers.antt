use Rattle.steps.proofs.Explorations.{explored_greatest}
use Rattle.steps.proofs.explorations_stand.Goals as goal

pub returns : goal.returns
returns g c vs rule s notes old new k law sound e = explored_greatest g.met.K.Kind.lawful vs rule law sound e
