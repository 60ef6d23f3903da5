use Rattle.steps.proofs.Removals.{removal_keeps, removal_sound}
use Rattle.steps.proofs.removals_stand.Goals as goal

pub returns : goal.returns
returns g c vs s m s' sound r =
    let laws = g.met.K.Kind.lawful in (removal_keeps laws vs sound r, removal_sound sound r)
