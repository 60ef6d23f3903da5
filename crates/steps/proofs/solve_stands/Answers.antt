use Rattle.steps.proofs.Starts.{solved, solve_splits}
use Rattle.steps.proofs.solve_stands.Goals as goal

pub returns : goal.returns
returns g c vs rule pins s new k law sound e =
    let laws = g.met.K.Kind.lawful in (solved laws vs rule law pins sound e, solve_splits laws vs rule law pins sound e)
