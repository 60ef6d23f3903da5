use Rattle.steps.proofs.Run.{removal_fewer, set_fewer}
use Rattle.steps.proofs.Splits.{removal_busy, set_busy}
use Rattle.steps.proofs.steps_shrink.Goals as goal

pub returns : goal.returns
returns g c =
    let M = g.K.Kind.model in
    record {
      removal_fewer = λ vs s m s' sound r. removal_fewer sound r;
      removal_busy = λ vs s m s' sound r. removal_busy M vs sound r;
      set_fewer = λ s y v sound there. set_fewer sound M y v there;
      set_busy = λ vs s y v sound there many. set_busy M vs sound y v there many;
    }
