use Rattle.score.proofs.Entries.{entry_laws}
use Rattle.score.proofs.claims.entry_counts_hold.Goals as goal

pub returns : goal.returns
returns g c = entry_laws g.K.Kind.model g.met.K.Kind.lawful
