use Rattle.steps.proofs.Starts.{starts}
use Rattle.steps.proofs.start_stands.Goals as goal

pub returns-clause-says : goal.returns-clause-says
returns-clause-says g c pins s sound = starts g.met.K.Kind.lawful pins sound
