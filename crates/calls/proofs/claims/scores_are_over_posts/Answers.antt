use Rattle.calls.proofs.OverPosts.{over_posts}
use Rattle.calls.proofs.claims.scores_are_over_posts.Goals as goal

pub returns : goal.returns
returns g c = over_posts g.K.Kind.model g.met.K.Kind.lawful
