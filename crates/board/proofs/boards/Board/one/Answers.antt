use Rattle.calls.specs.declared.changes.Change.TheVariants.{One}
use Rattle.board.proofs.Answered.{accepted, one_stands}
use Rattle.board.proofs.boards.Board.one.Goals as goal

pub returns : goal.returns
returns g c =
    let M = g.K.Kind.model in
    let means = g.K.Kind.means in
    accepted M means c.args.self.now _ _ (One c.args.v c.args.entries) c.in_ok-scores.ensures.reply c.join_one.ensures
    (λ n cs st pass. one_stands M g.met.K.Kind.lawful means g.K.Kind.held g.met.K.Kind.exact n _ cs st c.args.v c.args.entries _ c.in_ok-scores.ensures.scores pass)
