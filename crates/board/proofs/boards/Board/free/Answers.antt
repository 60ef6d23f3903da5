use Rattle.calls.specs.declared.changes.Change.TheVariants.{Free}
use Rattle.board.proofs.Answered.{changed_when, free_stands}
use Rattle.board.proofs.boards.Board.free.Goals as goal

pub returns : goal.returns
returns g c =
    let M = g.K.Kind.model in
    let means = g.K.Kind.means in
    changed_when M means c.args.self.now _ _ (Free c.args.v) _ c.end_pin.ensures.reply c.end_pin.ensures.after
    (λ n cs st pass. free_stands M g.met.K.Kind.lawful means n _ cs st c.args.v pass)
