use Rattle.board.proofs.Answered.{back_accepted}
use Rattle.board.proofs.boards.Board.back.Goals as goal

pub returns : goal.returns
returns g c = back_accepted g.K.Kind.model g.K.Kind.means c.args.self.now _ c.in_ok-check_back.ensures c.take_back.ensures
