use Rattle.board.specs.Stands.{Scored}
use Rattle.board.proofs.Answered.{passed_on}
use Rattle.board.proofs.Scores.{score_turned_down, score_accepted}
use Rattle.board.proofs.boards.Board.score.Goals as goal

pub returns-in_err-check_score : goal.returns-in_err-check_score
returns-in_err-check_score g c =
    let M = g.K.Kind.model in
    let means = g.K.Kind.means in
    let layout = c.args.layout.now in
    passed_on (Scored M means c.args.self.now layout) _ _ c.from_residual.ensures.1 (score_turned_down M g.met.K.Kind.lawful means c.args.self.now layout _ c.in_err-check_score.ensures)

pub returns : goal.returns
returns g c =
    score_accepted g.K.Kind.model g.met.K.Kind.lawful g.K.Kind.means c.args.self.now c.args.layout.now _
    c.in_ok-check_score.ensures c.layout_score.ensures
