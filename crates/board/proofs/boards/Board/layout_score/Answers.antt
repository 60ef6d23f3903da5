use Rattle.std.proofs.Common.{[], subst}
use Rattle.board.specs.Scoring.{JoinsOn, vars_at, pairs_at}
use Rattle.board.specs.ScoringBoard.{LayoutJoined}
use Rattle.board.specs.Tables.{Held}
use Rattle.board.proofs.Scores.{joined_all}
use Rattle.board.proofs.boards.Board.layout_score.Goals as goal

pub returns : goal.returns
returns g c =
    let M = g.K.Kind.model in
    let means = g.K.Kind.means in
    let layout = c.args.layout.now in
    let b = c.self.inside in
    let h : Held _ = record { vars = b.memory.vars.now; pairs = b.memory.pairs.now; history = b.memory.history.now; n = b.counts.variables; kept = b.counts.pairs; standing = b.counts.changes } in
    subst (λ k. LayoutJoined M means k layout c.join_pairs.result) c.self.view_is
    (joined_all M g.met.K.Kind.lawful means h layout _ c.join_vars-ones.result _ c.neutral.ensures
    (subst (λ rs. JoinsOn M means (vars_at layout 0 rs) c.neutral.result [] c.join_vars-ones.result) c.first.ensures c.join_vars-ones.ensures)
    (subst (λ ps. JoinsOn M means (pairs_at layout ps) c.join_vars-ones.result [] c.join_pairs.result) c.first-2.ensures c.join_pairs.ensures))
