use Rattle.board.proofs.Joining.{joins_next, pairs_step}
use Rattle.board.proofs.boards.scoring.join_pairs.Goals as goal

pub loop-pair-preserved : goal.loop-pair-preserved
loop-pair-preserved g c =
    joins_next g.K.Kind.model g.met.K.Kind.lawful g.K.Kind.means g.K.Kind.held g.met.K.Kind.exact
    _ _ _ _ c.pair_score.result c.loop-pair.sum _
    (pairs_step c.args.layout.now c.args.pairs.now c.loop-pair.pair-index c.pair-item.result c.pair_score.result c.loop-pair-test.true c.pair-item.is c.pair_score.ensures)
    c.join-sum.ensures
    c.loop-pair.invariant
