use Rattle.board.proofs.Joining.{joins_next, vars_step}
use Rattle.board.proofs.boards.scoring.join_vars.Goals as goal

pub loop-v-preserved : goal.loop-v-preserved
loop-v-preserved g c =
    joins_next g.K.Kind.model g.met.K.Kind.lawful g.K.Kind.means g.K.Kind.held g.met.K.Kind.exact
    _ _ _ _ c.var_score.result c.loop-v.sum _
    (vars_step c.args.layout.now c.args.vars.now c.loop-v.v c.index-vars-v.result c.var_score.result c.loop-v-test.true c.index-vars-v.is c.var_score.ensures)
    c.join-sum.ensures
    c.loop-v.invariant
