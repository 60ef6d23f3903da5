use Rattle.std.proofs.Common.{sym, ◌∙◌}
use Rattle.board.proofs.Opens.{opens, refuses}
use Rattle.board.proofs.boards.Board.open.Goals as goal

pub returns-then-is_err : goal.returns-then-is_err
returns-then-is_err g c =
    let memory = c.args.memory in
    refuses g.K.Kind.model g.K.Kind.means c.args.n memory.vars.now memory.pairs.now memory.history.now c.check.result _
    (sym c.is_err.ensures.value ∙ c.if-is_err.true) c.check.ensures c.over.ensures

pub returns : goal.returns
returns g c =
    let memory = c.args.memory in
    opens g.K.Kind.model g.K.Kind.means c.args.n memory.vars.now memory.pairs.now memory.history.now c.check.result _ c.fresh.result _
    (sym c.is_err.ensures.value ∙ c.if-is_err.false) c.check.ensures c.fresh.ensures c.clear.auto.vars c.clear.ensures c.over-2.ensures
