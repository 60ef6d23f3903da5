use Rattle.std.proofs.Common.{drop}
use Rattle.board.specs.Scoring.{vars_at, JoinsOn}
use Rattle.board.proofs.boards.scoring.join_vars.Given as goal

abbrev pub invariant-loop-v : goal.invariant-loop-v
invariant-loop-v g l = JoinsOn g.K.Kind.model g.K.Kind.means (vars_at l.layout 0 l.vars) l.initial.sum (vars_at l.layout l.v (drop l.v l.vars)) l.sum
