use Rattle.std.proofs.Common.{drop}
use Rattle.board.specs.Scoring.{pairs_at, JoinsOn}
use Rattle.board.proofs.boards.scoring.join_pairs.Given as goal

abbrev pub invariant-loop-pair : goal.invariant-loop-pair
invariant-loop-pair g l = JoinsOn g.K.Kind.model g.K.Kind.means (pairs_at l.layout l.pairs) l.initial.sum (pairs_at l.layout (drop l.pair-index l.pairs)) l.sum
