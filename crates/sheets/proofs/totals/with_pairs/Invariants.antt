use Rattle.std.proofs.Common.{◌≡◌, take}
use Rattle.sheets.specs.Totals.{with_pairs}
use Rattle.sheets.proofs.totals.with_pairs.Given as goal

abbrev pub invariant-loop-pair : goal.invariant-loop-pair
invariant-loop-pair g l = l.total ≡ with_pairs g.K.Kind.model g.K.Kind.means g.K.Kind.held l.initial.total (take l.pair-index l.pairs)
