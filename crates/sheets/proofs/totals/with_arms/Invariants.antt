use Rattle.std.proofs.Common.{◌≡◌, take}
use Rattle.sheets.specs.Totals.{arms}
use Rattle.sheets.proofs.totals.with_arms.Given as goal

abbrev pub invariant-loop-pair : goal.invariant-loop-pair
invariant-loop-pair g l = l.table ≡ arms g.K.Kind.model g.K.Kind.means g.K.Kind.held l.initial.table (take l.pair-index l.pairs)
