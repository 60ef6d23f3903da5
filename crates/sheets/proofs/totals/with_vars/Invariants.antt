use Rattle.std.proofs.Common.{◌≡◌, take}
use Rattle.sheets.specs.Totals.{with_vars}
use Rattle.sheets.proofs.totals.with_vars.Given as goal

abbrev pub invariant-loop-var : goal.invariant-loop-var
invariant-loop-var g l = l.total ≡ with_vars g.K.Kind.model g.K.Kind.means g.K.Kind.held l.initial.total (take l.var-index l.vars)
