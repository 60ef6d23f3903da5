use Rattle.std.proofs.Common.{not}
use Rattle.std.proofs.lemmas.List.Filters.{FiltersInPlace}
use Rattle.records.specs.Pairs.{touches}
use Rattle.sheets.proofs.changing.drop_pairs.Given as goal

abbrev pub invariant-loop-i : goal.invariant-loop-i
invariant-loop-i g l = FiltersInPlace (λ p. not (touches l.y p)) l.initial.pairs l.pairs l.next l.i
