use Rattle.std.proofs.Common.{◌≡◌, map, reverse}
use Rattle.notes.specs.Layouts.{read_back}
use Rattle.notes.proofs.layouts.settle_all.Given as goal

abbrev pub invariant-loop-note : goal.invariant-loop-note
invariant-loop-note l = l.layout ≡ read_back l.initial.layout (reverse (map (λ n. n.now) l.yielded))
