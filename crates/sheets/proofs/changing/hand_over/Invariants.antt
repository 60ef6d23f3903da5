use Rattle.std.proofs.Common.{◌≡◌, take}
use Rattle.sheets.specs.Changed.{handed}
use Rattle.sheets.proofs.changing.hand_over.Given as goal

abbrev pub invariant-loop-pair : goal.invariant-loop-pair
invariant-loop-pair g l = l.vars ≡ handed g.K.Kind.held l.y l.c l.initial.vars (take l.pair-index l.pairs)
