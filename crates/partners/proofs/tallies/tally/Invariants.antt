use Rattle.std.proofs.Common.{◌≡◌, take}
use Rattle.partners.specs.Tallied.{tallied}
use Rattle.partners.proofs.tallies.tally.Given as goal

abbrev pub invariant-loop-pair : goal.invariant-loop-pair
invariant-loop-pair g l = l.counts ≡ tallied l.initial.counts (take l.pair-index l.pairs)
