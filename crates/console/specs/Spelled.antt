-- The layout that a command is sent with. Assumes nothing.
use Rattle.std.specs.Prelude.{ℕ, ◌-◌, List, [], map}
use Rattle.listing.specs.declared.commands.Command.{Command}
use Rattle.listing.specs.declared.commands.Command.TheVariants.{Post as PostLine, Back as BackLine, Score as ScoreLine}

-- the value of a digit
abbrev pub digit_value : ℕ → ℕ
digit_value b = b - 48

abbrev pub layout_of : {E : Type 0} → Command E → List ℕ
layout_of (PostLine change) = []
layout_of BackLine = []
layout_of (ScoreLine layout) = map digit_value layout.bytes.now
