-- The call that a command spells. Assumes nothing.
use Rattle.calls.specs.declared.changes.Call.{Call}
use Rattle.calls.specs.declared.changes.Call.TheVariants as calls
use Rattle.listing.specs.declared.commands.Command.{Command}
use Rattle.listing.specs.declared.commands.Command.TheVariants as commands

abbrev pub call_of : {E : Type 0} → Command E → Call E
call_of (commands.Post change) = calls.Post change
call_of commands.Back = calls.Back
call_of (commands.Score layout) = calls.Score
