use Rattle.std.proofs.Common.{[], ◌∷◌, ◌∙◌}
use Rattle.fields.specs.Forms.{natural}
use Rattle.listing.proofs.EntryReading.{exits, no_at, yes_at}
use Rattle.listing.proofs.commands.read_pin.Goals as goal

pub returns-in_err-value : goal.returns-in_err-value
returns-in_err-value g c =
    exits c.from_residual-in_err-value.result _ _ _ c.from_residual-in_err-value.ensures.1
    (yes_at _ _ _ c.take.ensures natural _ (natural ∷ []) _ c.in_ok-v.ensures ∙ no_at _ _ _ c.take-2.ensures natural _ [] _ c.in_err-value.ensures)
