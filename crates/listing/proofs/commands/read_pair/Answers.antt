use Rattle.std.proofs.Common.{◌∷◌, ap, ◌∙◌}
use Rattle.fields.specs.Values.{value}
use Rattle.fields.specs.Forms.{natural}
use Rattle.listing.specs.Entries.{by_value_form}
use Rattle.listing.specs.Commands.{two_of, pair}
use Rattle.listing.specs.Asked.{replied_ok}
use Rattle.listing.proofs.EntryReading.{exits, no_at, yes_at, read_is, second_is, third_on}
use Rattle.listing.proofs.commands.read_pair.Goals as goal

pub returns-in_err-b : goal.returns-in_err-b
returns-in_err-b g c =
    let forms = (by_value_form (by_value_form g.E.EntryFields.form)).forms in
    exits c.from_residual-in_err-b.result _ _ _ c.from_residual-in_err-b.ensures.1
    (yes_at _ _ _ c.take.ensures natural _ (natural ∷ forms) _ c.in_ok-a.ensures ∙ no_at _ _ _ c.take-2.ensures natural _ forms _ c.in_err-b.ensures)

pub returns : goal.returns
returns g c =
    let M = by_value_form (by_value_form g.E.EntryFields.form) in
    let a = read_is _ _ _ c.take.ensures natural value _ c.in_ok-a.ensures in
    let b = read_is _ _ _ c.take-2.ensures natural value _ c.in_ok-b.ensures ∙ ap value (second_is _ _ c.take.ensures.passed) in
    let es = replied_ok _ _ _ c.in_ok-read.ensures.reply in
    let four = ap two_of c.from-entries.ensures ∙ es.1 ∙ ap M.spelled (third_on _ _ _ c.take.ensures.passed c.take-2.ensures.passed) in (
      yes_at _ _ _ c.take.ensures natural _ (natural ∷ M.forms) _ c.in_ok-a.ensures ∙ yes_at _ _ _ c.take-2.ensures natural _ M.forms _ c.in_ok-b.ensures ∙ es.0,
      λ i. pair (a i) (b i) (four i),
    )
