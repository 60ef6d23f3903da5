use Rattle.std.proofs.Common.{[], ◌∷◌, Ok, ap, ◌∙◌, sym, w32, SFits, rules}
use Rattle.std.proofs.lemmas.Int.{to_z-of_z}
use Rattle.fields.specs.Values.{value, signed_value}
use Rattle.fields.specs.Questions.{replied}
use Rattle.fields.specs.Forms.{natural, integer}
use Rattle.listing.specs.Entries.{access_form}
use Rattle.listing.proofs.EntryReading.{passed_on, no_at, yes_at, read_is, second_is}
use Rattle.listing.proofs.entries.AccessEntryFields.read.Goals as goal

pub returns-in_err-cycles-clause-reply : goal.returns-in_err-cycles-clause-reply
returns-in_err-cycles-clause-reply c =
    passed_on c.from_residual-in_err-cycles.result _ _ c.from_residual-in_err-cycles.ensures.1
    (ap (λ o. replied o (access_form.spelled c.args.fields.now.left)) (sym (yes_at _ _ _ c.take.ensures natural _ (integer ∷ []) _ c.in_ok-hits.ensures ∙ no_at _ _ _ c.take-2.ensures integer _ [] _ c.in_err-cycles.ensures)))

pub returns-clause-reply : goal.returns-clause-reply
returns-clause-reply c =
    let fits : SFits w32 c.in_ok-cycles.cycles = search rules in
    let h = read_is _ _ _ c.take.ensures natural value _ c.in_ok-hits.ensures in
    let k = to_z-of_z w32 _ fits ∙ read_is _ _ _ c.take-2.ensures integer signed_value _ c.in_ok-cycles.ensures ∙ ap signed_value (second_is _ _ c.take.ensures.passed) in
    ap Ok (λ i. record { hits = h i; cycles = k i })
    ∙ ap (λ o. replied o (access_form.spelled c.args.fields.now.left)) (sym (yes_at _ _ _ c.take.ensures natural _ (integer ∷ []) _ c.in_ok-hits.ensures ∙ yes_at _ _ _ c.take-2.ensures integer _ [] _ c.in_ok-cycles.ensures))
