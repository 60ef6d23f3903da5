use Rattle.std.proofs.Common.{◌≡◌, [], ap, ◌∙◌, rules, tests}
use Rattle.std.specs.Option.{option_map, unwrap_or}
use Rattle.std.proofs.lemmas.Option.{unwrap_or-slice_get}
use Rattle.std.specs.List.{slice_get}
use Rattle.std.proofs.lemmas.Iterator.Consumers.{nth_from_yields_List}
use Rattle.std.proofs.lemmas.Iterator.Splits.{YieldsList-from_slice_split}
use Rattle.listing.specs.Text.{fields}
use Rattle.listing.specs.Lines.{text_of}
use Rattle.listing.proofs.LineReading.{shown_or}
use Rattle.listing.proofs.lines.Line.field.Goals as goal

pub returns-clause-bytes : goal.returns-clause-bytes
returns-clause-bytes c =
    let text = text_of c.args.self in
    let nth : option_map (λ x. x.now) c.nth.result ≡ slice_get (fields text) c.args.index =
    nth_from_yields_List _ _ c.args.index c.nth.ensures.ran (YieldsList-from_slice_split _ _ text c.split.ensures.rest c.split.ensures.done c.split.ensures.closure (λ x r q k. search (rules, tests))) in
    ap (λ b. b.now) c.unwrap_or-bytes.ensures ∙ shown_or c.nth.result _ ∙ ap (λ o. unwrap_or o []) nth ∙ unwrap_or-slice_get (fields text) c.args.index []
