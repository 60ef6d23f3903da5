use Rattle.std.proofs.Common.{◌≡◌, length, drop, Some, Ok, sym, ap, ◌∙◌, true-eqb}
use Rattle.std.specs.Option.{option_map}
use Rattle.fields.specs.declared.faults.LineFault.TheVariants.{Field}
use Rattle.fields.specs.Questions.{replied}
use Rattle.listing.specs.Text.{fields}
use Rattle.listing.specs.Lines.{text_of}
use Rattle.listing.specs.Reading.{opening_of}
use Rattle.listing.specs.Asked.{replied_ok}
use Rattle.listing.proofs.LineReading.{opening_yes}
use Rattle.listing.proofs.lines.Line.read_opening.Goals as goal

pub returns : goal.returns
returns c =
    let word = c.in_ok-word.ensures in
    let count : length (fields (text_of c.args.self)) ≡ 3 = true-eqb _ _ c.if-not-has_fields.ensures in
    let read = replied_ok _ _ _ c.in_ok-board.ensures in
    ap Ok read.1
    ∙ ap (λ o. replied o (opening_of (drop 1 (fields (text_of c.args.self)))))
    (sym (opening_yes c.args.self.number (text_of c.args.self) word.0 (word.1 ∙ ap Some c.in-Board.is) count ∙ ap (option_map Field) read.0))
