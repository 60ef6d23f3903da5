use Rattle.std.proofs.Common.{Some, sym, ap, ◌∙◌}
use Rattle.std.specs.Option.{option_map}
use Rattle.fields.specs.declared.faults.LineFault.TheVariants.{Field}
use Rattle.listing.specs.Lines.{text_of}
use Rattle.listing.specs.Commands.{said, call_forms}
use Rattle.listing.proofs.EntryReading.{exits}
use Rattle.listing.proofs.LineReading.{from_word, right_count, wrong_count, command_count_no, command_yes, command_is}
use Rattle.listing.proofs.lines.Line.read_command.Goals as goal

pub returns-then-not-has_fields : goal.returns-then-not-has_fields
returns-then-not-has_fields g c =
    let word = c.in_ok-call.ensures in
    command_count_no c.args.self.number (text_of c.args.self) g.E.EntryFields.form c.in-Call.call (word.1 ∙ ap Some c.in-Call.is) word.0
    (wrong_count c.args.self.number (text_of c.args.self) word.0 _ _ c.field_count.ensures c.if-not-has_fields.ensures)

pub returns-in_err-read_call : goal.returns-in_err-read_call
returns-in_err-read_call g c =
    let word = c.in_ok-call.ensures in
    let count = right_count c.args.self.number (text_of c.args.self) word.0 _ _ c.field_count.ensures c.if-not-has_fields.ensures in
    let start = from_word c.after_word.result c.args.self.number (text_of c.args.self) (call_forms g.E.EntryFields.form c.in-Call.call) c.after_word.ensures.left c.after_word.ensures.place in
    exits c.from_residual-in_err-read_call.result _ _ _ c.from_residual-in_err-read_call.ensures.1
    (command_yes c.args.self.number (text_of c.args.self) g.E.EntryFields.form c.in-Call.call (word.1 ∙ ap Some c.in-Call.is) word.0 count ∙ ap (option_map Field) (start ∙ c.in_err-read_call.ensures))

pub returns : goal.returns
returns g c =
    let word = c.in_ok-call.ensures in
    let is = word.1 ∙ ap Some c.in-Call.is in
    let count = right_count c.args.self.number (text_of c.args.self) word.0 _ _ c.field_count.ensures c.if-not-has_fields.ensures in
    let start = from_word c.after_word.result c.args.self.number (text_of c.args.self) (call_forms g.E.EntryFields.form c.in-Call.call) c.after_word.ensures.left c.after_word.ensures.place in
    let read = c.in_ok-read_call.ensures in (
      command_yes c.args.self.number (text_of c.args.self) g.E.EntryFields.form c.in-Call.call is word.0 count ∙ ap (option_map Field) (start ∙ read.0),
      command_is c.args.self.number (text_of c.args.self) g.E.EntryFields.form c.in-Call.call is ∙ ap Some (ap (said g.E.EntryFields.form c.in-Call.call) (sym c.after_word.ensures.left) ∙ sym read.1),
    )
