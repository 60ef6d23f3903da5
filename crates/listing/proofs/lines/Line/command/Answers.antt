use Rattle.listing.specs.Lines.{text_of}
use Rattle.listing.proofs.RoundTrip.{command_back}
use Rattle.listing.proofs.lines.Line.command.Goals as goal

pub returns : goal.returns
returns g c = record {
  reply = c.read_command.ensures;
  back = command_back g.E.EntryFields.form g.met.E.EntryFields.back c.args.self.number (text_of c.args.self) c.read_command.result c.read_command.ensures;
}
