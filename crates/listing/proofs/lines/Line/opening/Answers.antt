use Rattle.listing.specs.Lines.{text_of}
use Rattle.listing.proofs.RoundTrip.{opening_back}
use Rattle.listing.proofs.lines.Line.opening.Goals as goal

pub returns : goal.returns
returns c = record {
  reply = c.read_opening.ensures;
  back = opening_back c.args.self.number (text_of c.args.self) c.read_opening.result c.read_opening.ensures;
}
