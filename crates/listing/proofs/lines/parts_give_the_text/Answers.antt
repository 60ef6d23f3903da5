use Rattle.listing.proofs.Splitting.{text_laws}
use Rattle.listing.proofs.lines.parts_give_the_text.Goals as goal

pub returns : goal.returns
returns c = text_laws
