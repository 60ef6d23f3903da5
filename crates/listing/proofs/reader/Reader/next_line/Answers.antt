use Rattle.std.proofs.Common.{◌<◌, length, refl, arith, false-eqb}
use Rattle.listing.proofs.ListingReading.{next_some}
use Rattle.listing.proofs.reader.Reader.next_line.Goals as goal

pub returns : goal.returns
returns c =
    let left = false-eqb _ 0 c.if-is_empty.ensures in
    let more : 0 < length c.args.self.now.rest.now = omega arith in
    next_some c.args.self.now _ _ more c.head-text.ensures refl c.tail-self.ensures refl
