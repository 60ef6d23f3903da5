use Rattle.std.proofs.Common.{sym, ap, ◌∙◌, subst, take}
use Rattle.records.specs.Pairs.{place}
use Rattle.board.specs.Tables.{Place}
use Rattle.board.proofs.Places.{place_is}
use Rattle.board.proofs.boards.reading.find.Goals as goal

pub returns : goal.returns
returns g c =
    let kept = take c.args.used c.args.pairs.now in
    let found = c.place_of.ensures ∙ ap (place c.args.low c.args.high) c.first.ensures in
    subst (Place (c.args.low, c.args.high) kept) (sym found) (place_is c.args.low c.args.high kept)
