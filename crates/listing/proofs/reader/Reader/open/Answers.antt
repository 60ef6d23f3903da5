use Rattle.std.proofs.Common.{Err, sym, refl, ap, ◌∙◌, subst, arith}
use Rattle.std.proofs.lemmas.Result.{err_from_is_err_and}
use Rattle.listing.specs.Listings.{Opened}
use Rattle.listing.proofs.ListingReading.{opened_no, opened_yes}
use Rattle.listing.proofs.reader.Reader.open.Goals as goal

pub returns-in_err-opening : goal.returns-in_err-opening
returns-in_err-opening c =
    let p = err_from_is_err_and c.from_residual.result c.from_residual.ensures.1 in
    subst (Opened c.args.text.now) (sym (p.1 ∙ ap Err p.2)) (opened_no c.args.text.now _ _ _ refl refl (omega arith) c.in-Some.ensures _ c.in_err-opening.ensures.reply)

pub returns : goal.returns
returns c = opened_yes c.args.text.now _ _ _ refl refl (omega arith) c.in-Some.ensures _ c.in_ok-opening.ensures.reply
