use Rattle.std.proofs.Common.{◌≡◌, take, drop, Some, sym, ap, ◌∙◌, ap₂, arith}
use Rattle.sheets.specs.Changed.{two_scores, kept, post}
use Rattle.partners.specs.Links.{two_at}
use Rattle.notes.specs.declared.removal.Way.TheVariants.{ByTwo}
use Rattle.notes.specs.Removals.{bank_number, removal}
use Rattle.worksheet.specs.Noting.{two_note}
use Rattle.worksheet.proofs.Posting.{post_in_use, post_in_rest, post_used_within}
use Rattle.worksheet.proofs.Does.{if_some}
use Rattle.worksheet.proofs.Noted.{byte_is}
use Rattle.worksheet.proofs.Removed.{two_done, two_refused, two_room}
use Rattle.worksheet.proofs.removals.remove_by_two.Goals as goal

pub returns-in_err-var-clause-left : goal.returns-in_err-var-clause-left
returns-in_err-var-clause-left g c = rw c.from_residual.ensures
    (two_refused g.K.Kind.model g.met.K.Kind.lawful g.K.Kind.means g.K.Kind.held g.met.K.Kind.exact
    c.args.vars.now c.args.vars.now (take c.args.used.now c.args.pairs.now) (take c.args.used.now c.args.pairs.now) c.args.y
    (ap (λ ps. two_at c.args.vars.now ps c.args.y) (sym c.first.ensures) ∙ sym c.in_err-var.ensures))

pub returns : goal.returns
returns g c =
    let by = c.in_ok-var.field-0 in
    let all = c.args.pairs.now in
    let used = c.args.used.now in
    let at : two_at c.args.vars.now (take used all) c.args.y ≡ Some by
    = ap (λ ps. two_at c.args.vars.now ps c.args.y) (sym c.first.ensures) ∙ sym c.in_ok-var.ensures in
    let room = two_room g.K.Kind.model g.met.K.Kind.lawful g.K.Kind.means g.K.Kind.held g.met.K.Kind.exact
    c.args.vars.now all c.drop_pairs-rest.new.pairs used c.drop_pairs-rest.result c.args.y by at
    c.drop_pairs-rest.ensures.kept c.drop_pairs-rest.ensures.within c.drop_pairs-rest.auto.pairs in
    let J = g.K.Kind.held in
    let x = by.low.partner in
    let z = by.high.partner in
    let y = c.args.y in
    let best = c.best_with_two-best.ensures in
    let vars_are = c.leave.ensures in
    let pairs_are = ap₂ take c.post_pair.ensures.used c.post_pair.ensures.table
    ∙ post_in_use J x z c.scores_of.result c.drop_pairs-rest.new.pairs c.drop_pairs-rest.result room.0
    ∙ ap (post J x z c.scores_of.result) c.drop_pairs-rest.ensures.kept in
    let note_is = ap₂ (λ v w. removal y (ByTwo x z v w c.from-3.result c.from-4.result)) (c.from.ensures ∙ byte_is _) (c.from-2.ensures ∙ byte_is _)
    ∙ ap₂ (λ v w. removal y (ByTwo x z (bank_number c.best_with_two-best.result.at00.second) (bank_number c.best_with_two-best.result.at01.second) v w)) (c.from-3.ensures ∙ byte_is _) (c.from-4.ensures ∙ byte_is _) in
    record {
      left = two_done g.K.Kind.model g.met.K.Kind.lawful g.K.Kind.means J g.met.K.Kind.exact
          c.args.vars.now _ (take used all) _ y by _ _ c.best_with_two-best.result c.scores_of.result at
          best c.scores_of.ensures vars_are pairs_are note_is;
      does = if_some _ _ _ by (sym at)
          (record {
            vars_are = vars_are;
            pairs_are = pairs_are ∙ ap (λ f. post J x z f (kept y (take used all))) (c.scores_of.ensures ∙ ap two_scores best);
            within = omega (
              arith,
              c.post_pair.ensures.used,
              post_used_within J x z c.scores_of.result c.drop_pairs-rest.new.pairs c.drop_pairs-rest.result room.0,
              c.drop_pairs-rest.auto.pairs,
            );
            note_is = ap Some (note_is ∙ ap (two_note y x z) best);
          });
      unused = ap (drop used) c.post_pair.ensures.table
          ∙ post_in_rest J x z c.scores_of.result c.drop_pairs-rest.new.pairs c.drop_pairs-rest.result used room.1
          ∙ c.drop_pairs-rest.ensures.rest;
      refused = tt;
    }
