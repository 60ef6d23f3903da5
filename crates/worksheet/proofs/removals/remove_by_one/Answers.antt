use Rattle.std.proofs.Common.{take, sym, ap, ◌∙◌, ap₂}
use Rattle.notes.specs.declared.removal.Way.TheVariants.{ByOne}
use Rattle.notes.specs.Removals.{removal}
use Rattle.partners.specs.Links.{one_at}
use Rattle.sheets.specs.Changed.{join_at}
use Rattle.worksheet.proofs.Noted.{byte_is}
use Rattle.worksheet.proofs.Removed.{one_done, one_refused}
use Rattle.worksheet.proofs.removals.remove_by_one.Goals as goal

pub returns-in_err-var-clause-left : goal.returns-in_err-var-clause-left
returns-in_err-var-clause-left g c = rw c.from_residual.ensures
    (one_refused g.K.Kind.model g.met.K.Kind.lawful g.K.Kind.means g.K.Kind.held g.met.K.Kind.exact
    c.args.vars.now c.args.vars.now (take c.args.used.now c.args.pairs.now) (take c.args.used.now c.args.pairs.now) c.args.y
    (ap (λ ps. one_at c.args.vars.now ps c.args.y) (sym c.first.ensures) ∙ sym c.in_err-var.ensures))

pub returns-clause-left : goal.returns-clause-left
returns-clause-left g c =
    let J = g.K.Kind.held in
    let by = c.in_ok-var.field-0 in
    let y = c.args.y in
    let x = by.link.partner in
    one_done g.K.Kind.model g.met.K.Kind.lawful g.K.Kind.means J g.met.K.Kind.exact
    c.args.vars.now _ (take c.args.used.now c.args.pairs.now) _ y by _ _ c.best_with_one-at0.result c.best_with_one-at1.result
    (ap (λ ps. one_at c.args.vars.now ps y) (sym c.first.ensures) ∙ sym c.in_ok-var.ensures)
    c.best_with_one-at0.ensures c.best_with_one-at1.ensures
    (c.join_at.ensures ∙ ap (λ vs. join_at J vs x (record { zero = c.best_with_one-at0.result.score; one = c.best_with_one-at1.result.score })) c.leave.ensures)
    c.drop_pairs.ensures.kept
    (ap₂ (λ v w. removal y (ByOne x v w)) (c.from.ensures ∙ byte_is _) (c.from-2.ensures ∙ byte_is _))
