use Rattle.std.proofs.Common.{take, sym, ap, ◌∙◌}
use Rattle.notes.specs.declared.removal.Way.TheVariants.{Set}
use Rattle.notes.specs.Removals.{removal}
use Rattle.sheets.specs.Changed.{handed}
use Rattle.worksheet.proofs.Noted.{byte_is}
use Rattle.worksheet.proofs.Removed.{set_done}
use Rattle.worksheet.proofs.removals.set_variable.Goals as goal

pub returns-clause-left : goal.returns-clause-left
returns-clause-left g c =
    let J = g.K.Kind.held in
    let y = c.args.y in
    set_done g.K.Kind.model g.met.K.Kind.lawful g.K.Kind.means J g.met.K.Kind.exact
    c.args.base.now _ c.args.vars.now _ (take c.args.used.now c.args.pairs.now) _ y c.args.value c.in_ok-var.var _ _ (sym c.in_ok-var.ensures)
    (c.join.ensures ∙ ap (J c.args.base.now) c.at.ensures)
    (c.hand_over.ensures ∙ ap (λ vs. handed J y c.args.value vs c.first.result.now) c.leave.ensures ∙ ap (handed J y c.args.value _) c.first.ensures)
    c.drop_pairs.ensures.kept
    (ap (λ v. removal y (Set v)) (c.from.ensures ∙ byte_is _))
