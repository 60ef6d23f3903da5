use Rattle.std.proofs.Common.{sym, ap, ◌∙◌}
use Rattle.notes.specs.declared.removal.Way.TheVariants.{Alone}
use Rattle.notes.specs.Removals.{removal}
use Rattle.worksheet.specs.Noting.{alone_note}
use Rattle.worksheet.proofs.Noted.{byte_is}
use Rattle.worksheet.proofs.Removed.{alone_done, alone_refused}
use Rattle.worksheet.proofs.removals.remove_alone.Goals as goal

pub returns-in_err-var-clause-left : goal.returns-in_err-var-clause-left
returns-in_err-var-clause-left g c = rw c.from_residual.ensures
    (alone_refused g.K.Kind.model g.met.K.Kind.lawful g.K.Kind.means g.K.Kind.held g.met.K.Kind.exact
    c.args.base.now c.args.base.now c.args.vars.now c.args.vars.now c.args.pairs.now c.args.y (sym c.in_err-var.ensures))

pub returns-clause-left : goal.returns-clause-left
returns-clause-left g c =
    alone_done g.K.Kind.model g.met.K.Kind.lawful g.K.Kind.means g.K.Kind.held g.met.K.Kind.exact
    c.args.base.now _ c.args.vars.now _ c.args.pairs.now c.args.y c.in_ok-var.var _ _ (sym c.in_ok-var.ensures)
    (c.join.ensures ∙ ap (λ b. g.K.Kind.held c.args.base.now b.score) c.better-best.ensures)
    c.leave.ensures
    (ap (λ v. removal c.args.y (Alone v)) (c.from.ensures ∙ byte_is _) ∙ ap (alone_note c.args.y) c.better-best.ensures)
