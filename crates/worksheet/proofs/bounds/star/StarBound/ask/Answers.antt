use Rattle.std.proofs.Common.{Some, ap, ◌∙◌}
use Rattle.sheets.specs.Totals.{with_vars, arms}
use Rattle.worksheet.specs.Bounds.{star}
use Rattle.worksheet.specs.Upper.{star_admissible}
use Rattle.worksheet.proofs.Aboves.{above_all}
use Rattle.worksheet.proofs.Replying.{star_replies}
use Rattle.worksheet.proofs.bounds.star.StarBound.ask.Goals as goal

pub returns-clause-reply : goal.returns-clause-reply
returns-clause-reply g c _ arranged few =
    let M = g.K.Kind.model in
    let means = g.K.Kind.means in
    let J = g.K.Kind.held in
    let vs = c.args.vars.now in
    let ps = c.args.pairs.now in
    ap (λ k. Some (means k))
    (c.with_vars.ensures
    ∙ ap (with_vars M means J c.args.base) (c.with_arms.ensures ∙ ap (λ ws. arms M means J ws ps) c.copy_from_slice.ensures.after))
    ∙ ap Some (star_replies M g.met.K.Kind.lawful means J g.met.K.Kind.exact c.args.base vs ps arranged few)

pub returns-clause-above : goal.returns-clause-above
returns-clause-above g c =
    let M = g.K.Kind.model in
    above_all M g.K.Kind.means (star M) (star_admissible M g.met.K.Kind.lawful) c.args.base c.args.vars.now c.args.pairs.now c.args.work.now
    (Some c.with_vars.result) (returns-clause-reply g c)
