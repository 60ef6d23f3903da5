use Rattle.std.proofs.Common.{Some, ap, ◌∙◌}
use Rattle.worksheet.specs.Bounds.{largest}
use Rattle.worksheet.specs.Upper.{largest_admissible}
use Rattle.worksheet.proofs.Aboves.{above_all}
use Rattle.worksheet.proofs.Replying.{largest_replies}
use Rattle.worksheet.proofs.bounds.largest.LargestBound.ask.Goals as goal

pub returns-clause-reply : goal.returns-clause-reply
returns-clause-reply g c _ arranged few =
    ap (λ k. Some (g.K.Kind.means k)) c.largest_of.ensures
    ∙ ap Some (largest_replies g.K.Kind.model g.met.K.Kind.lawful g.K.Kind.means g.K.Kind.held g.met.K.Kind.exact c.args.base c.args.vars.now c.args.pairs.now arranged few)

pub returns-clause-above : goal.returns-clause-above
returns-clause-above g c =
    let M = g.K.Kind.model in
    above_all M g.K.Kind.means (largest M) (largest_admissible M g.met.K.Kind.lawful) c.args.base c.args.vars.now c.args.pairs.now c.args.work.now
    (Some c.largest_of.result) (returns-clause-reply g c)
