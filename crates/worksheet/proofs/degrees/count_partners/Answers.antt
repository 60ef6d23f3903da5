use Rattle.std.proofs.Common.{◌<◌, length, replicate, ap, ◌∙◌, subst}
use Rattle.std.specs.List.{slice_get}
use Rattle.records.proofs.Lists.{nth_replicate}
use Rattle.worksheet.proofs.Tallying.{counted}
use Rattle.worksheet.proofs.degrees.count_partners.Goals as goal

pub returns-clause-partners : goal.returns-clause-partners
returns-clause-partners g c b vs arranged v h =
    let n = length c.args.counts.now in
    ap (λ ds. slice_get ds v) c.tally.ensures.tallied
    ∙ counted g.K.Kind.means b vs c.args.pairs.now arranged (replicate n 0) v
    (nth_replicate n v 0 (subst (λ k. v < k) c.tally.auto.counts h)) c.tally.ensures.few
