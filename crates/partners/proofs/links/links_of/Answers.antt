use Rattle.std.proofs.Common.{ap, ◌∙◌, rules}
use Rattle.std.proofs.lemmas.Iterator.Consumers.{fold_from_yields_List, YieldsList-from_filter, YieldsList-from_filter_map}
use Rattle.std.proofs.lemmas.Iterator.{YieldsList-from_slice}
use Rattle.partners.specs.declared.links.Links.TheVariants.{Alone}
use Rattle.partners.specs.Links.{with_link}
use Rattle.records.specs.Pairs.{touches, link_of}
use Rattle.partners.proofs.Gathering.{gathered}
use Rattle.partners.proofs.links.links_of.Goals as goal

pub returns : goal.returns
returns g c =
    fold_from_yields_List _ with_link Alone c.fold.result c.fold.ensures.ran
    (YieldsList-from_filter_map _ (link_of c.args.y)
    (YieldsList-from_filter _ (touches c.args.y)
    (YieldsList-from_slice c.args.pairs.now (ap (λ s. s.iter.rest.now) c.filter_map.ensures.source ∙ ap (λ i. i.rest.now) c.filter.ensures.source ∙ c.iter.ensures.rest))
    (ap (λ s. s.p) c.filter_map.ensures.source ∙ c.filter.ensures.closure)
    (λ x r q k. search rules))
    c.filter_map.ensures.closure
    (λ x r q k. search rules))
    (λ a x b q k. search rules)
    ∙ gathered c.args.y Alone c.args.pairs.now
