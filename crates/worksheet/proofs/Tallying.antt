-- One pass over the pairs counts the partners of every variable. Assumes nothing.
use Rattle.std.proofs.Common.{◌≡◌, ℕ, suc, ◌+◌, ◌%◌, ◌^◌, ◌<◌, ◌≤◌, List, [], ◌∷◌, length, set, Some, None, Option, sym, refl, ap, ◌∙◌, arith}
use Rattle.std.specs.List.{AllByRecursion, slice_get}
use Rattle.steps.specs.Sheet.{degree}
use Rattle.records.specs.declared.pairs.Pair.{Pair}
use Rattle.sheets.specs.declared.variables.Var.{Var}
use Rattle.partners.specs.Tallied.{one_more, both_more, tallied}
use Rattle.partners.specs.Links.{front, links}
use Rattle.worksheet.specs.Records.{contents, Arranged}
use Rattle.std.proofs.lemmas.Option.{slice_get_within}
use Rattle.records.proofs.Lists.{nth_set_same, nth_set_other}
use Rattle.worksheet.proofs.Partners.{LowFirst, low_first, link_cases, degree_links}

more_same : (ds : List ℕ) (v d : ℕ) → slice_get ds v ≡ Some d → d + 1 < 2 ^ 64 → slice_get (one_more ds v) v ≡ Some (d + 1)
more_same ds v d e h =
    ap (λ o. slice_get (elim o [ None ↦ ds | Some d ↦ set ds v ((d + 1) % 2 ^ 64) ]) v) e
    ∙ nth_set_same ds v ((d + 1) % 2 ^ 64) (slice_get_within ds v d e)
    ∙ ap Some (omega arith)

more_other : (ds : List ℕ) (x v : ℕ) → (v ≡ x → ⊥) → slice_get (one_more ds x) v ≡ slice_get ds v
more_other ds x v h = go (slice_get ds x)
  where
    go : (o : Option ℕ) → slice_get (elim o [ None ↦ ds | Some d ↦ set ds x ((d + 1) % 2 ^ 64) ]) v ≡ slice_get ds v
    go None = refl
    go (Some d) = nth_set_other ds x v ((d + 1) % 2 ^ 64) h

links_most : {K : Type 0} (y : ℕ) (ps : List (Pair K)) → length (links y ps) ≤ length ps
links_most y [] = omega arith
links_most y (p ∷ ps) =
    let rest : length (links y ps) ≤ length ps = links_most y ps in
    link_cases y p (λ o. length (front o (links y ps)) ≤ suc (length ps)) (λ _. omega arith) (λ _ _. omega arith) (λ _ _. omega arith)

tallied_at : {K : Type 0} (v : ℕ) (ps : List (Pair K)) → AllByRecursion LowFirst ps → (ds : List ℕ) (d : ℕ) → slice_get ds v ≡ Some d → d + length (links v ps) < 2 ^ 64
    → slice_get (tallied ds ps) v ≡ Some (d + length (links v ps))
tallied_at v [] h ds d e few = e ∙ ap Some (omega arith)
tallied_at v (p ∷ ps) h ds d e few =
    let low : p.low < p.high = h.0 in
    link_cases v p (λ o. d + length (front o (links v ps)) < 2 ^ 64 → slice_get (tallied (both_more ds p) ps) v ≡ Some (d + length (front o (links v ps))))
    (λ is few.
    tallied_at v ps h.1 (both_more ds p) (d + 1)
    (more_other (one_more ds p.low) p.high v (λ q. omega (arith, q, is, low))
    ∙ ap (λ x. slice_get (one_more ds x) v) is ∙ more_same ds v d e (omega (arith, few)))
    (omega (arith, few))
    ∙ ap Some (omega arith))
    (λ isnt is few.
    tallied_at v ps h.1 (both_more ds p) (d + 1)
    (ap (λ x. slice_get (one_more (one_more ds p.low) x) v) is
    ∙ more_same (one_more ds p.low) v d (more_other ds p.low v (λ q. isnt (sym q)) ∙ e) (omega (arith, few)))
    (omega (arith, few))
    ∙ ap Some (omega arith))
    (λ isnt isnt_high few.
    tallied_at v ps h.1 (both_more ds p) d
    (more_other (one_more ds p.low) p.high v (λ q. isnt_high (sym q)) ∙ more_other ds p.low v (λ q. isnt (sym q)) ∙ e) few)
    few

pub counted : {K S : Type 0} (means : K → S) (b : K) (vs : List (Var K)) (ps : List (Pair K)) → Arranged vs ps → (ds : List ℕ) (v : ℕ) → slice_get ds v ≡ Some 0
    → length ps < 2 ^ 64 → slice_get (tallied ds ps) v ≡ Some (degree (contents means b vs ps) v)
counted means b vs ps a ds v e few =
    tallied_at v ps (low_first vs ps a.placed) ds 0 e (omega (arith, links_most v ps, few))
    ∙ ap Some (omega (arith, degree_links means b vs ps a.placed a.apart v))
