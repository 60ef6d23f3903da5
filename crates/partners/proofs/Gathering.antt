-- The links of a variable, gathered from its own pairs alone. Assumes nothing.
use Rattle.std.proofs.Common.{◌≡◌, ℕ, Bool, true, false, cond, ◌||◌, List, [], ◌∷◌, Some, None, Option, filter, eqb, refl, sym, ap, ◌∙◌}
use Rattle.std.specs.List.{fold, filter_map, cons_option}
use Rattle.partners.specs.Links.{with_link, add_link, gather}
use Rattle.partners.specs.declared.links.Links.{Links}
use Rattle.records.specs.declared.pairs.Link.{Link}
use Rattle.records.specs.declared.pairs.Pair.{Pair}
use Rattle.records.specs.Pairs.{touches, link_of}

module _ {K : Type 0} (y : ℕ) where
  not_linked : (a b : Bool) (l m : Link K) → (a || b) ≡ false → cond a (Some l) (cond b (Some m) None) ≡ None
  not_linked true b l m e = absurd cc
  not_linked false true l m e = absurd cc
  not_linked false false l m e = refl

  add_first : (k : Links K) (o : Option (Link K)) (ls : List (Link K)) → fold with_link k (cons_option o ls) ≡ fold with_link (add_link k o) ls
  add_first k None ls = refl
  add_first k (Some l) ls = refl

  -- one pair, which is passed over where it is not of y
  one_pair : (k : Links K) (p : Pair K) (qs : List (Pair K)) → fold with_link k (filter_map (link_of y) (cond (touches y p) (p ∷ qs) qs)) ≡ fold with_link (add_link k (link_of y p)) (filter_map (link_of y) qs)
  one_pair k p qs = go (touches y p) refl
    where
      go : (t : Bool) → touches y p ≡ t → fold with_link k (filter_map (link_of y) (cond t (p ∷ qs) qs)) ≡ fold with_link (add_link k (link_of y p)) (filter_map (link_of y) qs)
      go true e = add_first k (link_of y p) (filter_map (link_of y) qs)
      go false e = sym (ap (λ o. fold with_link (add_link k o) (filter_map (link_of y) qs)) (not_linked (eqb p.low y) (eqb p.high y) _ _ e))

  pub gathered : (k : Links K) (ps : List (Pair K)) → fold with_link k (filter_map (link_of y) (filter (touches y) ps)) ≡ gather y k ps
  gathered k [] = refl
  gathered k (p ∷ ps) = one_pair k p (filter (touches y) ps) ∙ gathered (add_link k (link_of y p)) ps
