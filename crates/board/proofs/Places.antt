-- Where a pair's record stands. Assumes nothing.
use Rattle.std.proofs.Common.{◌≡◌, ℕ, suc, Bool, true, false, cond, ◌||◌, List, [], ◌∷◌, map, Some, None, Option, sym, refl, ap, ◌∙◌, subst}
use Rattle.std.specs.Option.{option_map}
use Rattle.std.proofs.lemmas.Bool.{or_left, or_right}
use Rattle.calls.specs.Standing.{has_key}
use Rattle.calls.proofs.OverPosts.{same_key_same}
use Rattle.records.specs.declared.pairs.Pair.{Pair}
use Rattle.records.specs.Pairs.{is_pair, place}
use Rattle.records.proofs.Places.{place_cons}
use Rattle.board.specs.Tables.{pair_key, Place}

module _ {K : Type 0} (low high : ℕ) where
  pub place_is : (ps : List (Pair K)) → Place (low, high) ps (place low high ps)
  place_is [] = refl
  place_is (p ∷ ps) = subst (Place (low, high) (p ∷ ps)) (sym (place_cons low high p ps)) (go (is_pair low high p) refl (place_is ps))
    where
      -- behind another pair
      behind : is_pair low high p ≡ false → (o : Option ℕ) → Place (low, high) ps o → Place (low, high) (p ∷ ps) (option_map suc o)
      behind other None none = ap (λ t. t || has_key (low, high) (map pair_key ps)) other ∙ none
      behind other (Some i) at = (or_right (is_pair low high p) _ at.0, record { pair = at.1.pair; there = at.1.there; key_is = at.1.key_is })

      go : (t : Bool) → is_pair low high p ≡ t → Place (low, high) ps (place low high ps) → Place (low, high) (p ∷ ps) (cond t (Some 0) (option_map suc (place low high ps)))
      go true same rest = (or_left (is_pair low high p) _ same, record { pair = p; there = refl; key_is = sym (same_key_same (low, high) (pair_key p) same) })
      go false other rest = behind other (place low high ps) rest
