-- A post onto a pair where it stands, or of a new one. Assumes nothing.
use Rattle.std.proofs.Common.{◌≡◌, ℕ, suc, ◌<◌, ◌≤◌, Bool, true, false, cond, ltb, List, [], ◌∷◌, ◌++◌, length, take, drop, set, Some, None, Option, sym, refl, ap, ◌∙◌, ap₂, ⊎_elim, add-one, arith}
use Rattle.std.specs.Option.{option_map}
use Rattle.std.specs.List.{slice_get}
use Rattle.std.proofs.lemmas.List.{drop-set-lt, take_more_set, length-take}
use Rattle.std.proofs.lemmas.Bool.{cases_Bool, cond-true, cond-false, lt-ltb}
use Rattle.score.specs.declared.values.Four.{Four}
use Rattle.records.specs.declared.pairs.Pair.{Pair}
use Rattle.records.specs.Pairs.{is_pair, joined_pair, place}
use Rattle.records.proofs.Lists.{take_set, nth_take}
use Rattle.records.proofs.Places.{some_suc, place_cons, place_below}
use Rattle.sheets.specs.Changed.{post, join_pair_at, post_in, post_used}

module _ {K : Type 0} (x z : ℕ) where
  module _ (J : K → K → K) (f : Four K) where
    pub post_new : (ps : List (Pair K)) → None ≡ place x z ps → post J x z f ps ≡ ps ++ record { low = x; high = z; scores = f } ∷ []
    post_new [] e = refl
    post_new (p ∷ ps) e =
        ⊎_elim
        (λ (t : is_pair x z p ≡ true). let s : None ≡ Some 0 = e ∙ place_cons x z p ps ∙ cond-true (is_pair x z p) (Some 0) (option_map suc (place x z ps)) t in absurd cc)
        (λ (t : is_pair x z p ≡ false).
        cond-false (is_pair x z p) _ (p ∷ post J x z f ps) t
        ∙ ap (λ qs. p ∷ qs) (post_new ps (none_suc (place x z ps) (e ∙ place_cons x z p ps ∙ cond-false (is_pair x z p) (Some 0) (option_map suc (place x z ps)) t))))
        (cases_Bool (is_pair x z p))
      where
        none_suc : (o : Option ℕ) → None ≡ option_map suc o → None ≡ o
        none_suc None e = refl
        none_suc (Some k) e = absurd cc

    pub post_at : (ps : List (Pair K)) (i : ℕ) → place x z ps ≡ Some i → post J x z f ps ≡ join_pair_at J ps i f
    post_at [] i e = absurd cc
    post_at (p ∷ ps) i e =
        ⊎_elim
        (λ (t : is_pair x z p ≡ true).
        let s : Some 0 ≡ Some i = sym (place_cons x z p ps ∙ cond-true (is_pair x z p) (Some 0) (option_map suc (place x z ps)) t) ∙ e in
        let k : 0 ≡ i = cc in
        cond-true (is_pair x z p) (joined_pair J p f ∷ ps) (p ∷ post J x z f ps) t ∙ ap (λ j. join_pair_at J (p ∷ ps) j f) k)
        (λ (t : is_pair x z p ≡ false).
        let q = some_suc (place x z ps) i (sym (place_cons x z p ps ∙ cond-false (is_pair x z p) (Some 0) (option_map suc (place x z ps)) t) ∙ e) in
        cond-false (is_pair x z p) (joined_pair J p f ∷ ps) (p ∷ post J x z f ps) t
        ∙ ap (λ qs. p ∷ qs) (post_at ps q.0 q.2)
        ∙ behind q.0 (slice_get ps q.0) refl
        ∙ ap (λ j. join_pair_at J (p ∷ ps) j f) (sym q.1))
        (cases_Bool (is_pair x z p))
      where
        behind : (k : ℕ) (o : Option (Pair K)) → slice_get ps k ≡ o → p ∷ join_pair_at J ps k f ≡ join_pair_at J (p ∷ ps) (suc k) f
        behind k None e = ap (λ o. p ∷ elim o [ None ↦ ps | Some q ↦ set ps k (joined_pair J q f) ]) e ∙ sym (ap (λ o. elim o [ None ↦ p ∷ ps | Some q ↦ p ∷ set ps k (joined_pair J q f) ]) e)
        behind k (Some r) e = ap (λ o. p ∷ elim o [ None ↦ ps | Some q ↦ set ps k (joined_pair J q f) ]) e ∙ sym (ap (λ o. elim o [ None ↦ p ∷ ps | Some q ↦ p ∷ set ps k (joined_pair J q f) ]) e)

module _ {K : Type 0} (J : K → K → K) (f : Four K) where
  pub join_pair_take : (ps : List (Pair K)) (n i : ℕ) → i < n → take n (join_pair_at J ps i f) ≡ join_pair_at J (take n ps) i f
  join_pair_take ps n i h = go (slice_get ps i) refl
    where
      go : (o : Option (Pair K)) → slice_get ps i ≡ o → take n (join_pair_at J ps i f) ≡ join_pair_at J (take n ps) i f
      go None e = ap (λ o. take {A = Pair K} n (elim o [ None ↦ ps | Some p ↦ set ps i (joined_pair J p f) ])) e ∙ sym (ap (λ o. elim o [ None ↦ take n ps | Some p ↦ set (take n ps) i (joined_pair J p f) ]) (nth_take ps n i h ∙ e))
      go (Some p) e = ap (λ o. take {A = Pair K} n (elim o [ None ↦ ps | Some p ↦ set ps i (joined_pair J p f) ])) e ∙ take_set ps n i (joined_pair J p f) ∙ sym (ap (λ o. elim o [ None ↦ take n ps | Some p ↦ set (take n ps) i (joined_pair J p f) ]) (nth_take ps n i h ∙ e))

  pub join_pair_drop : (ps : List (Pair K)) (n i : ℕ) → i < n → drop n (join_pair_at J ps i f) ≡ drop n ps
  join_pair_drop ps n i h = go (slice_get ps i)
    where
      go : (o : Option (Pair K)) → drop {A = Pair K} n (elim o [ None ↦ ps | Some p ↦ set ps i (joined_pair J p f) ]) ≡ drop n ps
      go None = refl
      go (Some p) = drop-set-lt n ps i (joined_pair J p f) h

module _ {K : Type 0} (J : K → K → K) (x z : ℕ) (f : Four K) (ps : List (Pair K)) (used : ℕ) where
  within : (i : ℕ) → place x z (take used ps) ≡ Some i → i < used
  within i e = omega (arith, place_below x z (take used ps) i e, length-take used ps)

  -- the first records say what the list with the post says
  pub post_in_use : used < length ps → take (post_used x z used ps) (post_in J x z f used ps) ≡ post J x z f (take used ps)
  post_in_use room = go (place x z (take used ps)) refl
    where
      new : Pair K
      new = record { low = x; high = z; scores = f }

      here : ltb used (length ps) ≡ true
      here = lt-ltb used (length ps) room

      go : (o : Option ℕ) → place x z (take used ps) ≡ o → take (post_used x z used ps) (post_in J x z f used ps) ≡ post J x z f (take used ps)
      go None e =
          ap₂ take
          (ap (λ o. elim o [ None ↦ cond (ltb used (length ps)) (suc used) used | Some i ↦ used ]) e ∙ cond-true (ltb used (length ps)) (suc used) used here ∙ sym (add-one used))
          (ap (λ o. elim o [ None ↦ cond (ltb used (length ps)) (set ps used new) ps | Some i ↦ join_pair_at J ps i f ]) e ∙ cond-true (ltb used (length ps)) (set ps used new) ps here)
          ∙ take_more_set ps used new room
          ∙ sym (post_new x z J f (take used ps) (sym e))
      go (Some i) e =
          ap₂ take
          (ap (λ o. elim o [ None ↦ cond (ltb used (length ps)) (suc used) used | Some i ↦ used ]) e)
          (ap (λ o. elim o [ None ↦ cond (ltb used (length ps)) (set ps used new) ps | Some i ↦ join_pair_at J ps i f ]) e)
          ∙ join_pair_take J f ps used i (within i e)
          ∙ sym (post_at x z J f (take used ps) i e)

  -- and the records behind stay
  pub post_in_rest : (n : ℕ) → used < n → drop n (post_in J x z f used ps) ≡ drop n ps
  post_in_rest n h = go (place x z (take used ps)) refl
    where
      new : Pair K
      new = record { low = x; high = z; scores = f }

      either : (t : Bool) → drop {A = Pair K} n (cond t (set ps used new) ps) ≡ drop n ps
      either true = drop-set-lt n ps used new h
      either false = refl

      go : (o : Option ℕ) → place x z (take used ps) ≡ o → drop n (post_in J x z f used ps) ≡ drop n ps
      go None e =
          ap (λ o. drop {A = Pair K} n (elim o [ None ↦ cond (ltb used (length ps)) (set ps used new) ps | Some i ↦ join_pair_at J ps i f ])) e ∙ either (ltb used (length ps))
      go (Some i) e =
          ap (λ o. drop {A = Pair K} n (elim o [ None ↦ cond (ltb used (length ps)) (set ps used new) ps | Some i ↦ join_pair_at J ps i f ])) e
          ∙ join_pair_drop J f ps n i (omega (arith, within i e, h))

  pub post_used_within : used < length ps → post_used x z used ps ≤ length ps
  post_used_within room = go (place x z (take used ps))
    where
      either : (t : Bool) → cond t (suc used) used ≤ length ps
      either true = omega (arith, room)
      either false = omega (arith, room)

      go : (o : Option ℕ) → elim o [ None ↦ cond (ltb used (length ps)) (suc used) used | Some i ↦ used ] ≤ length ps
      go None = either (ltb used (length ps))
      go (Some i) = omega (arith, room)
