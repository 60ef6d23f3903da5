-- What the bounds compute on the records is what their rules say of the contents. Assumes nothing.
use Rattle.std.proofs.Common.{◌≡◌, ℕ, zero, suc, ◌+◌, ◌-◌, ◌<◌, ◌≤◌, Bool, true, false, cond, eqb, List, [], ◌∷◌, ◌++◌, map, length, Some, None, Option, sym, refl, ap, ◌∙◌, subst, ap₂, ⊎_elim, arith}
use Rattle.std.specs.Option.{option_map}
use Rattle.std.specs.List.{AllByRecursion, slice_get}
use Rattle.std.proofs.lemmas.List.{map-append}
use Rattle.std.proofs.ByRecursion.{All-weaker}
use Rattle.std.proofs.lemmas.Option.{slice_get_past}
use Rattle.std.proofs.lemmas.Bool.{cases_Bool, cases_eq, cond-false, eqb-true, eqb-false, and_parts}
use Rattle.score.specs.Model.{Model, Laws, Of, Together, better, joined, exact_entries}
use Rattle.score.specs.Joins.{Within}
use Rattle.score.proofs.Entries.{joined_append, of_sum}
use Rattle.steps.specs.Change.{own}
use Rattle.steps.specs.Counts.{Single, OneOf, TwoOf, Few}
use Rattle.steps.specs.Sheet.{Sheet, over, numbers, one_score, two_score}
use Rattle.steps.proofs.Counting.{numbers_laws}
use Rattle.steps.proofs.Joins.{over_same, over_join, over_neutral}
use Rattle.records.specs.declared.pairs.Pair.{Pair}
use Rattle.score.specs.declared.values.Two.{Two}
use Rattle.sheets.specs.Totals.{best_of_two, low_bests, best_pair, with_vars, with_pairs, with_arm, arms}
use Rattle.worksheet.specs.Bounds.{largest_score, best_four, arm, star_score}
use Rattle.sheets.specs.Changed.{chosen, choose_held}
use Rattle.sheets.specs.declared.variables.Var.{Var}
use Rattle.sheets.specs.declared.variables.Var.TheVariants.{Remains, Left}
use Rattle.sheets.specs.Variables.{joined_var}
use Rattle.score.specs.Values.{at_two, at_four}
use Rattle.records.specs.Pairs.{is_pair}
use Rattle.worksheet.specs.Records.{var_scores, var_says, pair_scores, found, contents, Present, Placed, Arranged}
use Rattle.std.proofs.lemmas.Option.{slice_get_within}
use Rattle.records.proofs.Lists.{nth_none}
use Rattle.worksheet.proofs.Onto.{join_at_same, join_at_other, join_at_length}
use Rattle.worksheet.proofs.Running.{row, row_joined, row_of_counts, ofs_joined, run, run_append, run_exact, Ofs, ofs_append, within_ofs, of_vars, of_var, vars_joined, vars_of, of_pair, found_keys, all_found, pairs_joined, pairs_of_counts}

-- A choice between two held scores -----------------------------------------------------------------------------------------------------

module _ {E S K : Type 0} (M : Model E S) (means : K → S) where
  pub chosen_means : (a b : K) → means (chosen M means a b).score ≡ better M (means a) (means b)
  chosen_means a b = go (M.at_most (means b) (means a))
    where
      go : (t : Bool) → means (cond t (choose_held a false) (choose_held b true)).score ≡ cond t (means a) (means b)
      go true = refl
      go false = refl

  pub chosen_of : (m : ℕ) (a b : K) → Of M m (means a) → Of M m (means b) → Of M m (means (chosen M means a b).score)
  chosen_of m a b p q = go (M.at_most (means b) (means a))
    where
      go : (t : Bool) → Of M m (means (cond t (choose_held a false) (choose_held b true)).score)
      go true = p
      go false = q

  better_neutral : better M M.neutral M.neutral ≡ M.neutral
  better_neutral = go (M.at_most M.neutral M.neutral)
    where
      go : (t : Bool) → cond t M.neutral M.neutral ≡ M.neutral
      go true = refl
      go false = refl

-- The counts of a sheet's records ------------------------------------------------------------------------------------------------------

module _ {E S : Type 0} (M : Model E S) where
  one_some : (o : Option (Single → ℕ)) (f : Bool → S) → OneOf M o (Some f) → (u : Bool) → Of M (one_score numbers o tt) (f u)
  one_some None f h u = absurd h
  one_some (Some k) f h u = h u

  one_none : (o : Option (Single → ℕ)) → OneOf {V = Bool} M o None → one_score numbers o tt ≡ 0
  one_none None h = refl
  one_none (Some k) h = absurd h

  two_some : (o : Option (Single → Single → ℕ)) (f : Bool → Bool → S) → TwoOf M o (Some f) → (u w : Bool) → Of M (two_score numbers o tt tt) (f u w)
  two_some None f h u w = absurd h
  two_some (Some k) f h u w = h u w

  two_none : (o : Option (Single → Single → ℕ)) → TwoOf {V = Bool} M o None → two_score numbers o tt tt ≡ 0
  two_none None h = refl
  two_none (Some k) h = absurd h

module _ {E S K : Type 0} (M : Model E S) (means : K → S) (b : K) (vs : List (Var K)) (ps : List (Pair K)) (arranged : Arranged vs ps)
    (few : Few M (contents means b vs ps)) where
  abbrev pub var_count : ℕ → ℕ
  var_count v = one_score numbers (few.counts.one v) tt

  abbrev pub pair_count : ℕ → ℕ → ℕ
  pair_count a z = two_score numbers (few.counts.two a z) tt tt

  pub var_of : (v : ℕ) (r : Two K) → slice_get vs v ≡ Some (Remains r) → (u : Bool) → Of M (var_count v) (means (at_two r u))
  var_of v r there =
      one_some M (few.counts.one v) (var_scores means r)
      (subst (OneOf M (few.counts.one v)) (ap (var_says means) there) (few.counted.one_of v))

  pub pair_of : (a z : ℕ) (p : Pair K) → found a z ps ≡ Some p → (u w : Bool) → Of M (pair_count a z) (pair_scores means p u w)
  pair_of a z p e =
      two_some M (few.counts.two a z) (pair_scores means p)
      (subst (TwoOf M (few.counts.two a z)) (ap (option_map (pair_scores means)) e) (few.counted.two_of a z))

  var_weight : (v : ℕ) → of_var 0 (λ _. var_count v) (slice_get vs v) ≡ var_count v
  var_weight v = go (slice_get vs v) refl
    where
      none : var_says means (slice_get vs v) ≡ None → 0 ≡ var_count v
      none e = sym (one_none M (few.counts.one v) (subst (OneOf M (few.counts.one v)) e (few.counted.one_of v)))

      go : (o : Option (Var K)) → slice_get vs v ≡ o → of_var 0 (λ _. var_count v) o ≡ var_count v
      go None e = none (ap (var_says means) e)
      go (Some (Remains r)) e = refl
      go (Some (Left r)) e = none (ap (var_says means) e)

  pub pair_weight : (a z : ℕ) → of_pair 0 (λ p. pair_count p.low p.high) (found a z ps) ≡ pair_count a z
  pair_weight a z = go (found a z ps) refl
    where
      go : (o : Option (Pair K)) → found a z ps ≡ o → of_pair 0 (λ p. pair_count p.low p.high) o ≡ pair_count a z
      go None e = sym (two_none M (few.counts.two a z) (subst (TwoOf M (few.counts.two a z)) (ap (option_map (pair_scores means)) e) (few.counted.two_of a z)))
      go (Some p) e = let k = found_keys ps a z p e in ap₂ pair_count (sym k.0) (sym k.1)

  pub all_entries : few.counts.base + (over numbers (length vs) var_count + over numbers (length vs) (λ a. over numbers (length vs) (pair_count a))) ≤ exact_entries
  all_entries =
      subst (λ n. few.counts.base + (over numbers n var_count + over numbers n (λ a. over numbers n (pair_count a))) ≤ exact_entries) few.counted.size_is few.within

over_one : (n v : ℕ) (f : ℕ → ℕ) → v < n → f v ≤ over numbers n f
over_one zero v f h = absurd (omega (arith, h))
over_one (suc n) v f h =
    ⊎_elim
    (λ (e : v ≡ n). subst (λ x. f x ≤ over numbers n f + f n) (sym e) (omega arith))
    (λ (e : v ≡ n → ⊥). omega (arith, over_one n v f (omega arith)))
    (cases_eq v n)

over_least : (n : ℕ) (f g : ℕ → ℕ) → ((v : ℕ) → f v ≤ g v) → over numbers n f ≤ over numbers n g
over_least zero f g h = omega arith
over_least (suc n) f g h = omega (arith, over_least n f g h, h n)

of_var_most : {K : Type 0} (k : ℕ) (o : Option (Var K)) → of_var 0 (λ _. k) o ≤ k
of_var_most k None = omega arith
of_var_most k (Some (Remains r)) = omega arith
of_var_most k (Some (Left r)) = omega arith

map_row : {K T U : Type 0} (f : T → U) (g : Pair K → T) (v : ℕ) (ps : List (Pair K)) → map f (row g v ps) ≡ row (λ p. f (g p)) v ps
map_row f g v [] = refl
map_row f g v (p ∷ ps) = go (eqb v p.low) ∙ ap (λ xs. cond (eqb v p.low) (f (g p) ∷ xs) xs) (map_row f g v ps)
  where
    go : (t : Bool) → map f (cond t (g p ∷ row g v ps) (row g v ps)) ≡ cond t (f (g p) ∷ map f (row g v ps)) (map f (row g v ps))
    go true = refl
    go false = refl

placed_found : {K : Type 0} (vs : List (Var K)) (ps : List (Pair K)) → AllByRecursion (Placed vs) ps → (a c : ℕ) (p : Pair K) → found a c ps ≡ Some p → Present vs a
placed_found vs [] h a c p e = absurd cc
placed_found vs (q ∷ qs) h a c p e =
    ⊎_elim
    (λ (t : is_pair a c q ≡ true). subst (Present vs) (sym (eqb-true a q.low (and_parts (eqb a q.low) (eqb c q.high) t).0)) h.0.low_present)
    (λ (t : is_pair a c q ≡ false). placed_found vs qs h.1 a c p (sym (cond-false (is_pair a c q) (Some q) (found a c qs) t) ∙ e))
    (cases_Bool (is_pair a c q))

-- The largest bound --------------------------------------------------------------------------------------------------------------------

module _ {E S K : Type 0} (M : Model E S) (laws : Laws M) (means : K → S) (J : K → K → K)
    (exact : (a b : K) → Together M (means a) (means b) → means (J a b) ≡ M.join (means a) (means b)) where
  abbrev bests : List (Var K) → List K
  bests vs = of_vars (λ _ r. best_of_two M means r) vs

  pub with_vars_run : (vs : List (Var K)) (k : K) → with_vars M means J k vs ≡ run J k (bests vs)
  with_vars_run [] k = refl
  with_vars_run (Remains r ∷ rs) k = with_vars_run rs (J k (best_of_two M means r))
  with_vars_run (Left r ∷ rs) k = with_vars_run rs k

  with_pairs_run : (ps : List (Pair K)) (k : K) → with_pairs M means J k ps ≡ run J k (map (best_pair M means) ps)
  with_pairs_run [] k = refl
  with_pairs_run (p ∷ ps) k = with_pairs_run ps (J k (best_pair M means p))

  pub bests_means : (vs : List (Var K)) → map means (bests vs) ≡ of_vars (λ _ r. means (best_of_two M means r)) vs
  bests_means [] = refl
  bests_means (Remains r ∷ rs) = ap (λ xs. means (best_of_two M means r) ∷ xs) (bests_means rs)
  bests_means (Left r ∷ rs) = bests_means rs

  map_map : (ps : List (Pair K)) → map means (map (best_pair M means) ps) ≡ map (λ p. means (best_pair M means p)) ps
  map_map [] = refl
  map_map (p ∷ ps) = ap (λ xs. means (best_pair M means p) ∷ xs) (map_map ps)

  best_var_is : (b : K) (vs : List (Var K)) (ps : List (Pair K)) (v : ℕ)
      → of_var M.neutral (λ r. means (best_of_two M means r)) (slice_get vs v) ≡ better M (own M (contents means b vs ps) v false) (own M (contents means b vs ps) v true)
  best_var_is b vs ps v = go (slice_get vs v)
    where
      go : (o : Option (Var K)) → of_var M.neutral (λ r. means (best_of_two M means r)) o ≡ better M (one_score M (var_says means o) false) (one_score M (var_says means o) true)
      go None = sym (better_neutral M means)
      go (Some (Remains r)) = chosen_means M means r.zero r.one
      go (Some (Left r)) = sym (better_neutral M means)

  best_pair_is : (o : Option (Pair K)) → of_pair M.neutral (λ p. means (best_pair M means p)) o ≡ best_four M (two_score M (option_map (pair_scores means) o))
  best_pair_is None = sym (ap₂ (better M) (better_neutral M means) (better_neutral M means) ∙ better_neutral M means)
  best_pair_is (Some p) =
      chosen_means M means _ _
      ∙ ap₂ (better M) (chosen_means M means p.scores.at00 p.scores.at01) (chosen_means M means p.scores.at10 p.scores.at11)

  pub largest_replies : (b : K) (vs : List (Var K)) (ps : List (Pair K)) → Arranged vs ps → Few M (contents means b vs ps)
      → means (with_pairs M means J (with_vars M means J b vs) ps) ≡ largest_score M (contents means b vs ps)
  largest_replies b vs ps arranged few =
      let n = length vs in
      let w = var_count M means b vs ps arranged few in
      let z = pair_count M means b vs ps arranged few in
      let ks = of_vars (λ v _. w v) vs in
      let ls = map (λ p. z p.low p.high) ps in
      let xs = of_vars (λ _ r. means (best_of_two M means r)) vs in
      let ys = map (λ p. means (best_pair M means p)) ps in
      let all : map means (bests vs ++ map (best_pair M means) ps) ≡ xs ++ ys
      = map-append means (bests vs) (map (best_pair M means) ps) ∙ ap₂ (λ p q. p ++ q) (bests_means vs) (map_map ps) in
      let sums : joined numbers (ks ++ ls) ≡ over numbers n w + over numbers n (λ a. over numbers n (z a))
      = joined_append numbers numbers_laws ks ls
      ∙ ap₂ (λ p q. p + q)
      (vars_joined numbers numbers_laws vs (λ v _. w v) ∙ over_same numbers_laws n _ w (var_weight M means b vs ps arranged few))
      (pairs_joined numbers numbers_laws (λ p. z p.low p.high) vs ps arranged.placed arranged.apart
      ∙ over_same numbers_laws n _ (λ a. over numbers n (z a)) (λ a. over_same numbers_laws n _ (z a) (λ c. pair_weight M means b vs ps arranged few a c))) in
      let ofs : Ofs M (ks ++ ls) (xs ++ ys)
      = ofs_append M ks xs ls ys
      (vars_of M laws vs w (λ _ r. means (best_of_two M means r)) (λ v r there. chosen_of M means (w v) r.zero r.one (var_of M means b vs ps arranged few v r there false) (var_of M means b vs ps arranged few v r there true)))
      (pairs_of_counts M laws (λ p. means (best_pair M means p)) (λ p. z p.low p.high) ps
      (All-weaker _ (λ p. Of M (z p.low p.high) (means (best_pair M means p)))
      (λ p at.
      let of = pair_of M means b vs ps arranged few p.low p.high p at in
      chosen_of M means (z p.low p.high) _ _
      (chosen_of M means (z p.low p.high) p.scores.at00 p.scores.at01 (of false false) (of false true))
      (chosen_of M means (z p.low p.high) p.scores.at10 p.scores.at11 (of true false) (of true true)))
      ps (all_found ps arranged.apart))) in
      let room = all_entries M means b vs ps arranged few in
      ap means
      (with_pairs_run ps (with_vars M means J b vs)
      ∙ ap (λ k. run J k (map (best_pair M means) ps)) (with_vars_run vs b)
      ∙ sym (run_append J (bests vs) (map (best_pair M means) ps) b))
      ∙ run_exact M laws means J exact (bests vs ++ map (best_pair M means) ps) b few.counts.base (omega (arith, room)) few.counted.base_of
      (subst (Within M (exact_entries - few.counts.base)) (sym all) (within_ofs M (ks ++ ls) (xs ++ ys) (exact_entries - few.counts.base) ofs (omega (arith, sums, room))))
      ∙ ap (λ t. M.join (means b) (joined M t)) all
      ∙ ap (M.join (means b))
      (joined_append M laws xs ys
      ∙ ap₂ M.join
      (vars_joined M laws vs (λ _ r. means (best_of_two M means r)) ∙ over_same laws n _ _ (best_var_is b vs ps))
      (pairs_joined M laws (λ p. means (best_pair M means p)) vs ps arranged.placed arranged.apart
      ∙ over_same laws n _ _ (λ a. over_same laws n _ _ (λ c. best_pair_is (found a c ps)))))

  -- The star bound -------------------------------------------------------------------------------------------------------------------

  -- the better entry of a pair, its lower variable standing at u
  abbrev low_best : Bool → Pair K → K
  low_best u p = (chosen M means (at_four p.scores u false) (at_four p.scores u true)).score

  abbrev arm_two : Two K → ℕ → List (Pair K) → Two K
  arm_two r v ps = record { zero = run J r.zero (row (low_best false) v ps); one = run J r.one (row (low_best true) v ps) }

  abbrev arm_var : Var K → ℕ → List (Pair K) → Var K
  arm_var (Remains r) v ps = Remains (arm_two r v ps)
  arm_var (Left r) v ps = Left (arm_two r v ps)

  arms_at : (ps : List (Pair K)) (vs : List (Var K)) (v : ℕ) (r : Var K) → slice_get vs v ≡ Some r → slice_get (arms M means J vs ps) v ≡ Some (arm_var r v ps)
  arms_at [] vs v r e = e ∙ ap Some (same r)
    where
      same : (r : Var K) → r ≡ arm_var r v []
      same (Remains s) = refl
      same (Left s) = refl
  arms_at (p ∷ ps) vs v r e =
      ⊎_elim
      (λ (t : eqb v p.low ≡ true).
      let is = eqb-true v p.low t in
      arms_at ps (with_arm M means J vs p) v (joined_var J r (low_bests M means p))
      (ap (slice_get (with_arm M means J vs p)) is ∙ join_at_same J vs p.low (low_bests M means p) r (ap (slice_get vs) (sym is) ∙ e))
      ∙ ap Some (joined r ∙ sym (ap (chained r) t) ∙ whole r))
      (λ (t : eqb v p.low ≡ false).
      arms_at ps (with_arm M means J vs p) v r (join_at_other J vs p.low (low_bests M means p) v (eqb-false v p.low t) ∙ e)
      ∙ ap Some (passed r ∙ sym (ap (chained r) t) ∙ whole r))
      (cases_Bool (eqb v p.low))
    where
      chained_two : Two K → Bool → Two K
      chained_two s b = record {
        zero = run J s.zero (cond b (low_best false p ∷ row (low_best false) v ps) (row (low_best false) v ps));
        one = run J s.one (cond b (low_best true p ∷ row (low_best true) v ps) (row (low_best true) v ps));
      }

      chained : Var K → Bool → Var K
      chained (Remains s) b = Remains (chained_two s b)
      chained (Left s) b = Left (chained_two s b)

      joined : (r : Var K) → arm_var (joined_var J r (low_bests M means p)) v ps ≡ chained r true
      joined (Remains s) = refl
      joined (Left s) = refl

      passed : (r : Var K) → arm_var r v ps ≡ chained r false
      passed (Remains s) = refl
      passed (Left s) = refl

      whole : (r : Var K) → chained r (eqb v p.low) ≡ arm_var r v (p ∷ ps)
      whole (Remains s) = refl
      whole (Left s) = refl

  arms_length : (ps : List (Pair K)) (vs : List (Var K)) → length (arms M means J vs ps) ≡ length vs
  arms_length [] vs = refl
  arms_length (p ∷ ps) vs = arms_length ps (with_arm M means J vs p) ∙ join_at_length J vs p.low (low_bests M means p)

  module _ (b : K) (vs : List (Var K)) (ps : List (Pair K)) (arranged : Arranged vs ps) (few : Few M (contents means b vs ps)) where
    abbrev sheet : Sheet Bool S
    sheet = contents means b vs ps

    abbrev w : ℕ → ℕ
    w = var_count M means b vs ps arranged few

    abbrev z : ℕ → ℕ → ℕ
    z = pair_count M means b vs ps arranged few

    abbrev arm_count : ℕ → ℕ
    arm_count v = w v + over numbers (length vs) (z v)

    abbrev entry : Bool → Pair K → S
    entry u p = means (low_best u p)

    row_ofs : (v : ℕ) (u : Bool) → Ofs M (row (λ p. z p.low p.high) v ps) (row (entry u) v ps)
    row_ofs v u = row_of_counts M laws (entry u) (λ p. z p.low p.high) v ps
        (All-weaker _ (λ p. Of M (z p.low p.high) (entry u p))
        (λ p at. let of = pair_of M means b vs ps arranged few p.low p.high p at in
        chosen_of M means (z p.low p.high) (at_four p.scores u false) (at_four p.scores u true) (of u false) (of u true))
        ps (all_found ps arranged.apart))

    row_sum : (v : ℕ) → joined numbers (row (λ p. z p.low p.high) v ps) ≡ over numbers (length vs) (z v)
    row_sum v =
        row_joined numbers numbers_laws (λ p. z p.low p.high) vs v ps arranged.placed arranged.apart
        ∙ over_same numbers_laws (length vs) _ (z v) (λ c. pair_weight M means b vs ps arranged few v c)

    counts_sum : over numbers (length vs) arm_count ≡ over numbers (length vs) w + over numbers (length vs) (λ a. over numbers (length vs) (z a))
    counts_sum = over_join numbers_laws (length vs) w (λ a. over numbers (length vs) (z a))

    low_best_is : (u : Bool) (o : Option (Pair K)) → of_pair M.neutral (entry u) o
        ≡ better M (two_score M (option_map (pair_scores means) o) u false) (two_score M (option_map (pair_scores means) o) u true)
    low_best_is u None = sym (better_neutral M means)
    low_best_is u (Some p) = chosen_means M means (at_four p.scores u false) (at_four p.scores u true)

    -- one variable and its pairs
    module _ (v : ℕ) (r : Two K) (there : slice_get vs v ≡ Some (Remains r)) where
      arm_room : arm_count v ≤ exact_entries
      arm_room = omega (arith, over_one (length vs) v arm_count (slice_get_within vs v (Remains r) there), counts_sum, all_entries M means b vs ps arranged few)

      arm_joined : (u : Bool) → means (run J (at_two r u) (row (low_best u) v ps)) ≡ M.join (means (at_two r u)) (joined M (row (entry u) v ps))
      arm_joined u =
          run_exact M laws means J exact (row (low_best u) v ps) (at_two r u) (w v) (omega (arith, arm_room)) (var_of M means b vs ps arranged few v r there u)
          (subst (Within M (exact_entries - w v)) (sym (map_row means (low_best u) v ps))
          (within_ofs M (row (λ p. z p.low p.high) v ps) (row (entry u) v ps) (exact_entries - w v) (row_ofs v u) (omega (arith, row_sum v, arm_room))))
          ∙ ap (λ xs. M.join (means (at_two r u)) (joined M xs)) (map_row means (low_best u) v ps)

      arm_is : (u : Bool) → means (run J (at_two r u) (row (low_best u) v ps)) ≡ arm M sheet v u
      arm_is u =
          arm_joined u
          ∙ ap₂ M.join
          (sym (ap (λ o. one_score M (var_says means o) u) there))
          (row_joined M laws (entry u) vs v ps arranged.placed arranged.apart ∙ over_same laws (length vs) _ _ (λ c. low_best_is u (found v c ps)))

      arm_of : (u : Bool) → Of M (arm_count v) (means (run J (at_two r u) (row (low_best u) v ps)))
      arm_of u =
          subst (Of M (arm_count v)) (sym (arm_joined u))
          (subst (λ n. Of M (w v + n) (M.join (means (at_two r u)) (joined M (row (entry u) v ps)))) (row_sum v)
          (of_sum M laws (w v) _ _ _ (var_of M means b vs ps arranged few v r there u) (ofs_joined M laws (row (λ p. z p.low p.high) v ps) (row (entry u) v ps) (row_ofs v u))))

    -- a variable that does not remain gives nothing
    absent_arm : (v : ℕ) → var_says means (slice_get vs v) ≡ None → (u : Bool) → arm M sheet v u ≡ M.neutral
    absent_arm v e u =
        ap₂ M.join (ap (λ o. one_score M o u) e)
        (over_same laws (length vs) _ (λ _. M.neutral) (λ c. sym (low_best_is u (found v c ps)) ∙ ap (of_pair M.neutral (entry u)) (unfound c (found v c ps) refl)) ∙ over_neutral laws (length vs))
        ∙ laws.unit M.neutral
      where
        unfound : (c : ℕ) (o : Option (Pair K)) → found v c ps ≡ o → o ≡ None
        unfound c None f = refl
        unfound c (Some p) f =
            let q = placed_found vs ps arranged.placed v c p f in
            let says : Some (var_scores means q.0) ≡ None = sym (ap (var_says means) q.1) ∙ e in
            absurd cc

    arm_best : (v : ℕ) → of_var M.neutral (λ r. means (best_of_two M means r)) (slice_get (arms M means J vs ps) v) ≡ better M (arm M sheet v false) (arm M sheet v true)
    arm_best v = go (slice_get vs v) refl
      where
        nothing : var_says means (slice_get vs v) ≡ None → M.neutral ≡ better M (arm M sheet v false) (arm M sheet v true)
        nothing e = sym (ap₂ (better M) (absent_arm v e false) (absent_arm v e true) ∙ better_neutral M means)

        go : (o : Option (Var K)) → slice_get vs v ≡ o → of_var M.neutral (λ r. means (best_of_two M means r)) (slice_get (arms M means J vs ps) v) ≡ better M (arm M sheet v false) (arm M sheet v true)
        go None e =
            ap (of_var M.neutral (λ r. means (best_of_two M means r))) (slice_get_past (arms M means J vs ps) v (omega (arith, arms_length ps vs, nth_none vs v e)))
            ∙ nothing (ap (var_says means) e)
        go (Some (Left r)) e = ap (of_var M.neutral (λ r. means (best_of_two M means r))) (arms_at ps vs v (Left r) e) ∙ nothing (ap (var_says means) e)
        go (Some (Remains r)) e =
            ap (of_var M.neutral (λ r. means (best_of_two M means r))) (arms_at ps vs v (Remains r) e)
            ∙ chosen_means M means _ _ ∙ ap₂ (better M) (arm_is v r e false) (arm_is v r e true)

    best_of : (v : ℕ) (a : Two K) → slice_get (arms M means J vs ps) v ≡ Some (Remains a) → Of M (arm_count v) (means (best_of_two M means a))
    best_of v a there = go (slice_get vs v) refl
      where
        go : (o : Option (Var K)) → slice_get vs v ≡ o → Of M (arm_count v) (means (best_of_two M means a))
        go None e =
            let none : None ≡ Some (Remains a) = sym (slice_get_past (arms M means J vs ps) v (omega (arith, arms_length ps vs, nth_none vs v e))) ∙ there in
            absurd cc
        go (Some (Left r)) e = let none : Some (Left (arm_two r v ps)) ≡ Some (Remains a) = sym (arms_at ps vs v (Left r) e) ∙ there in absurd cc
        go (Some (Remains r)) e =
            let same : Some (Remains (arm_two r v ps)) ≡ Some (Remains a) = sym (arms_at ps vs v (Remains r) e) ∙ there in
            let is : arm_two r v ps ≡ a = cc in
            subst (λ q. Of M (arm_count v) (means (best_of_two M means q))) is
            (chosen_of M means (arm_count v) _ _ (arm_of v r e false) (arm_of v r e true))

    pub star_replies : means (with_vars M means J b (arms M means J vs ps)) ≡ star_score M sheet
    star_replies =
        let A = arms M means J vs ps in
        let ks = of_vars (λ v _. arm_count v) A in
        let xs = of_vars (λ _ r. means (best_of_two M means r)) A in
        let long : length A ≡ length vs = arms_length ps vs in
        let most : joined numbers ks ≤ over numbers (length A) arm_count
        = subst (λ n. n ≤ over numbers (length A) arm_count) (sym (vars_joined numbers numbers_laws A (λ v _. arm_count v)))
        (over_least (length A) _ arm_count (λ v. of_var_most (arm_count v) (slice_get A v))) in
        let most_all : joined numbers ks ≤ over numbers (length vs) arm_count = subst (λ n. joined numbers ks ≤ over numbers n arm_count) long most in
        let room = all_entries M means b vs ps arranged few in
        ap means (with_vars_run A b)
        ∙ run_exact M laws means J exact (bests A) b few.counts.base (omega (arith, room)) few.counted.base_of
        (subst (Within M (exact_entries - few.counts.base)) (sym (bests_means A))
        (within_ofs M ks xs (exact_entries - few.counts.base) (vars_of M laws A arm_count (λ _ r. means (best_of_two M means r)) best_of) (omega (arith, most_all, counts_sum, room))))
        ∙ ap (λ t. M.join (means b) (joined M t)) (bests_means A)
        ∙ ap (M.join (means b))
        (vars_joined M laws A (λ _ r. means (best_of_two M means r))
        ∙ ap (λ n. over M n (λ v. of_var M.neutral (λ r. means (best_of_two M means r)) (slice_get A v))) long
        ∙ over_same laws (length vs) _ _ arm_best)
