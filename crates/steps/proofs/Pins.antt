-- Setting the pins in turn and working them in at once is the same. Assumes nothing.
use Rattle.std.proofs.Common.{◌≡◌, ℕ, zero, suc, ◌<◌, ◌≤◌, Bool, true, false, cond, not, ◌&&◌, ◌||◌, eqb, ltb, is_some, Some, None, Option, sym, refl, ap, ◌∙◌, ap₂, ⊎_elim, arith}
use mathlib.Core.Path.{fun_ext}
use Rattle.std.proofs.lemmas.Bool.{eqb-true, eq-eqb, lt-ltb, le-ltb, cases_lt, cases_order}
use Rattle.std.specs.Option.{option_map}
use Rattle.score.specs.Model.{Model, Laws}
use Rattle.steps.specs.Sheet.{Sheet, Sound, over, one_score, two_score, turned}
use Rattle.steps.specs.Change.{own, both, onto_scores, left_set}
use Rattle.steps.specs.Start.{free, at_pin, set_pin, pinned, pinned_at_once, start}
use Rattle.steps.proofs.Joins.{at_other, only, unit_right, swap_middle, over_same, over_join, over_join_two, over_neutral, over_only, over_two_neutral, at_that}
use Rattle.steps.proofs.Sheets.{no_pair, no_partner, both_parts}

module _ {E S V : Type 0} {M : Model E S} (laws : Laws M) where
  at_pin_join : (o : Option V) (f g : V → S) → M.join (at_pin M o f) (at_pin M o g) ≡ at_pin M o (λ u. M.join (f u) (g u))
  at_pin_join None f g = laws.unit M.neutral
  at_pin_join (Some c) f g = refl

  at_pin_neutral : (o : Option V) → at_pin M o (λ _. M.neutral) ≡ M.neutral
  at_pin_neutral None = refl
  at_pin_neutral (Some c) = refl

  -- the pair of two, the other way round
  both_turned : {s : Sheet V S} → Sound s → (y x : ℕ) (u w : V) → both M s y x u w ≡ both M s x y w u
  both_turned {s} sound y x u w =
      sym (both_parts laws sound y x u w) ∙ laws.comm _ _ ∙ both_parts laws sound x y w u

  module _ {s : Sheet V S} (sound : Sound s) (pins : ℕ → Option V) (y : ℕ) (unpinned : pins y ≡ None) (below : y < s.size) (c : V) where
    -- one pin more
    abbrev more : ℕ → Option V
    more v = cond (eqb v y) (Some c) (pins v)

    -- what the pins select, and what the new one selects
    at_more : (v : ℕ) (f : V → S) → at_pin M (more v) f ≡ M.join (at_pin M (pins v) f) (only M y (f c) v)
    at_more v f = go (eqb v y) refl
      where
        go : (b : Bool) → eqb v y ≡ b → at_pin M (cond b (Some c) (pins v)) f ≡ M.join (at_pin M (pins v) f) (cond b (f c) M.neutral)
        go true e = sym (ap (λ o. M.join (at_pin M o f) (f c)) (ap pins (eqb-true v y e) ∙ unpinned) ∙ laws.unit (f c))
        go false e = sym (unit_right laws (at_pin M (pins v) f))

    -- what the pins hand to v at the value u
    handed : ℕ → V → S
    handed v u = over M s.size (λ x. at_pin M (pins x) (both M s v x u))

    handed_more : (v : ℕ) (u : V) → over M s.size (λ x. at_pin M (more x) (both M s v x u)) ≡ M.join (handed v u) (both M s v y u c)
    unfolding handed
    handed_more v u =
        over_same laws s.size _ (λ x. M.join (at_pin M (pins x) (both M s v x u)) (only M y (both M s v y u c) x)) each
        ∙ over_join laws s.size (λ x. at_pin M (pins x) (both M s v x u)) (only M y (both M s v y u c))
        ∙ ap (M.join (handed v u)) (over_only laws s.size y (both M s v y u c) below)
      where
        each : (x : ℕ) → at_pin M (more x) (both M s v x u) ≡ M.join (at_pin M (pins x) (both M s v x u)) (only M y (both M s v y u c) x)
        each x = at_more x (both M s v x u) ∙ ap (M.join (at_pin M (pins x) (both M s v x u))) (at_that (λ x. both M s v x u c) x y M.neutral)

    own_more : over M s.size (λ v. at_pin M (more v) (own M s v))
        ≡ M.join (over M s.size (λ v. at_pin M (pins v) (own M s v))) (own M s y c)
    own_more =
        over_same laws s.size _ (λ v. M.join (at_pin M (pins v) (own M s v)) (only M y (own M s y c) v))
        (λ v. at_more v (own M s v) ∙ ap (M.join (at_pin M (pins v) (own M s v))) (at_that (λ v. own M s v c) v y M.neutral))
        ∙ over_join laws s.size (λ v. at_pin M (pins v) (own M s v)) (only M y (own M s y c))
        ∙ ap (M.join (over M s.size (λ v. at_pin M (pins v) (own M s v)))) (over_only laws s.size y (own M s y c) below)

    -- what two pins select of a pair
    abbrev two_pins : (ℕ → Option V) → ℕ → ℕ → S
    two_pins q a b = at_pin M (q a) (λ u. at_pin M (q b) (two_score M (s.two a b) u))

    -- what a pin selects of its pair with y, by which of the two is the lower
    abbrev from_lower : ℕ → S
    from_lower a = at_pin M (pins a) (λ u. two_score M (s.two a y) u c)

    abbrev from_higher : ℕ → S
    from_higher b = at_pin M (pins b) (two_score M (s.two y b) c)

    pair_more : (a b : ℕ)
        → two_pins more a b ≡ M.join (M.join (two_pins pins a b) (only M y (from_lower a) b)) (only M y (from_higher b) a)
    pair_more a b = at_more a (λ u. at_pin M (more b) (t u)) ∙ ap₂ M.join (first (pins a)) second
      where
        t : V → V → S
        t = two_score M (s.two a b)

        first : (o : Option V)
            → at_pin M o (λ u. at_pin M (more b) (t u))
            ≡ M.join (at_pin M o (λ u. at_pin M (pins b) (t u))) (only M y (at_pin M o (λ u. two_score M (s.two a y) u c)) b)
        first None = sym (ap (M.join M.neutral) (elim (eqb b y) as (λ e. cond e M.neutral M.neutral ≡ M.neutral) [ true ↦ refl | false ↦ refl ])
            ∙ laws.unit M.neutral)
        first (Some u) =
            at_more b (t u) ∙ ap (M.join (at_pin M (pins b) (t u))) (at_that (λ b. two_score M (s.two a b) u c) b y M.neutral)

        second : only M y (at_pin M (more b) (t c)) a ≡ only M y (from_higher b) a
        second = at_that (λ a. at_pin M (more b) (two_score M (s.two a b) c)) a y M.neutral
            ∙ ap (λ x. only M y x a) (at_more b (two_score M (s.two y b) c)
            ∙ ap (M.join (from_higher b)) (at_that (λ b. two_score M (s.two y b) c c) b y M.neutral
            ∙ ap (λ o. only M y (two_score M o c c) b) (no_pair sound y y (omega arith))
            ∙ (elim (eqb b y) as (λ e. cond e M.neutral M.neutral ≡ M.neutral) [ true ↦ refl | false ↦ refl ]))
            ∙ unit_right laws (from_higher b))

    two_more : over M s.size (λ a. over M s.size (two_pins more a))
        ≡ M.join (over M s.size (λ a. over M s.size (two_pins pins a))) (handed y c)
    unfolding handed
    two_more =
        let N = s.size in
        let old = λ (a b : ℕ). two_pins pins a b in
        over_same laws N _ _ (λ a. over_same laws N _ _ (pair_more a))
        ∙ over_join_two laws N (λ a b. M.join (old a b) (only M y (from_lower a) b)) (λ a b. only M y (from_higher b) a)
        ∙ ap₂ M.join (over_join_two laws N old (λ a b. only M y (from_lower a) b)
        ∙ ap (M.join (over M N (λ a. over M N (old a)))) (over_same laws N _ from_lower (λ a. over_only laws N y (from_lower a) below)))
        (over_same laws N _ (only M y (over M N from_higher)) row ∙ over_only laws N y (over M N from_higher) below)
        ∙ laws.assoc (over M N (λ a. over M N (old a))) (over M N from_lower) (over M N from_higher)
        ∙ ap (M.join (over M N (λ a. over M N (old a)))) (laws.comm _ _
        ∙ sym (over_join laws N from_higher from_lower)
        ∙ over_same laws N _ _ (λ x. at_pin_join (pins x) (two_score M (s.two y x) c) (λ u. two_score M (s.two x y) u c)
        ∙ ap (at_pin M (pins x)) (fun_ext (λ w. both_parts laws sound y x c w))))
      where
        row : (a : ℕ) → over M s.size (λ b. only M y (from_higher b) a) ≡ only M y (over M s.size from_higher) a
        row a = elim (eqb a y) as
            (λ e. over M s.size (λ b. cond e (from_higher b) M.neutral) ≡ cond e (over M s.size from_higher) M.neutral)
            [ true ↦ refl | false ↦ over_neutral laws s.size ]

    -- Setting y after the pins is to have it among them ----------------------------------------------------------------------------

    abbrev before : Sheet V S
    before = pinned_at_once M pins s

    free_y : free pins y ≡ true
    free_y = ap (λ o. not (is_some o)) unpinned

    free_more : (v : ℕ) → free more v ≡ cond (eqb v y) false (free pins v)
    free_more v = elim (eqb v y) as (λ e. not (is_some (cond e (Some c) (pins v))) ≡ cond e false (free pins v)) [ true ↦ refl | false ↦ refl ]

    own_before : own M before y c ≡ M.join (own M s y c) (handed y c)
    unfolding handed
    own_before =
        ap (λ b. one_score M (cond b (option_map (onto_scores M (handed y)) (s.one y)) None) c) free_y ∙ go (s.one y) refl
      where
        go : (o : Option (V → S)) → s.one y ≡ o → one_score M (option_map (onto_scores M (handed y)) o) c ≡ M.join (one_score M o c) (handed y c)
        go None e = sym (laws.unit _ ∙ over_same laws s.size _ (λ _. M.neutral) nothing ∙ over_neutral laws s.size)
          where
            nothing : (x : ℕ) → at_pin M (pins x) (both M s y x c) ≡ M.neutral
            nothing x = ap (at_pin M (pins x)) (fun_ext (λ w. both_turned sound y x c w ∙ ap (λ o. two_score M o w c) (no_partner sound x y e))) ∙ at_pin_neutral (pins x)
        go (Some f) e = refl

    base_more : M.join before.base (own M before y c) ≡ (pinned_at_once M more s).base
    base_more =
        let O = over M s.size (λ v. at_pin M (pins v) (own M s v)) in
        let T = over M s.size (λ a. over M s.size (two_pins pins a)) in
        ap (M.join before.base) own_before
        ∙ laws.assoc s.base (M.join O T) (M.join (own M s y c) (handed y c))
        ∙ ap (M.join s.base) (swap_middle laws O T (own M s y c) (handed y c) ∙ sym (ap₂ M.join own_more two_more))

    both_before : (v : ℕ) (u : V) → free pins v ≡ true → both M before y v c u ≡ both M s v y u c
    both_before v u h =
        ap₂ (λ p q. two_score M (cond (ltb y v) (cond (p && q) (s.two y v) None) (cond (ltb v y) (option_map turned (cond (q && p) (s.two v y) None)) None)) c u) free_y h
        ∙ both_turned sound y v c u

    one_more : (v : ℕ) → (left_set M y c before).one v ≡ (pinned_at_once M more s).one v
    unfolding handed
    one_more v = go (eqb v y) (free pins v) refl (s.one v) ∙ ap (λ b. cond b (option_map (onto_scores M after) (s.one v)) None) (sym (free_more v))
      where
        after : V → S
        after u = over M s.size (λ x. at_pin M (more x) (both M s v x u))

        go : (d f : Bool) → free pins v ≡ f → (o : Option (V → S))
            → cond d None (option_map (onto_scores M (both M before y v c)) (cond f (option_map (onto_scores M (handed v)) o) None))
            ≡ cond (cond d false f) (option_map (onto_scores M after) o) None
        go true f e o = refl
        go false false e o = refl
        go false true e None = refl
        go false true e (Some g) =
            ap Some (fun_ext (λ u. laws.assoc (g u) (handed v u) (both M before y v c u)
            ∙ ap (M.join (g u)) (ap (M.join (handed v u)) (both_before v u e) ∙ sym (handed_more v u))))

    two_left : (a b : ℕ) → (left_set M y c before).two a b ≡ (pinned_at_once M more s).two a b
    two_left a b =
        go (eqb a y) (eqb b y) (free pins a) ∙ ap₂ (λ p q. cond (p && q) (s.two a b) None) (sym (free_more a)) (sym (free_more b))
      where
        go : (d e f : Bool)
            → cond (d || e) None (cond (f && free pins b) (s.two a b) None) ≡ cond (cond d false f && cond e false (free pins b)) (s.two a b) None
        go true e f = refl
        go false true true = refl
        go false true false = refl
        go false false f = refl

    set_more : left_set M y c before ≡ pinned_at_once M more s
    set_more i = record { size = s.size; base = base_more i; one = λ v. one_more v i; two = λ a b. two_left a b i }

  -- No pins ------------------------------------------------------------------------------------------------------------------------

  no_pins_at_once : (s : Sheet V S) → s ≡ pinned_at_once M (λ _. None) s
  no_pins_at_once s i = record { size = s.size; base = sym bases i; one = λ v. sym (ones (s.one v)) i; two = s.two }
    where
      bases : (pinned_at_once M (λ _. None) s).base ≡ s.base
      bases =
          ap (M.join s.base) (ap₂ M.join (over_neutral laws s.size) (over_two_neutral laws s.size) ∙ laws.unit M.neutral)
          ∙ unit_right laws s.base

      ones : (o : Option (V → S)) → option_map (onto_scores M (λ _. over M s.size (λ _. M.neutral))) o ≡ o
      ones None = refl
      ones (Some f) = ap Some (fun_ext (λ u. ap (M.join (f u)) (over_neutral laws s.size) ∙ unit_right laws (f u)))

  -- Pin by pin ---------------------------------------------------------------------------------------------------------------------

  module _ (pins : ℕ → Option V) {s : Sheet V S} (sound : Sound s) where
    -- the pins below k
    abbrev first : ℕ → ℕ → Option V
    first k v = cond (ltb v k) (pins v) None

    first_past : (k v : ℕ) → k ≤ v → first k v ≡ None
    first_past k v h = ap (λ b. cond b (pins v) None) (le-ltb v k h)

    first_below : (k v : ℕ) → v < k → first k v ≡ pins v
    first_below k v h = ap (λ b. cond b (pins v) None) (lt-ltb v k h)

    -- one more, which is pinned or not
    first_free : (k : ℕ) → pins k ≡ None → first k ≡ first (suc k)
    first_free k e = fun_ext (λ v. ⊎_elim (same v) (⊎_elim (lower v) (higher v)) (cases_order v k))
      where
        same : (v : ℕ) → v ≡ k → first k v ≡ first (suc k) v
        same v d = first_past k v (omega arith) ∙ sym (first_below (suc k) v (omega arith) ∙ ap pins d ∙ e)

        lower : (v : ℕ) → v < k → first k v ≡ first (suc k) v
        lower v h = first_below k v h ∙ sym (first_below (suc k) v (omega arith))

        higher : (v : ℕ) → k < v → first k v ≡ first (suc k) v
        higher v h = first_past k v (omega arith) ∙ sym (first_past (suc k) v h)

    first_pinned : (k : ℕ) (c : V) → pins k ≡ Some c → (λ v. cond (eqb v k) (Some c) (first k v)) ≡ first (suc k)
    first_pinned k c e = fun_ext (λ v. ⊎_elim (same v) (⊎_elim (lower v) (higher v)) (cases_order v k))
      where
        same : (v : ℕ) → v ≡ k → cond (eqb v k) (Some c) (first k v) ≡ first (suc k) v
        same v d = ap (λ b. cond b (Some c) (first k v)) (eq-eqb v k d) ∙ sym (first_below (suc k) v (omega arith) ∙ ap pins d ∙ e)

        lower : (v : ℕ) → v < k → cond (eqb v k) (Some c) (first k v) ≡ first (suc k) v
        lower v h = at_other v k (Some c) (first k v) (omega arith) ∙ first_below k v h ∙ sym (first_below (suc k) v (omega arith))

        higher : (v : ℕ) → k < v → cond (eqb v k) (Some c) (first k v) ≡ first (suc k) v
        higher v h = at_other v k (Some c) (first k v) (omega arith) ∙ first_past k v (omega arith) ∙ sym (first_past (suc k) v h)

    in_turn : (k : ℕ) → k ≤ s.size → pinned M pins k s ≡ pinned_at_once M (first k) s
    in_turn zero h = no_pins_at_once s ∙ ap (λ q. pinned_at_once M q s) (fun_ext (λ v. sym (first_past zero v (omega arith))))
    in_turn (suc k) h = step (pins k) refl (in_turn k (omega arith))
      where
        step : (o : Option V) → pins k ≡ o → pinned M pins k s ≡ pinned_at_once M (first k) s
            → set_pin M k o (pinned M pins k s) ≡ pinned_at_once M (first (suc k)) s
        step None e ih = ih ∙ ap (λ q. pinned_at_once M q s) (first_free k e)
        step (Some c) e ih =
            ap (left_set M k c) ih ∙ set_more sound (first k) k (first_past k k (omega arith)) h c
            ∙ ap (λ q. pinned_at_once M q s) (first_pinned k c e)

    pub at_once : ((v : ℕ) → s.size ≤ v → pins v ≡ None) → start M pins s ≡ pinned_at_once M pins s
    at_once none =
        in_turn s.size (omega arith)
        ∙ ap (λ q. pinned_at_once M q s) (fun_ext (λ v. ⊎_elim (first_below s.size v) (λ h. first_past s.size v h ∙ sym (none v h)) (cases_lt v s.size)))
