-- Setting the pins in turn gives the sheet of the board with its pins. Assumes nothing.
use Rattle.std.proofs.Common.{◌≡◌, ℕ, zero, suc, ◌+◌, ◌-◌, ◌*◌, ◌^◌, ◌<◌, ◌≤◌, Bool, true, false, cond, not, ◌&&◌, ◌||◌, eqb, ltb, leb, ◌⊎◌, length, is_some, Some, None, Option, unwrap_or, sym, refl, ap, ◌∙◌, subst, ap₂, inl, inr, ⊎_elim, arith}
use mathlib.Core.Path.{fun_ext}
use Rattle.std.proofs.lemmas.Bool.{both_ways, lt-ltb, le-ltb, ltb-true, eq-eqb, cases_order, cases_lt}
use Rattle.score.specs.Model.{Model, Laws}
use Rattle.steps.specs.Sheet.{Sheet, Sound, remains, over, value, one_score, two_score, put, partners, busy, count}
use Rattle.steps.specs.Change.{Values, without}
use Rattle.steps.specs.Steps.{read, Held, holding, whole, Explored}
use Rattle.steps.specs.Start.{unpinned, free, set_pin, note_pin, pinned, pin_notes, start, start_notes, with_pins, Keeps, board_busy}
use Rattle.steps.specs.Claims.{Admissible, Topped, Greatest, Starts, Solved}
use Rattle.steps.proofs.Joins.{at_other, over_same_below}
use Rattle.steps.proofs.Counting.{count_same, count_zero}
use Rattle.steps.proofs.Sheets.{value_set}
use Rattle.steps.proofs.Removals.{set_sound}
use Rattle.steps.proofs.Explorations.{explored_greatest}
use Rattle.steps.proofs.Splits.{partners_lower, partners_higher, partners_self, splits_bounded}

-- Layouts --------------------------------------------------------------------------------------------------------------------------

module _ {V : Type 0} (pins : ℕ → Option V) where
  below_is : (n v : ℕ) (l : ℕ → V) → v < n → with_pins pins n l v ≡ unwrap_or (pins v) (l v)
  below_is n v l h = ap (λ b. cond b (unwrap_or (pins v) (l v)) (l v)) (lt-ltb v n h)

  past_is : (n v : ℕ) (l : ℕ → V) → n ≤ v → with_pins pins n l v ≡ l v
  past_is n v l h = ap (λ b. cond b (unwrap_or (pins v) (l v)) (l v)) (le-ltb v n h)

  -- one place more, without a pin and with one
  more_free : (k : ℕ) (l : ℕ → V) → pins k ≡ None → with_pins pins k l ≡ with_pins pins (suc k) l
  more_free k l e = fun_ext (λ v. ⊎_elim (same v) (⊎_elim (lower v) (higher v)) (cases_order v k))
    where
      lower : (v : ℕ) → v < k → with_pins pins k l v ≡ with_pins pins (suc k) l v
      lower v h = below_is k v l h ∙ sym (below_is (suc k) v l (omega arith))

      same : (v : ℕ) → v ≡ k → with_pins pins k l v ≡ with_pins pins (suc k) l v
      same v d =
          past_is k v l (omega arith)
          ∙ sym (below_is (suc k) v l (omega arith) ∙ ap (λ o. unwrap_or o (l v)) (ap pins d ∙ e))

      higher : (v : ℕ) → k < v → with_pins pins k l v ≡ with_pins pins (suc k) l v
      higher v h = past_is k v l (omega arith) ∙ sym (past_is (suc k) v l h)

  more_pinned : (k : ℕ) (c : V) (l : ℕ → V) → pins k ≡ Some c → with_pins pins k (put l k c) ≡ with_pins pins (suc k) l
  more_pinned k c l e = fun_ext (λ v. ⊎_elim (same v) (⊎_elim (lower v) (higher v)) (cases_order v k))
    where
      lower : (v : ℕ) → v < k → with_pins pins k (put l k c) v ≡ with_pins pins (suc k) l v
      lower v h =
          below_is k v (put l k c) h ∙ ap (unwrap_or (pins v)) (at_other v k c (l v) (omega arith))
          ∙ sym (below_is (suc k) v l (omega arith))

      same : (v : ℕ) → v ≡ k → with_pins pins k (put l k c) v ≡ with_pins pins (suc k) l v
      same v d =
          past_is k v (put l k c) (omega arith) ∙ ap (λ b. cond b c (l v)) (eq-eqb v k d)
          ∙ sym (below_is (suc k) v l (omega arith) ∙ ap (λ o. unwrap_or o (l v)) (ap pins d ∙ e))

      higher : (v : ℕ) → k < v → with_pins pins k (put l k c) v ≡ with_pins pins (suc k) l v
      higher v h =
          past_is k v (put l k c) (omega arith) ∙ at_other v k c (l v) (omega arith) ∙ sym (past_is (suc k) v l h)

  no_pins : (l : ℕ → V) → l ≡ with_pins pins zero l
  no_pins l = fun_ext (λ v. sym (past_is zero v l (omega arith)))

  pub notes_read : (k : ℕ) (l : ℕ → V) → read (pin_notes pins k) l ≡ with_pins pins k l
  notes_read zero l = no_pins l
  notes_read (suc k) l = step (pins k) refl (λ l. notes_read k l)
    where
      step : (o : Option V) → pins k ≡ o → ((l : ℕ → V) → read (pin_notes pins k) l ≡ with_pins pins k l)
          → read (note_pin k o (pin_notes pins k)) l ≡ with_pins pins (suc k) l
      step None e ih = ih l ∙ more_free k l e
      step (Some c) e ih = ih (put l k c) ∙ more_pinned k c l e

  -- a layout that keeps the pins is itself with the pins put in
  kept_pins : (n : ℕ) (l : ℕ → V) → Keeps pins n l → with_pins pins n l ≡ l
  kept_pins n l keeps = fun_ext (λ v. ⊎_elim (inside v) (past_is n v l) (cases_lt v n))
    where
      inside : (v : ℕ) → v < n → with_pins pins n l v ≡ l v
      inside v h = below_is n v l h ∙ go (pins v) refl
        where
          go : (o : Option V) → pins v ≡ o → unwrap_or o (l v) ≡ l v
          go None e = refl
          go (Some c) e = sym (keeps v c h e)

  pins_kept : (n : ℕ) (l : ℕ → V) → Keeps pins n (with_pins pins n l)
  pins_kept n l v c h e = below_is n v l h ∙ ap (λ o. unwrap_or o (l v)) e

-- The sheet ------------------------------------------------------------------------------------------------------------------------

module _ {E S V : Type 0} (M : Model E S) (pins : ℕ → Option V) (s : Sheet V S) where
  pub pinned_size : (k : ℕ) → (pinned M pins k s).size ≡ s.size
  pinned_size zero = refl
  pinned_size (suc k) = step (pins k) (pinned_size k)
    where
      step : (o : Option V) → (pinned M pins k s).size ≡ s.size → (set_pin M k o (pinned M pins k s)).size ≡ s.size
      step None ih = ih
      step (Some c) ih = ih

  pub pinned_sound : Sound s → (k : ℕ) → Sound (pinned M pins k s)
  pinned_sound sound zero = sound
  pinned_sound sound (suc k) = step (pins k) (pinned_sound sound k)
    where
      step : (o : Option V) → Sound (pinned M pins k s) → Sound (set_pin M k o (pinned M pins k s))
      step None ih = ih
      step (Some c) ih = set_sound M ih k c

module _ {E S V : Type 0} {M : Model E S} (laws : Laws M) (pins : ℕ → Option V) {s : Sheet V S} (sound : Sound s) where
  pub pinned_value : (k : ℕ) → k ≤ s.size → (l : ℕ → V) → value M (pinned M pins k s) l ≡ value M s (with_pins pins k l)
  pinned_value zero h l = ap (value M s) (no_pins pins l)
  pinned_value (suc k) h l = step (pins k) refl (λ l. pinned_value k (omega arith) l)
    where
      step : (o : Option V) → pins k ≡ o → ((l : ℕ → V) → value M (pinned M pins k s) l ≡ value M s (with_pins pins k l))
          → value M (set_pin M k o (pinned M pins k s)) l ≡ value M s (with_pins pins (suc k) l)
      step None e ih = ih l ∙ ap (value M s) (more_free pins k l e)
      step (Some c) e ih =
          value_set laws (pinned_sound M pins s sound k) k (subst (λ n. k < n) (sym (pinned_size M pins s k)) h) c l ∙ ih (put l k c)
          ∙ ap (value M s) (more_pinned pins k c l e)

-- Partners left --------------------------------------------------------------------------------------------------------------------

module _ {V : Type 0} (pins : ℕ → Option V) where
  -- not among the pinned below k
  abbrev opened : ℕ → ℕ → Bool
  opened k v = not (ltb v k && is_some (pins v))

  opened_below : (k v : ℕ) → v < k → opened k v ≡ free pins v
  opened_below k v h = ap (λ b. not (b && is_some (pins v))) (lt-ltb v k h)

  opened_past : (k v : ℕ) → k ≤ v → opened k v ≡ true
  opened_past k v h = ap (λ b. not (b && is_some (pins v))) (le-ltb v k h)

  opened_free : (k v : ℕ) → pins k ≡ None → opened k v ≡ opened (suc k) v
  opened_free k v e = ⊎_elim same (⊎_elim lower higher) (cases_order v k)
    where
      lower : v < k → opened k v ≡ opened (suc k) v
      lower h = opened_below k v h ∙ sym (opened_below (suc k) v (omega arith))

      same : v ≡ k → opened k v ≡ opened (suc k) v
      same d =
          opened_past k v (omega arith)
          ∙ sym (opened_below (suc k) v (omega arith) ∙ ap (λ o. not (is_some o)) (ap pins d ∙ e))

      higher : k < v → opened k v ≡ opened (suc k) v
      higher h = opened_past k v (omega arith) ∙ sym (opened_past (suc k) v h)

  opened_pinned : (k v : ℕ) (c : V) → pins k ≡ Some c → cond (eqb v k) false (opened k v) ≡ opened (suc k) v
  opened_pinned k v c e = ⊎_elim same (⊎_elim lower higher) (cases_order v k)
    where
      lower : v < k → cond (eqb v k) false (opened k v) ≡ opened (suc k) v
      lower h = at_other v k false (opened k v) (omega arith) ∙ opened_below k v h ∙ sym (opened_below (suc k) v (omega arith))

      same : v ≡ k → cond (eqb v k) false (opened k v) ≡ opened (suc k) v
      same d =
          ap (λ b. cond b false (opened k v)) (eq-eqb v k d)
          ∙ sym (opened_below (suc k) v (omega arith) ∙ ap (λ o. not (is_some o)) (ap pins d ∙ e))

      higher : k < v → cond (eqb v k) false (opened k v) ≡ opened (suc k) v
      higher h = at_other v k false (opened k v) (omega arith) ∙ opened_past k v (omega arith) ∙ sym (opened_past (suc k) v h)

some_left : {A : Type 0} (b : Bool) (o : Option A) → is_some (cond b None o) ≡ cond b false (is_some o)
some_left true o = refl
some_left false o = refl

none_left : (b : Bool) → cond b false false ≡ false
none_left true = refl
none_left false = refl

or_turned : (d e : Bool) → (d || e) ≡ (e || d)
or_turned true true = refl
or_turned true false = refl
or_turned false true = refl
or_turned false false = refl

pub partners_without : {V S : Type 0} (s : Sheet V S) (y a b : ℕ)
    → partners (without y s) a b ≡ cond (eqb a y || eqb b y) false (partners s a b)
partners_without s y a b = ⊎_elim same (⊎_elim lower higher) (cases_order a b)
  where
    Goal : Type 0
    Goal = partners (without y s) a b ≡ cond (eqb a y || eqb b y) false (partners s a b)

    same : a ≡ b → Goal
    same e =
        partners_self (without y s) a b e
        ∙ sym (ap (cond (eqb a y || eqb b y) false) (partners_self s a b e) ∙ none_left (eqb a y || eqb b y))

    lower : a < b → Goal
    lower h =
        partners_lower (without y s) a b h ∙ some_left (eqb a y || eqb b y) (s.two a b)
        ∙ ap (cond (eqb a y || eqb b y) false) (sym (partners_lower s a b h))

    higher : b < a → Goal
    higher h =
        partners_higher (without y s) a b h ∙ some_left (eqb b y || eqb a y) (s.two b a)
        ∙ ap₂ (λ c p. cond c false p) (or_turned (eqb b y) (eqb a y)) (sym (partners_higher s a b h))

module _ {E S V : Type 0} (M : Model E S) (pins : ℕ → Option V) (s : Sheet V S) where
  pub partners_pinned : (k a b : ℕ)
      → partners (pinned M pins k s) a b ≡ (opened pins k a && (opened pins k b && partners s a b))
  partners_pinned zero a b =
      sym (ap₂ (λ x y. x && (y && partners s a b)) (opened_past pins 0 a (omega arith)) (opened_past pins 0 b (omega arith)))
  partners_pinned (suc k) a b = step (pins k) refl (partners_pinned k a b)
    where
      p : Bool
      p = partners s a b

      both_kept : (d e x y : Bool) → cond (d || e) false (x && (y && p)) ≡ (cond d false x && (cond e false y && p))
      both_kept true e x y = refl
      both_kept false true true y = refl
      both_kept false true false y = refl
      both_kept false false x y = refl

      step : (o : Option V) → pins k ≡ o
          → partners (pinned M pins k s) a b ≡ (opened pins k a && (opened pins k b && p))
          → partners (set_pin M k o (pinned M pins k s)) a b ≡ (opened pins (suc k) a && (opened pins (suc k) b && p))
      step None e ih = ih ∙ ap₂ (λ x y. x && (y && p)) (opened_free pins k a e) (opened_free pins k b e)
      step (Some c) e ih =
          partners_without (pinned M pins k s) k a b ∙ ap (cond (eqb a k || eqb b k) false) ih
          ∙ both_kept (eqb a k) (eqb b k) (opened pins k a) (opened pins k b)
          ∙ ap₂ (λ x y. x && (y && p)) (opened_pinned pins k a c e) (opened_pinned pins k b c e)

module _ {E S V : Type 0} {M : Model E S} (laws : Laws M) (pins : ℕ → Option V) {s : Sheet V S} (sound : Sound s) where
  partners_start : (v x : ℕ) → v < s.size → x < s.size
      → partners (start M pins s) v x ≡ (free pins v && (free pins x && partners s v x))
  partners_start v x h k =
      partners_pinned M pins s s.size v x
      ∙ ap₂ (λ a b. a && (b && partners s v x)) (opened_below pins s.size v h) (opened_below pins s.size x k)

  busy_start : busy (start M pins s) ≡ board_busy pins s
  busy_start =
      ap (λ n. count n (λ v. leb 3 (count n (partners (start M pins s) v)))) (pinned_size M pins s s.size)
      ∙ count_same s.size _ _ each
    where
      n : ℕ
      n = s.size

      Alike : Bool → ℕ → Type 0
      Alike f v =
          leb 3 (count n (λ x. f && (free pins x && partners s v x))) ≡ (f && leb 3 (count n (λ x. free pins x && partners s v x)))

      cases : (f : Bool) (v : ℕ) → Alike f v
      cases true v = refl
      cases false v = ap (leb 3) (count_zero n (λ _. false) (λ _ _. refl))

      each : (v : ℕ) → v < n
          → leb 3 (count n (partners (start M pins s) v)) ≡ (free pins v && leb 3 (count n (λ x. free pins x && partners s v x)))
      each v h = ap (leb 3) (count_same n _ _ (λ x k. partners_start v x h k)) ∙ cases (free pins v) v

  pub starts : Starts M pins s
  starts = record {
    sound = pinned_sound M pins s sound s.size;
    value_is = pinned_value laws pins sound s.size (omega arith);
    reads = notes_read pins s.size;
    busy_is = busy_start;
  }

-- A solve --------------------------------------------------------------------------------------------------------------------------

same_held : {A : Type 0} {o : Option A} {x y : A} → o ≡ Some x → o ≡ Some y → x ≡ y
same_held p q = cc

module _ {E S V : Type 0} {M : Model E S} (laws : Laws M) (vs : Values V) (rule : Sheet V S → Option S) (law : Admissible M V rule) (pins : ℕ → Option V) {s : Sheet V S} (sound : Sound s) where
  pub solved : {new : Option (Held V S)} {k : ℕ}
      → Explored M vs rule (whole (start M pins s)) (start_notes pins s) None new k → Solved M pins s new
  solved {new} e = found all.attained
    where
      n : ℕ
      n = s.size

      from : Starts M pins s
      from = starts laws pins sound

      all : Greatest M (start M pins s) (start_notes pins s) None new
      all = explored_greatest laws vs rule law from.sound e

      -- a layout that keeps the pins is topped
      topped : (l : ℕ → V) → Keeps pins n l → Topped M new (value M s l)
      topped l keeps =
          subst (Topped M new) (from.value_is l ∙ ap (value M s) (kept_pins pins n l keeps)) (all.above_all l)

      found : (new ≡ None) ⊎ ((l : ℕ → V) × (new ≡ Some (holding (value M (start M pins s) l) (read (start_notes pins s) l))))
          → Solved M pins s new
      found (inl none) =
          let top = all.above_all vs.preferred in
          absurd (both_ways (is_some new) (ap is_some none) (ap is_some top.is_held))
      found (inr (l, is)) =
          let best = holding (value M (start M pins s) l) (read (start_notes pins s) l) in
          record {
            best = best;
            is_held = is;
            keeps = subst (Keeps pins n) (sym (from.reads l)) (pins_kept pins n l);
            scores = ap (value M s) (from.reads l) ∙ sym (from.value_is l);
            greatest = λ l' keeps.
                let top = topped l' keeps in
                subst (λ h. M.at_most (value M s l') h.score ≡ true) (same_held top.is_held is) top.above;
          }

  pub solve_splits : {new : Option (Held V S)} {k : ℕ}
      → Explored M vs rule (whole (start M pins s)) (start_notes pins s) None new k
      → k * (length vs.each - 1) + 1 ≤ length vs.each ^ board_busy pins s
  solve_splits {k = k} e =
      let from = starts laws pins sound in
      subst (λ b. k * (length vs.each - 1) + 1 ≤ length vs.each ^ b) from.busy_is (splits_bounded M vs rule from.sound e)

-- A board without pins -------------------------------------------------------------------------------------------------------------

module _ {E S V : Type 0} (M : Model E S) (n : ℕ) (one : ℕ → V → S) (two : ℕ → ℕ → Option (V → V → S))
    (fits : (a b : ℕ) → is_some (two a b) ≡ true → (a < b) × (b < n)) where
  all_remain : (v : ℕ) → v < n → remains (unpinned M n one two) v ≡ true
  all_remain v h = ap (λ b. is_some (cond b (Some (one v)) None)) (lt-ltb v n h)

  pub unpinned_sound : Sound (unpinned M n one two)
  unpinned_sound = record {
    below = λ v h. below v (ltb v n) refl h;
    lower_first = λ a b h. (fits a b h).0;
    left = λ a b h. let f = fits a b h in all_remain a (omega (arith, f.0, f.1));
    right = λ a b h. all_remain b (fits a b h).1;
  }
    where
      below : (v : ℕ) (b : Bool) → ltb v n ≡ b → is_some (cond b (Some (one v)) None) ≡ true → v < n
      below v true e h = ltb-true v n e
      below v false e h = absurd (both_ways false refl h)

  pub unpinned_value : Laws M → (l : ℕ → V)
      → value M (unpinned M n one two) l
      ≡ M.join (over M n (λ v. one v (l v))) (over M n (λ a. over M n (λ b. two_score M (two a b) (l a) (l b))))
  unpinned_value laws l =
      laws.unit _
      ∙ ap (λ o. M.join o (over M n (λ a. over M n (λ b. two_score M (two a b) (l a) (l b)))))
      (over_same_below laws n _ _ (λ v h. ap (λ b. one_score M (cond b (Some (one v)) None) (l v)) (lt-ltb v n h)))
