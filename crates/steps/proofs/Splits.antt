-- No removal gives a variable more partners, and so the splits are few. Assumes nothing.
use Rattle.std.proofs.Common.{◌≡◌, ℕ, suc, ◌+◌, ◌-◌, ◌*◌, ◌^◌, ◌<◌, ◌≤◌, Bool, true, false, cond, ◌&&◌, ◌||◌, eqb, leb, ◌⊎◌, List, [], ◌∷◌, length, is_some, Some, None, Option, sym, refl, ap, ◌∙◌, subst, inl, inr, ⊎_elim, arith}
use native.Mathlib.Nat.{pow-succ', pow-le-pow_right, one-le-pow}
use Rattle.std.proofs.lemmas.Bool.{both_ways, eqb-true, eqb-false, cases_order, leb-true, le-leb}
use Rattle.score.specs.Model.{Model}
use Rattle.steps.specs.Sheet.{Sheet, Sound, remains, partners, turned, degree, busy, count}
use Rattle.steps.specs.Change.{Values, Among, without, onto_two, onto_pair, left_alone, left_one, left_two, left_set}
use Rattle.steps.specs.Steps.{Note, Removal, leaves_alone, leaves_by_one, leaves_by_two, Held, Task, whole, sides, Explored, leaf, removal, drop, split, finished, side}
use Rattle.steps.proofs.Counting.{but, but_parts, mark, count_but, count_one, count_zero, count_below}
use Rattle.steps.proofs.Joins.{at_other}
use Rattle.steps.proofs.Sheets.{pair_lower, pair_higher, pair_self, some_mapped}
use Rattle.steps.proofs.Removals.{partner_below, without_sound, removal_sound, set_sound}
use Rattle.steps.proofs.Explorations.{Fit}

-- Partners by the records ----------------------------------------------------------------------------------------------------------

module _ {V S : Type 0} (s : Sheet V S) where
  -- two are partners by the record of the lower and the higher
  pub partners_lower : (a b : ℕ) → a < b → partners s a b ≡ is_some (s.two a b)
  partners_lower a b h = ap is_some (pair_lower s a b h)

  pub partners_higher : (a b : ℕ) → b < a → partners s a b ≡ is_some (s.two b a)
  partners_higher a b h = ap is_some (pair_higher s a b h) ∙ some_mapped turned (s.two b a)

  pub partners_self : (a b : ℕ) → a ≡ b → partners s a b ≡ false
  partners_self a b e = ap is_some (pair_self s a b e)

  pub partners_turned : (a b : ℕ) → partners s a b ≡ partners s b a
  partners_turned a b =
      ⊎_elim (λ e. partners_self a b e ∙ sym (partners_self b a (sym e)))
      (⊎_elim (λ h. partners_lower a b h ∙ sym (partners_higher b a h)) (λ h. partners_higher a b h ∙ sym (partners_lower b a h)))
      (cases_order a b)

-- if each record of s' is told by P of its two ends, in either order, so is each two partners
module _ {V S : Type 0} (s' : Sheet V S) (P : ℕ → ℕ → Type 0) where
  pub partners_told : ((a b : ℕ) → is_some (s'.two a b) ≡ true → P a b × P b a)
      → (a b : ℕ) → partners s' a b ≡ true → P a b
  partners_told told a b h =
      ⊎_elim (λ e. absurd (both_ways (partners s' a b) (partners_self s' a b e) h))
      (⊎_elim (λ k. (told a b (sym (partners_lower s' a b k) ∙ h)).0) (λ k. (told b a (sym (partners_higher s' a b k) ∙ h)).1))
      (cases_order a b)

module _ {V S : Type 0} (s : Sheet V S) (sound : Sound s) where
  -- a record is a pair of partners
  pub record_partners : (a b : ℕ) → is_some (s.two a b) ≡ true → (partners s a b ≡ true) × (partners s b a ≡ true)
  record_partners a b h =
      let first : partners s a b ≡ true = partners_lower s a b (sound.lower_first a b h) ∙ h in
      (first, partners_turned s b a ∙ first)

  pub without_partners : (y a b : ℕ) → partners (without y s) a b ≡ true
      → (partners s a b ≡ true) × (a ≡ y → ⊥) × (b ≡ y → ⊥)
  without_partners y =
      partners_told (without y s) (λ a b. (partners s a b ≡ true) × (a ≡ y → ⊥) × (b ≡ y → ⊥)) told
    where
      told : (a b : ℕ) → is_some ((without y s).two a b) ≡ true
          → ((partners s a b ≡ true) × (a ≡ y → ⊥) × (b ≡ y → ⊥)) × ((partners s b a ≡ true) × (b ≡ y → ⊥) × (a ≡ y → ⊥))
      told a b h = go (eqb a y) (eqb b y) refl refl h
        where
          go : (d e : Bool) → eqb a y ≡ d → eqb b y ≡ e → is_some (cond (d || e) None (s.two a b)) ≡ true
              → ((partners s a b ≡ true) × (a ≡ y → ⊥) × (b ≡ y → ⊥)) × ((partners s b a ≡ true) × (b ≡ y → ⊥) × (a ≡ y → ⊥))
          go true e p q k = absurd (both_ways false refl k)
          go false true p q k = absurd (both_ways false refl k)
          go false false p q k =
              let r = record_partners a b k in
              ((r.0, eqb-false a y p, eqb-false b y q), (r.1, eqb-false b y q, eqb-false a y p))

  pub without_degree : (y v : ℕ) → degree (without y s) v ≤ degree s v
  without_degree y v = count_below s.size _ _ (λ b _ h. (without_partners y v b h).0)

  -- a partner of y loses one
  pub without_degree_partner : (y v : ℕ) → partners s v y ≡ true → degree (without y s) v < degree s v
  without_degree_partner y v h =
      let parts = count_one s.size y (partners s v) (partner_below sound v y h) h in
      let less = count_below s.size (partners (without y s) v) (but y (partners s v))
      (λ b _ k. let kept = without_partners y v b k in at_other b y false (partners s v b) kept.2 ∙ kept.0) in
      omega (arith, parts, less)

  pub without_degree_self : (y : ℕ) → degree (without y s) y ≡ 0
  without_degree_self y = count_zero s.size _ (λ b _. go b (partners (without y s) y b) refl)
    where
      go : (b : ℕ) (e : Bool) → partners (without y s) y b ≡ e → e ≡ false
      go b true e = absurd ((without_partners y y b e).1 refl)
      go b false e = refl

-- at most one more passes
count_more : (n z : ℕ) (p q : ℕ → Bool) → z < n → ((b : ℕ) → p b ≡ true → (b ≡ z → ⊥) → q b ≡ true) → count n p ≤ count n q + 1
count_more n z p q h k =
    let parts = count_but n z p h in
    let last : mark (p z) ≤ 1 = elim (p z) as (λ b. mark b ≤ 1) [ true ↦ omega arith | false ↦ omega arith ] in
    let less = count_below n (but z p) q (λ b _ e. let kept = but_parts p z b e in k b kept.1 kept.0) in
    omega (arith, parts, last, less)

-- a pair more
module _ {E S V : Type 0} (M : Model E S) (s : Sheet V S) (sound : Sound s) (x z : ℕ) (g : V → V → S) where
  -- who are partners only since then
  New : ℕ → ℕ → Type 0
  New a b = (partners s a b ≡ true) ⊎ (((a ≡ x) × (b ≡ z)) ⊎ ((a ≡ z) × (b ≡ x)))

  onto_two_partners : (a b : ℕ) → partners (onto_two M x z g s) a b ≡ true → New a b
  unfolding New
  onto_two_partners = partners_told (onto_two M x z g s) New told
    where
      told : (a b : ℕ) → is_some ((onto_two M x z g s).two a b) ≡ true → New a b × New b a
      told a b h = go (eqb a x) (eqb b z) refl refl h
        where
          go : (d e : Bool) → eqb a x ≡ d → eqb b z ≡ e
              → is_some (cond (d && e) (Some (onto_pair M g (s.two x z))) (s.two a b)) ≡ true → New a b × New b a
          go true true p q k = (inr (inl (eqb-true a x p, eqb-true b z q)), inr (inr (eqb-true b z q, eqb-true a x p)))
          go true false p q k = let r = record_partners s sound a b k in (inl r.0, inl r.1)
          go false e p q k = let r = record_partners s sound a b k in (inl r.0, inl r.1)

  -- x and z may have one partner more, and nobody else has
  onto_two_degree : x < z → x < s.size → z < s.size → (v : ℕ)
      → degree (onto_two M x z g s) v ≤ degree s v + mark (eqb v x) + mark (eqb v z)
  unfolding New
  onto_two_degree o p q v = go (eqb v x) (eqb v z) refl refl
    where
      n : ℕ
      n = s.size

      now : ℕ → Bool
      now = partners (onto_two M x z g s) v

      go : (d e : Bool) → eqb v x ≡ d → eqb v z ≡ e → count n now ≤ degree s v + mark d + mark e
      go true e d r =
          omega (
            arith,
            count_more n z now (partners s v) q
                (λ b h ne. ⊎_elim (λ k. k) (⊎_elim (λ k. absurd (ne k.1)) (λ k. absurd (omega (arith, eqb-true v x d, k.0))))
                (onto_two_partners v b h)),
          )
      go false true d r =
          omega (
            arith,
            count_more n x now (partners s v) p
                (λ b h ne. ⊎_elim (λ k. k) (⊎_elim (λ k. absurd (eqb-false v x d k.0)) (λ k. absurd (ne k.1)))
                (onto_two_partners v b h)),
          )
      go false false d r =
          omega (
            arith,
            count_below n now (partners s v)
                (λ b _ h. ⊎_elim (λ k. k) (⊎_elim (λ k. absurd (eqb-false v x d k.0)) (λ k. absurd (eqb-false v z r k.0)))
                (onto_two_partners v b h)),
          )

-- Busy variables -------------------------------------------------------------------------------------------------------------------

busy_below : (n : ℕ) (d e : ℕ → ℕ) → ((v : ℕ) → d v ≤ e v) → count n (λ v. leb 3 (d v)) ≤ count n (λ v. leb 3 (e v))
busy_below n d e h =
    count_below n (λ v. leb 3 (d v)) (λ v. leb 3 (e v)) (λ v _ k. le-leb 3 (e v) (omega (arith, h v, leb-true 3 (d v) k)))

module _ {E S V : Type 0} (M : Model E S) (vs : Values V) {s : Sheet V S} (sound : Sound s) where
  -- nobody gets more partners
  pub removal_degree : {m : Note V} {s' : Sheet V S} → Removal M vs s m s' → (v : ℕ) → degree s' v ≤ degree s v
  removal_degree (leaves_alone y h) v = without_degree s sound y v
  removal_degree (leaves_by_one y x h p) v = without_degree s sound y v
  removal_degree (leaves_by_two y x z h p q o) v =
      go (eqb v x) (eqb v z) refl refl
      (onto_two_degree M (without y s) (without_sound sound y) x z _ o (partner_below sound y x p) (partner_below sound y z q) v)
    where
      -- a partner of y has one fewer without y
      loses : (w : ℕ) → partners s y w ≡ true → v ≡ w → degree (without y s) v < degree s v
      loses w k e = without_degree_partner s sound y v (partners_turned s v y ∙ ap (partners s y) e ∙ k)

      go : (d e : Bool) → eqb v x ≡ d → eqb v z ≡ e → {n : ℕ} → n ≤ degree (without y s) v + mark d + mark e → n ≤ degree s v
      go true true d e k = absurd (omega (arith, eqb-true v x d, eqb-true v z e))
      go true false d e k = omega (arith, loses x p (eqb-true v x d))
      go false true d e k = omega (arith, loses z q (eqb-true v z e))
      go false false d e k = omega (arith, without_degree s sound y v)

  pub removal_busy : {m : Note V} {s' : Sheet V S} → Removal M vs s m s' → busy s' ≤ busy s
  removal_busy (leaves_alone y h) =
      busy_below s.size (degree (left_alone M vs y s)) (degree s) (removal_degree (leaves_alone y h))
  removal_busy (leaves_by_one y x h p) =
      busy_below s.size (degree (left_one M vs y x s)) (degree s) (removal_degree (leaves_by_one y x h p))
  removal_busy (leaves_by_two y x z h p q o) =
      busy_below s.size (degree (left_two M vs y x z s)) (degree s) (removal_degree (leaves_by_two y x z h p q o))

  pub set_busy : (y : ℕ) (c : V) → remains s y ≡ true → 3 ≤ degree s y → busy (left_set M y c s) < busy s
  set_busy y c there many =
      let parts = count_one s.size y (λ v. leb 3 (degree s v)) (sound.below y there) (le-leb 3 (degree s y) many) in
      let less = count_below s.size (λ v. leb 3 (degree (without y s) v)) (but y (λ v. leb 3 (degree s v))) others in
      omega (arith, parts, less)
    where
      others : (v : ℕ) → v < s.size → leb 3 (degree (without y s) v) ≡ true → but y (λ v. leb 3 (degree s v)) v ≡ true
      others v _ k = go (eqb v y) refl
        where
          go : (b : Bool) → eqb v y ≡ b → cond b false (leb 3 (degree s v)) ≡ true
          go true e = absurd (omega (arith, leb-true 3 (degree (without y s) v) k, ap (degree (without y s)) (eqb-true v y e), without_degree_self s sound y))
          go false e = le-leb 3 (degree s v) (omega (arith, leb-true 3 (degree (without y s) v) k, without_degree s sound y v))

-- Splits ---------------------------------------------------------------------------------------------------------------------------

-- the arithmetic of one side more: w + 1 values, p the power that bounds each side
side_more : (j k w n p : ℕ) → j * w + 1 ≤ p → k * w + n ≤ n * p → (j + k) * w + suc n ≤ suc n * p
side_more j k w n p a b = omega arith

-- some value is listed
values_some : {V : Type 0} (cs : List V) (v : V) → Among v cs → (w : ℕ) × (length cs ≡ suc w)
values_some [] v h = absurd h
values_some (c ∷ cs) v h = (length cs, refl)

power_pos : (w b : ℕ) → 1 ≤ suc w ^ b
power_pos w b = one-le-pow b (suc w) (omega arith)

split_more : (k w p q : ℕ) → p ≡ q → k * w + suc w ≤ q → suc k * w + 1 ≤ p
split_more k w p q e h = omega arith

module _ {E S V : Type 0} (M : Model E S) (vs : Values V) (rule : Sheet V S → Option S) (w : ℕ) (values_are : length vs.each ≡ suc w) where
  abbrev Limited : Task V S → ℕ → Type 0
  Limited (whole s) k = k * w + 1 ≤ suc w ^ busy s
  Limited (sides y cs s) k =
      (b : ℕ) → ((c : V) → busy (left_set M y c s) ≤ b) → k * w + length cs ≤ length cs * suc w ^ b

  limited : {t : Task V S} {notes : List (Note V)} {old new : Option (Held V S)} {k : ℕ}
      → Fit t → Explored M vs rule t notes old new k → Limited t k
  limited sound (leaf s notes old none) = omega (arith, power_pos w (busy s))
  limited sound (removal s notes old {s' = s'} {k = k} r rest) =
      let ih = limited (removal_sound sound r) rest in
      let power : suc w ^ busy s' ≤ suc w ^ busy s = pow-le-pow_right (omega arith) (removal_busy M vs sound r) in
      omega (arith, ih, power)
  limited sound (drop s notes old y there stuck e) = omega (arith, power_pos w (busy s))
  limited sound (split s notes old {k = k} y most stuck e rest) =
      let less = λ (c : V). set_busy M vs sound y c most.there (stuck y most.there) in
      let b = busy s - 1 in
      let ih : k * w + length vs.each ≤ length vs.each * suc w ^ b =
      limited (sound, sound.below y most.there) rest b (λ c. omega (arith, less c)) in
      let all : k * w + suc w ≤ suc w * suc w ^ b = subst (λ n. k * w + n ≤ n * suc w ^ b) values_are ih in
      let next : busy s ≡ suc b = omega (arith, less (vs.preferred y)) in
      let power : suc w ^ busy s ≡ suc w * suc w ^ b = ap (λ n. suc w ^ n) next ∙ pow-succ' (suc w) b in
      split_more k w _ _ power all
  limited sound (finished y s notes old) = λ b h. omega arith
  limited sound (side y c cs s notes old {j = j} {k = k} first rest) = λ b h.
      let front = limited (set_sound M sound.0 y c) first in
      let power : suc w ^ busy (left_set M y c s) ≤ suc w ^ b = pow-le-pow_right (omega arith) (h c) in
      side_more j k w (length cs) (suc w ^ b) (omega (arith, front, power)) (limited sound rest b h)

module _ {E S V : Type 0} (M : Model E S) (vs : Values V) (rule : Sheet V S → Option S) where
  pub splits_bounded : {s : Sheet V S} {notes : List (Note V)} {old new : Option (Held V S)} {k : ℕ}
      → Sound s → Explored M vs rule (whole s) notes old new k
      → k * (length vs.each - 1) + 1 ≤ length vs.each ^ busy s
  splits_bounded {s} {k = k} sound e =
      let some = values_some vs.each (vs.preferred 0) (vs.complete (vs.preferred 0)) in
      let less : length vs.each - 1 ≡ some.0 = omega (arith, some.1) in
      rw (less, some.1) (limited M vs rule some.0 some.1 sound e)
