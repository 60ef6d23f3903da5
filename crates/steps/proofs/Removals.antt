-- Every removal keeps the best, and leaves a sound sheet. Assumes nothing.
use Rattle.std.proofs.Common.{◌≡◌, ℕ, ◌<◌, Bool, true, false, cond, ◌&&◌, ◌||◌, eqb, is_some, Some, None, Option, sym, refl, ap, ◌∙◌, subst, ap₂, arith}
use Rattle.std.proofs.lemmas.Bool.{both_ways, eqb-true, eqb-false, ne_eqb, or_parts}
use Rattle.std.specs.Option.{option_map}
use Rattle.score.specs.Model.{Model, Laws}
use Rattle.steps.specs.Sheet.{Sheet, Sound, remains, over, value, two_score, pair, partners, degree, put, count}
use Rattle.steps.specs.Change.{Values, choose, without, own, both, with_one, with_two, onto_one, onto_two, onto_scores, onto_pair, left_alone, left_one, left_two, left_set}
use Rattle.steps.specs.Steps.{Way, alone, by_one, by_two, Note, taken, Removal, leaves_alone, leaves_by_one, leaves_by_two}
use Rattle.steps.specs.Claims.{KeepsBest}
use Rattle.steps.proofs.Joins.{at_same, at_other, only, unit_right, over_same, over_join, over_neutral, over_only}
use Rattle.steps.proofs.Choices.{chosen_greatest, keeps_left}
use Rattle.steps.proofs.Counting.{but, count_one, count_none}
use Rattle.steps.proofs.Sheets.{none_if, some_mapped, pair_self, partner_remains, value_without, without_put, value_onto_base, value_onto_one, value_onto_two}

-- Sound sheets ---------------------------------------------------------------------------------------------------------------------

gone : {A : Type 0} (b : Bool) (o : Option A) → is_some (cond b None o) ≡ true → (b ≡ false) × (is_some o ≡ true)
gone true o h = absurd (both_ways false refl h)
gone false o h = (refl, h)

module _ {V S : Type 0} where
  stays : (s : Sheet V S) (y v : ℕ) → (eqb v y ≡ false) → remains s v ≡ true → remains (without y s) v ≡ true
  stays s y v e h = ap (λ b. is_some (cond b None (s.one v))) e ∙ h

  pub without_sound : {s : Sheet V S} → Sound s → (y : ℕ) → Sound (without y s)
  without_sound {s} sound y = record {
    below = λ v h. sound.below v (gone (eqb v y) (s.one v) h).1;
    lower_first = λ a b h. sound.lower_first a b (gone (eqb a y || eqb b y) (s.two a b) h).1;
    left = λ a b h.
        let parts = gone (eqb a y || eqb b y) (s.two a b) h in
        stays s y a (or_parts (eqb a y) (eqb b y) parts.0).0 (sound.left a b parts.1);
    right = λ a b h.
        let parts = gone (eqb a y || eqb b y) (s.two a b) h in
        stays s y b (or_parts (eqb a y) (eqb b y) parts.0).1 (sound.right a b parts.1);
  }

  -- a sheet with the same variables and the same pairs
  pub alike_sound : {V' S' : Type 0} {s : Sheet V S} {s' : Sheet V' S'} → Sound s → s'.size ≡ s.size → ((v : ℕ) → remains s' v ≡ remains s v)
      → ((a b : ℕ) → is_some (s'.two a b) ≡ is_some (s.two a b)) → Sound s'
  alike_sound {s = s} {s' = s'} sound z o t = record {
    below = λ v h. subst (λ n. v < n) (sym z) (sound.below v (sym (o v) ∙ h));
    lower_first = λ a b h. sound.lower_first a b (sym (t a b) ∙ h);
    left = λ a b h. o a ∙ sound.left a b (sym (t a b) ∙ h);
    right = λ a b h. o b ∙ sound.right a b (sym (t a b) ∙ h);
  }

  -- x's scores changed
  pub onto_one_remains : {E : Type 0} (M : Model E S) (s : Sheet V S) (x : ℕ) (g : V → S) (v : ℕ)
      → remains (onto_one M x g s) v ≡ remains s v
  onto_one_remains M s x g v = go (eqb v x) refl
    where
      go : (e : Bool) → eqb v x ≡ e → is_some (cond e (option_map (onto_scores M g) (s.one x)) (s.one v)) ≡ remains s v
      go true e = some_mapped (onto_scores M g) (s.one x) ∙ ap (remains s) (sym (eqb-true v x e))
      go false e = refl

  pub onto_one_sound : {E : Type 0} (M : Model E S) {s : Sheet V S} → Sound s → (x : ℕ) (g : V → S) → Sound (onto_one M x g s)
  onto_one_sound M {s} sound x g = alike_sound sound refl (onto_one_remains M s x g) (λ a b. refl)

  -- a pair between two that remain
  pub onto_two_sound : {E : Type 0} (M : Model E S) {s : Sheet V S} → Sound s → (x z : ℕ) (g : V → V → S)
      → x < z → remains s x ≡ true → remains s z ≡ true → Sound (onto_two M x z g s)
  onto_two_sound M {s} sound x z g order p q = record {
    below = sound.below;
    lower_first = λ a b h. told (λ a b. a < b) order sound.lower_first a b h;
    left = λ a b h. told (λ a b. remains s a ≡ true) p sound.left a b h;
    right = λ a b h. told (λ a b. remains s b ≡ true) q sound.right a b h;
  }
    where
      told : (P : ℕ → ℕ → Type 0) → P x z → ((a b : ℕ) → is_some (s.two a b) ≡ true → P a b)
          → (a b : ℕ) → is_some ((onto_two M x z g s).two a b) ≡ true → P a b
      told P new old a b h = go (eqb a x) (eqb b z) refl refl h
        where
          go : (d e : Bool) → eqb a x ≡ d → eqb b z ≡ e
              → is_some (cond (d && e) (Some (onto_pair M g (s.two x z))) (s.two a b)) ≡ true → P a b
          go true true d e k = subst (λ b. P a b) (sym (eqb-true b z e)) (subst (λ a. P a z) (sym (eqb-true a x d)) new)
          go true false d e k = old a b k
          go false e d r k = old a b k

  pub set_remains : {E : Type 0} (M : Model E S) (s : Sheet V S) (y : ℕ) (c : V) (v : ℕ)
      → remains (left_set M y c s) v ≡ remains (without y s) v
  set_remains M s y c v = elim (eqb v y) as
      (λ e. is_some (cond e None (option_map (onto_scores M (both M s y v c)) (s.one v))) ≡ is_some (cond e None (s.one v)))
      [ true ↦ refl | false ↦ some_mapped (onto_scores M (both M s y v c)) (s.one v) ]

  pub set_sound : {E : Type 0} (M : Model E S) {s : Sheet V S} → Sound s → (y : ℕ) (c : V) → Sound (left_set M y c s)
  set_sound M {s} sound y c = alike_sound (without_sound sound y) refl (set_remains M s y c) (λ a b. refl)

-- Partners, counted ----------------------------------------------------------------------------------------------------------------

module _ {V S : Type 0} {s : Sheet V S} (sound : Sound s) where
  pub partner_below : (y x : ℕ) → partners s y x ≡ true → x < s.size
  partner_below y x h = sound.below x (partner_remains sound y x h)

  pub partner_other : (y x : ℕ) → partners s y x ≡ true → x ≡ y → ⊥
  partner_other y x h e = both_ways (partners s y x) (ap is_some (pair_self s y x (sym e))) h

  -- a partner of y still remains when y has left
  pub partner_stays : (y x : ℕ) → partners s y x ≡ true → remains (without y s) x ≡ true
  partner_stays y x h = stays s y x (ne_eqb x y (partner_other y x h)) (partner_remains sound y x h)

  -- where all that pass but these are none
  none_else : (p : ℕ → Bool) (y x : ℕ) → count s.size p ≡ 0 → (partners s y x ≡ true → p x ≡ true) → pair s y x ≡ None
  none_else p y x e h =
      none_if (pair s y x) (λ k. both_ways (p x) (count_none s.size p e x (partner_below y x k)) (h k))

  pub no_partners : (y x : ℕ) → degree s y ≡ 0 → pair s y x ≡ None
  no_partners y x e = none_else (partners s y) y x e (λ h. h)

  but_passes : (p : ℕ → Bool) (x v : ℕ) → (v ≡ x → ⊥) → but x p v ≡ p v
  but_passes p x v d = at_other v x false (p v) d

  pub one_partner : (y x v : ℕ) → degree s y ≡ 1 → partners s y x ≡ true → (v ≡ x → ⊥) → pair s y v ≡ None
  one_partner y x v e h d =
      let rest : count s.size (but x (partners s y)) ≡ 0 =
      omega (arith, count_one s.size x (partners s y) (partner_below y x h) h) in
      none_else (but x (partners s y)) y v rest (λ k. but_passes (partners s y) x v d ∙ k)

  pub two_partners : (y x z v : ℕ) → degree s y ≡ 2 → partners s y x ≡ true → partners s y z ≡ true → x < z
      → (v ≡ x → ⊥) → (v ≡ z → ⊥) → pair s y v ≡ None
  two_partners y x z v e h k order d f =
      let p = partners s y in
      let zx : but x p z ≡ true = but_passes p x z (omega arith) ∙ k in
      let rest : count s.size (but z (but x p)) ≡ 0 =
      omega (arith, count_one s.size x p (partner_below y x h) h, count_one s.size z (but x p) (partner_below y z k) zx) in
      none_else (but z (but x p)) y v rest (λ r. but_passes (but x p) z v f ∙ but_passes p x v d ∙ r)

-- Removals -------------------------------------------------------------------------------------------------------------------------

module _ {E S : Type 0} {M : Model E S} (laws : Laws M) {V : Type 0} (vs : Values V) {s : Sheet V S} (sound : Sound s) (y : ℕ) (there : remains s y ≡ true) where
  -- the value at a value of y, if `worth` is what y and its pairs select at the layout
  at_value : (worth : (ℕ → V) → V → S)
      → ((l : ℕ → V) (w : V) → M.join (own M s y w) (over M s.size (λ x. both M s y x w (put l y w x))) ≡ worth l w)
      → (l : ℕ → V) (w : V) → value M s (put l y w) ≡ M.join (value M (without y s) l) (worth l w)
  at_value worth star l w =
      value_without laws sound y (sound.below y there) (put l y w)
      ∙ ap₂ M.join (without_put laws s y w l)
      (ap (λ u. M.join (own M s y u) (over M s.size (λ x. both M s y x u (put l y w x)))) (at_same y w (l y)) ∙ star l w)

  -- what every removal has in common
  keeps : (worth : (ℕ → V) → V → S) (way : Way V) (s' : Sheet V S)
      → ((l : ℕ → V) (w : V) → M.join (own M s y w) (over M s.size (λ x. both M s y x w (put l y w x))) ≡ worth l w)
      → ((l : ℕ → V) → taken way l ≡ choose M vs y (worth l))
      → ((l : ℕ → V) → value M s' l ≡ M.join (value M (without y s) l) (worth l (choose M vs y (worth l))))
      → KeepsBest M s (record { variable = y; way = way }) s'
  keeps worth way s' star way_is after = record {
    attained = λ l.
        ap (λ c. value M s (put l y c)) (way_is l) ∙ at_value worth star l (choose M vs y (worth l)) ∙ sym (after l);
    greatest = λ l c.
        ap₂ M.at_most (at_value worth star l c) (after l)
        ∙ keeps_left laws _ _ (value M (without y s) l) (chosen_greatest laws (worth l) vs y c);
  }

  alone_star : degree s y ≡ 0 → (l : ℕ → V) (w : V)
      → M.join (own M s y w) (over M s.size (λ x. both M s y x w (put l y w x))) ≡ own M s y w
  alone_star e l w =
      ap (M.join (own M s y w)) (over_same laws s.size _ (λ _. M.neutral)
      (λ x. ap (λ o. two_score M o w (put l y w x)) (no_partners sound y x e)) ∙ over_neutral laws s.size)
      ∙ unit_right laws (own M s y w)

  pub alone_keeps : degree s y ≡ 0
      → KeepsBest M s (record { variable = y; way = alone (choose M vs y (own M s y)) }) (left_alone M vs y s)
  alone_keeps e =
      keeps (λ l. own M s y) (alone (choose M vs y (own M s y))) (left_alone M vs y s) (alone_star e) (λ l. refl)
      (λ l. value_onto_base laws (without y s) (own M s y (choose M vs y (own M s y))) l)

  -- a variable other than y stands as it did
  put_partner : (x : ℕ) → partners s y x ≡ true → (l : ℕ → V) (w : V) → put l y w x ≡ l x
  put_partner x h l w = at_other x y w (l x) (partner_other sound y x h)

  one_star : (x : ℕ) → degree s y ≡ 1 → partners s y x ≡ true → (l : ℕ → V) (w : V)
      → M.join (own M s y w) (over M s.size (λ v. both M s y v w (put l y w v))) ≡ with_one M s y x (l x) w
  one_star x e h l w =
      ap (M.join (own M s y w)) (over_same laws s.size _ (only M x (both M s y x w (l x))) parts
      ∙ over_only laws s.size x (both M s y x w (l x)) (partner_below sound y x h))
    where
      parts : (v : ℕ) → both M s y v w (put l y w v) ≡ only M x (both M s y x w (l x)) v
      parts v = go (eqb v x) refl
        where
          go : (b : Bool) → eqb v x ≡ b → both M s y v w (put l y w v) ≡ cond b (both M s y x w (l x)) M.neutral
          go true r = ap (λ v. both M s y v w (put l y w v)) (eqb-true v x r) ∙ ap (both M s y x w) (put_partner x h l w)
          go false r = ap (λ o. two_score M o w (put l y w v)) (one_partner sound y x v e h (eqb-false v x r))

  pub one_keeps : (x : ℕ) → degree s y ≡ 1 → partners s y x ≡ true
      → KeepsBest M s (record { variable = y; way = by_one x (λ u. choose M vs y (with_one M s y x u)) }) (left_one M vs y x s)
  one_keeps x e h =
      keeps (λ l. with_one M s y x (l x)) (by_one x (λ u. choose M vs y (with_one M s y x u))) (left_one M vs y x s)
      (one_star x e h) (λ l. refl)
      (λ l. value_onto_one laws (without y s) x _ (partner_below sound y x h) (partner_stays sound y x h) l)

  two_star : (x z : ℕ) → degree s y ≡ 2 → partners s y x ≡ true → partners s y z ≡ true → x < z → (l : ℕ → V) (w : V)
      → M.join (own M s y w) (over M s.size (λ v. both M s y v w (put l y w v))) ≡ with_two M s y x z (l x) (l z) w
  two_star x z e h k order l w =
      ap (M.join (own M s y w)) (over_same laws s.size _ (λ v. M.join (only M x (both M s y x w (l x)) v) (only M z (both M s y z w (l z)) v)) parts
      ∙ over_join laws s.size (only M x (both M s y x w (l x))) (only M z (both M s y z w (l z)))
      ∙ ap₂ M.join (over_only laws s.size x (both M s y x w (l x)) (partner_below sound y x h))
      (over_only laws s.size z (both M s y z w (l z)) (partner_below sound y z k)))
      ∙ sym (laws.assoc (own M s y w) (both M s y x w (l x)) (both M s y z w (l z)))
    where
      parts : (v : ℕ) → both M s y v w (put l y w v) ≡ M.join (only M x (both M s y x w (l x)) v) (only M z (both M s y z w (l z)) v)
      parts v = go (eqb v x) (eqb v z) refl refl
        where
          go : (b c : Bool) → eqb v x ≡ b → eqb v z ≡ c
              → both M s y v w (put l y w v) ≡ M.join (cond b (both M s y x w (l x)) M.neutral) (cond c (both M s y z w (l z)) M.neutral)
          go true true p q = absurd (omega (arith, eqb-true v x p, eqb-true v z q))
          go true false p q =
              ap (λ v. both M s y v w (put l y w v)) (eqb-true v x p) ∙ ap (both M s y x w) (put_partner x h l w)
              ∙ sym (unit_right laws (both M s y x w (l x)))
          go false true p q =
              ap (λ v. both M s y v w (put l y w v)) (eqb-true v z q) ∙ ap (both M s y z w) (put_partner z k l w)
              ∙ sym (laws.unit (both M s y z w (l z)))
          go false false p q =
              ap (λ o. two_score M o w (put l y w v)) (two_partners sound y x z v e h k order (eqb-false v x p) (eqb-false v z q))
              ∙ sym (laws.unit M.neutral)

  pub two_keeps : (x z : ℕ) → degree s y ≡ 2 → partners s y x ≡ true → partners s y z ≡ true → x < z
      → KeepsBest M s (record { variable = y; way = by_two x z (λ u t. choose M vs y (with_two M s y x z u t)) }) (left_two M vs y x z s)
  two_keeps x z e h k order =
      keeps (λ l. with_two M s y x z (l x) (l z)) (by_two x z (λ u t. choose M vs y (with_two M s y x z u t))) (left_two M vs y x z s)
      (two_star x z e h k order) (λ l. refl)
      (λ l. value_onto_two laws (without y s) x z _ (partner_below sound y x h) (partner_below sound y z k) l)

module _ {E S : Type 0} {M : Model E S} (laws : Laws M) {V : Type 0} (vs : Values V) {s : Sheet V S} (sound : Sound s) where
  pub removal_keeps : {m : Note V} {s' : Sheet V S} → Removal M vs s m s' → KeepsBest M s m s'
  removal_keeps (leaves_alone y h) = alone_keeps laws vs sound y h.there h.partners_are
  removal_keeps (leaves_by_one y x h p) = one_keeps laws vs sound y h.there x h.partners_are p
  removal_keeps (leaves_by_two y x z h p q order) = two_keeps laws vs sound y h.there x z h.partners_are p q order

module _ {E S : Type 0} {M : Model E S} {V : Type 0} {vs : Values V} {s : Sheet V S} (sound : Sound s) where
  pub removal_sound : {m : Note V} {s' : Sheet V S} → Removal M vs s m s' → Sound s'
  removal_sound (leaves_alone y h) = alike_sound (without_sound sound y) refl (λ v. refl) (λ a b. refl)
  removal_sound (leaves_by_one y x h p) = onto_one_sound M (without_sound sound y) x _
  removal_sound (leaves_by_two y x z h p q order) =
      onto_two_sound M (without_sound sound y) x z _ order (partner_stays sound y x p) (partner_stays sound y z q)
