-- What a sheet is worth after a variable has left it, and after something is joined onto it. Assumes nothing.
use Rattle.std.proofs.Common.{◌≡◌, ℕ, ◌<◌, ◌≤◌, Bool, true, false, cond, ◌&&◌, ◌||◌, eqb, ltb, is_some, Some, None, Option, sym, refl, ap, ◌∙◌, ap₂, ⊎_elim, arith}
use Rattle.std.proofs.lemmas.Bool.{both_ways, eqb-true, lt-ltb, le-ltb, cases_order}
use Rattle.std.specs.Option.{option_map}
use Rattle.score.specs.Model.{Model, Laws}
use Rattle.steps.specs.Sheet.{Sheet, Sound, remains, over, value, one_score, two_score, pair, partners, put, turned}
use Rattle.steps.specs.Change.{without, own, both, onto_base, onto_one, onto_two, onto_scores, onto_pair, left_set}
use Rattle.steps.proofs.Joins.{at_same, total, only, unit_right, swap_last, over_same, over_join, over_join_two, over_neutral, over_only, total_join, total_same, total_ones, total_pair}

-- what is not there
pub none_if : {A : Type 0} (o : Option A) → (is_some o ≡ true → ⊥) → o ≡ None
none_if None h = refl
none_if (Some x) h = absurd (h refl)

-- the pair of y and x, by which is the lower
module _ {V S : Type 0} (s : Sheet V S) where
  pub pair_lower : (y x : ℕ) → y < x → pair s y x ≡ s.two y x
  pair_lower y x h = ap (λ b. cond b (s.two y x) (cond (ltb x y) (option_map turned (s.two x y)) None)) (lt-ltb y x h)

  pub pair_higher : (y x : ℕ) → x < y → pair s y x ≡ option_map turned (s.two x y)
  pair_higher y x h =
      ap₂ (λ b c. cond b (s.two y x) (cond c (option_map turned (s.two x y)) None)) (le-ltb y x (omega arith)) (lt-ltb x y h)

  pub pair_self : (y x : ℕ) → y ≡ x → pair s y x ≡ None
  pair_self y x e =
      ap₂ (λ b c. cond b (s.two y x) (cond c (option_map turned (s.two x y)) None))
      (le-ltb y x (omega arith)) (le-ltb x y (omega arith))

pub some_mapped : {A B : Type 0} (f : A → B) (o : Option A) → is_some (option_map f o) ≡ is_some o
some_mapped f None = refl
some_mapped f (Some x) = refl

module _ {V S : Type 0} {s : Sheet V S} (sound : Sound s) where
  -- no pair stands the higher variable first
  pub no_pair : (a b : ℕ) → b ≤ a → s.two a b ≡ None
  no_pair a b h = none_if (s.two a b) (λ e. omega (arith, sound.lower_first a b e))

  -- a partner remains
  pub partner_remains : (y x : ℕ) → partners s y x ≡ true → remains s x ≡ true
  partner_remains y x h = ⊎_elim same (⊎_elim lower higher) (cases_order y x)
    where
      same : y ≡ x → remains s x ≡ true
      same e = absurd (both_ways (partners s y x) (ap is_some (pair_self s y x e)) h)

      lower : y < x → remains s x ≡ true
      lower k = sound.right y x (sym (ap is_some (pair_lower s y x k)) ∙ h)

      higher : x < y → remains s x ≡ true
      higher k = sound.left x y (sym (some_mapped turned (s.two x y)) ∙ sym (ap is_some (pair_higher s y x k)) ∙ h)

  pub no_partner : (y x : ℕ) → s.one x ≡ None → pair s y x ≡ None
  no_partner y x e =
      none_if (pair s y x) (λ h. both_ways (remains s x) (ap is_some e) (partner_remains y x h))

module _ {E S : Type 0} {M : Model E S} (laws : Laws M) {V : Type 0} where
  turned_score : (o : Option (V → V → S)) (u w : V) → two_score M (option_map turned o) u w ≡ two_score M o w u
  turned_score None u w = refl
  turned_score (Some f) u w = refl

  -- the score of the pair of y and x is that of the one record of the two that can be there
  pub both_parts : {s : Sheet V S} → Sound s → (y x : ℕ) (u w : V)
      → M.join (two_score M (s.two y x) u w) (two_score M (s.two x y) w u) ≡ both M s y x u w
  both_parts {s} sound y x u w = ⊎_elim same (⊎_elim lower higher) (cases_order y x)
    where
      Goal : Type 0
      Goal = M.join (two_score M (s.two y x) u w) (two_score M (s.two x y) w u) ≡ both M s y x u w

      read : Option (V → V → S) → Option (V → V → S) → S
      read p q = M.join (two_score M p u w) (two_score M q w u)

      same : y ≡ x → Goal
      same e =
          ap₂ read (no_pair sound y x (omega arith)) (no_pair sound x y (omega arith)) ∙ laws.unit M.neutral
          ∙ sym (ap (λ o. two_score M o u w) (pair_self s y x e))

      lower : y < x → Goal
      lower h =
          ap (read (s.two y x)) (no_pair sound x y (omega arith)) ∙ unit_right laws (two_score M (s.two y x) u w)
          ∙ sym (ap (λ o. two_score M o u w) (pair_lower s y x h))

      higher : x < y → Goal
      higher h =
          ap (λ o. read o (s.two x y)) (no_pair sound y x (omega arith)) ∙ laws.unit (two_score M (s.two x y) w u)
          ∙ sym (turned_score (s.two x y) u w) ∙ sym (ap (λ o. two_score M o u w) (pair_higher s y x h))

  -- the value without y, joined with y's own score and those of all its pairs
  pub value_without : {s : Sheet V S} → Sound s → (y : ℕ) → y < s.size → (l : ℕ → V)
      → value M s l
      ≡ M.join (value M (without y s) l) (M.join (own M s y (l y)) (over M s.size (λ x. both M s y x (l y) (l x))))
  value_without {s} sound y below l =
      total_same laws n _ _ _ _ _ _ (sym (unit_right laws s.base)) one_parts two_parts
      ∙ total_join laws n s.base M.neutral rest (only M y (o y)) rest_two star
      ∙ ap (M.join (total M n s.base rest rest_two))
      (laws.unit _ ∙ ap₂ M.join (over_only laws n y (o y) below) stars)
    where
      n : ℕ
      n = s.size

      o : ℕ → S
      o v = one_score M (s.one v) (l v)

      t : ℕ → ℕ → S
      t a b = two_score M (s.two a b) (l a) (l b)

      rest : ℕ → S
      rest v = one_score M ((without y s).one v) (l v)

      rest_two : ℕ → ℕ → S
      rest_two a b = two_score M ((without y s).two a b) (l a) (l b)

      star : ℕ → ℕ → S
      star a b = M.join (only M y (t y b) a) (only M y (t a y) b)

      one_parts : (v : ℕ) → o v ≡ M.join (rest v) (only M y (o y) v)
      one_parts v = go (eqb v y) refl
        where
          go : (e : Bool) → eqb v y ≡ e
              → o v ≡ M.join (one_score M (cond e None (s.one v)) (l v)) (cond e (o y) M.neutral)
          go true e = ap o (eqb-true v y e) ∙ sym (laws.unit (o y))
          go false e = sym (unit_right laws (o v))

      two_parts : (a b : ℕ) → t a b ≡ M.join (rest_two a b) (star a b)
      two_parts a b = go (eqb a y) (eqb b y) refl refl
        where
          go : (d e : Bool) → eqb a y ≡ d → eqb b y ≡ e
              → t a b
              ≡ M.join (two_score M (cond (d || e) None (s.two a b)) (l a) (l b))
              (M.join (cond d (t y b) M.neutral) (cond e (t a y) M.neutral))
          go true true p q =
              let ends = ap₂ t (eqb-true a y p) (eqb-true b y q) in
              let left = ap (t y) (eqb-true b y q) in
              let right = ap (λ x. t x y) (eqb-true a y p) in
              let nothing : t y y ≡ M.neutral = ap (λ x. two_score M x (l y) (l y)) (no_pair sound y y (omega arith)) in
              ends ∙ nothing ∙ sym (laws.unit M.neutral)
              ∙ ap (M.join M.neutral) (sym (ap₂ M.join (left ∙ nothing) (right ∙ nothing) ∙ laws.unit M.neutral))
          go true false p q =
              ap (λ x. t x b) (eqb-true a y p) ∙ sym (laws.unit (t y b))
              ∙ ap (M.join M.neutral) (sym (unit_right laws (t y b)))
          go false true p q =
              ap (t a) (eqb-true b y q) ∙ sym (laws.unit (t a y))
              ∙ ap (M.join M.neutral) (sym (laws.unit (t a y)))
          go false false p q =
              sym (unit_right laws (t a b)) ∙ ap (M.join (t a b)) (sym (laws.unit M.neutral))

      stars : over M n (λ a. over M n (star a)) ≡ over M n (λ x. both M s y x (l y) (l x))
      stars =
          over_join_two laws n (λ a b. only M y (t y b) a) (λ a b. only M y (t a y) b)
          ∙ ap₂ M.join
          (over_same laws n _ (only M y (over M n (t y))) row ∙ over_only laws n y (over M n (t y)) below)
          (over_same laws n _ (λ a. t a y) (λ a. over_only laws n y (t a y) below))
          ∙ sym (over_join laws n (t y) (λ a. t a y))
          ∙ over_same laws n _ _ (λ x. both_parts sound y x (l y) (l x))
        where
          row : (a : ℕ) → over M n (λ b. only M y (t y b) a) ≡ only M y (over M n (t y)) a
          row a = elim (eqb a y) as (λ e. over M n (λ b. cond e (t y b) M.neutral) ≡ cond e (over M n (t y)) M.neutral)
              [ true ↦ refl | false ↦ over_neutral laws n ]

  -- without y, its value makes no difference
  pub without_put : (s : Sheet V S) (y : ℕ) (c : V) (l : ℕ → V) → value M (without y s) (put l y c) ≡ value M (without y s) l
  without_put s y c l = total_same laws s.size _ _ _ _ _ _ refl ones twos
    where
      ones : (v : ℕ) → one_score M ((without y s).one v) (put l y c v) ≡ one_score M ((without y s).one v) (l v)
      ones v = elim (eqb v y) as (λ e. one_score M (cond e None (s.one v)) (cond e c (l v)) ≡ one_score M (cond e None (s.one v)) (l v))
          [ true ↦ refl | false ↦ refl ]

      twos : (a b : ℕ)
          → two_score M ((without y s).two a b) (put l y c a) (put l y c b) ≡ two_score M ((without y s).two a b) (l a) (l b)
      twos a b = go (eqb a y) (eqb b y)
        where
          go : (d e : Bool)
              → two_score M (cond (d || e) None (s.two a b)) (cond d c (l a)) (cond e c (l b))
              ≡ two_score M (cond (d || e) None (s.two a b)) (l a) (l b)
          go true e = refl
          go false true = refl
          go false false = refl

  pub value_onto_base : (s : Sheet V S) (c : S) (l : ℕ → V) → value M (onto_base M c s) l ≡ M.join (value M s l) c
  value_onto_base s c l = swap_last laws s.base c _

  pub value_onto_one : (s : Sheet V S) (x : ℕ) (g : V → S) → x < s.size → remains s x ≡ true → (l : ℕ → V)
      → value M (onto_one M x g s) l ≡ M.join (value M s l) (g (l x))
  value_onto_one s x g below there l =
      total_same laws n _ _ _ _ _ _ (sym (unit_right laws s.base)) ones (λ a b. sym (unit_right laws _))
      ∙ total_join laws n s.base M.neutral o (only M x (g (l x))) t (λ _ _. M.neutral)
      ∙ ap (M.join (total M n s.base o t))
      (total_ones laws n M.neutral (only M x (g (l x))) ∙ laws.unit _ ∙ over_only laws n x (g (l x)) below)
    where
      n : ℕ
      n = s.size

      o : ℕ → S
      o v = one_score M (s.one v) (l v)

      t : ℕ → ℕ → S
      t a b = two_score M (s.two a b) (l a) (l b)

      ones : (v : ℕ) → one_score M ((onto_one M x g s).one v) (l v) ≡ M.join (o v) (only M x (g (l x)) v)
      ones v = go (eqb v x) refl (s.one x) refl
        where
          go : (e : Bool) → eqb v x ≡ e → (f : Option (V → S)) → s.one x ≡ f
              → one_score M (cond e (option_map (onto_scores M g) f) (s.one v)) (l v) ≡ M.join (o v) (cond e (g (l x)) M.neutral)
          go true e None r = absurd (both_ways (remains s x) (ap is_some r) there)
          go true e (Some f) r =
              ap (λ w. M.join (f (l w)) (g (l w))) (eqb-true v x e)
              ∙ ap (λ a. M.join a (g (l x))) (sym (ap o (eqb-true v x e) ∙ ap (λ h. one_score M h (l x)) r))
          go false e f r = sym (unit_right laws (o v))

  pub value_onto_two : (s : Sheet V S) (x z : ℕ) (g : V → V → S) → x < s.size → z < s.size → (l : ℕ → V)
      → value M (onto_two M x z g s) l ≡ M.join (value M s l) (g (l x) (l z))
  value_onto_two s x z g p q l =
      total_same laws n _ _ _ _ _ _ (sym (unit_right laws s.base)) (λ v. sym (unit_right laws _)) twos
      ∙ total_join laws n s.base M.neutral o (λ _. M.neutral) t (λ a b. cond (eqb a x && eqb b z) (g (l x) (l z)) M.neutral)
      ∙ ap (M.join (total M n s.base o t)) (total_pair laws n x z (g (l x) (l z)) p q)
    where
      n : ℕ
      n = s.size

      o : ℕ → S
      o v = one_score M (s.one v) (l v)

      t : ℕ → ℕ → S
      t a b = two_score M (s.two a b) (l a) (l b)

      joined : (f : Option (V → V → S)) (u w : V) → onto_pair M g f u w ≡ M.join (two_score M f u w) (g u w)
      joined None u w = sym (laws.unit (g u w))
      joined (Some f) u w = refl

      twos : (a b : ℕ)
          → two_score M ((onto_two M x z g s).two a b) (l a) (l b)
          ≡ M.join (t a b) (cond (eqb a x && eqb b z) (g (l x) (l z)) M.neutral)
      twos a b = go (eqb a x) (eqb b z) refl refl
        where
          go : (d e : Bool) → eqb a x ≡ d → eqb b z ≡ e
              → two_score M (cond (d && e) (Some (onto_pair M g (s.two x z))) (s.two a b)) (l a) (l b)
              ≡ M.join (t a b) (cond (d && e) (g (l x) (l z)) M.neutral)
          go true true d e =
              ap₂ (λ u w. onto_pair M g (s.two x z) (l u) (l w)) (eqb-true a x d) (eqb-true b z e)
              ∙ joined (s.two x z) (l x) (l z)
              ∙ ap (λ c. M.join c (g (l x) (l z))) (sym (ap₂ t (eqb-true a x d) (eqb-true b z e)))
          go true false d e = sym (unit_right laws (t a b))
          go false e d r = sym (unit_right laws (t a b))

  -- a variable is set: the value is that of the layout with this value put in
  pub value_set : {s : Sheet V S} → Sound s → (y : ℕ) → y < s.size → (c : V) (l : ℕ → V)
      → value M (left_set M y c s) l ≡ value M s (put l y c)
  value_set {s} sound y below c l =
      total_same laws n _ _ _ _ _ _ refl ones (λ a b. sym (unit_right laws _))
      ∙ total_join laws n s.base (own M s y c) rest handed rest_two (λ _ _. M.neutral)
      ∙ ap (M.join (value M (without y s) l)) (total_ones laws n (own M s y c) handed)
      ∙ sym (value_without sound y below (put l y c)
      ∙ ap₂ M.join (without_put s y c l) (ap₂ M.join (ap (own M s y) (at_same y c (l y))) stars))
    where
      n : ℕ
      n = s.size

      handed : ℕ → S
      handed v = both M s y v c (l v)

      rest : ℕ → S
      rest v = one_score M ((without y s).one v) (l v)

      rest_two : ℕ → ℕ → S
      rest_two a b = two_score M ((without y s).two a b) (l a) (l b)

      ones : (v : ℕ) → one_score M ((left_set M y c s).one v) (l v) ≡ M.join (rest v) (handed v)
      ones v = go (eqb v y) refl (s.one v) refl
        where
          go : (e : Bool) → eqb v y ≡ e → (f : Option (V → S)) → s.one v ≡ f
              → one_score M (cond e None (option_map (onto_scores M (both M s y v c)) f)) (l v)
              ≡ M.join (one_score M (cond e None f) (l v)) (handed v)
          go true e f r =
              sym (laws.unit _ ∙ ap (λ o. two_score M o c (l v)) (pair_self s y v (sym (eqb-true v y e))))
          go false e None r = sym (laws.unit _ ∙ ap (λ o. two_score M o c (l v)) (no_partner sound y v r))
          go false e (Some f) r = refl

      stars : over M n (λ x. both M s y x (put l y c y) (put l y c x)) ≡ over M n handed
      stars = over_same laws n _ handed (λ x. ap (λ u. both M s y x u (put l y c x)) (at_same y c (l y)) ∙ other x)
        where
          other : (x : ℕ) → both M s y x c (put l y c x) ≡ handed x
          other x = go (eqb x y) refl
            where
              go : (e : Bool) → eqb x y ≡ e → both M s y x c (cond e c (l x)) ≡ handed x
              go true e =
                  let none = pair_self s y x (sym (eqb-true x y e)) in
                  ap (λ o. two_score M o c c) none ∙ sym (ap (λ o. two_score M o c (l x)) none)
              go false e = refl
