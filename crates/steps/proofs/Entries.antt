-- No step makes the entries of a sheet more, and every join of a step is exact. Assumes nothing.
use Rattle.std.proofs.Common.{◌≡◌, ℕ, zero, suc, ◌+◌, ◌<◌, ◌≤◌, Bool, true, false, cond, ◌&&◌, ◌||◌, eqb, ltb, is_some, Some, None, Option, sym, refl, ◌∙◌, subst, ap₂, arith}
use mathlib.Core.Path.{fun_ext}
use Rattle.std.proofs.lemmas.Bool.{ne_eqb}
use Rattle.std.specs.Option.{option_map}
use Rattle.score.specs.Model.{Model, Laws, Of, Together, exact_entries}
use Rattle.score.proofs.Entries.{of_sum, of_none}
use Rattle.steps.specs.Sheet.{Sheet, Sound, remains, over, numbers, one_score, two_score, pair, partners, degree, turned, count}
use Rattle.steps.specs.Change.{Values, without, own, both, with_one, with_two, onto_base, onto_one, onto_two, onto_scores, onto_pair, choose, left_alone, left_one, left_two, left_set}
use Rattle.steps.specs.Steps.{Note, Removal, leaves_alone, leaves_by_one, leaves_by_two}
use Rattle.steps.specs.Start.{set_pin, pinned}
use Rattle.steps.specs.Counts.{Single, single, OneOf, TwoOf, Counts, entries, Few, OfAll, JoinsExact}
use Rattle.steps.proofs.Joins.{at_other, over_at}
use Rattle.steps.proofs.Counting.{numbers_laws}
use Rattle.steps.proofs.Sheets.{partner_remains, value_without, value_set}
use Rattle.steps.proofs.Removals.{alike_sound, partner_other, alone_keeps, one_keeps, two_keeps}
use Rattle.steps.proofs.Splits.{partners_turned}
use Rattle.steps.proofs.Starts.{pinned_size, pinned_sound}

module _ {E S V : Type 0} {M : Model E S} (laws : Laws M) where
  -- what is counted is what is there
  one_there : (c : Option (Single → ℕ)) (f : Option (V → S)) → OneOf M c f → is_some c ≡ is_some f
  one_there None None h = refl
  one_there None (Some f) h = absurd h
  one_there (Some c) None h = absurd h
  one_there (Some c) (Some f) h = refl

  two_there : (c : Option (Single → Single → ℕ)) (f : Option (V → V → S)) → TwoOf M c f → is_some c ≡ is_some f
  two_there None None h = refl
  two_there None (Some f) h = absurd h
  two_there (Some c) None h = absurd h
  two_there (Some c) (Some f) h = refl

  one_score_of : (c : Option (Single → ℕ)) (f : Option (V → S)) → OneOf M c f → (u : V) → Of M (one_score numbers c tt) (one_score M f u)
  one_score_of None None h u = of_none M
  one_score_of None (Some f) h u = absurd h
  one_score_of (Some c) None h u = absurd h
  one_score_of (Some c) (Some f) h u = h u

  two_score_of : (c : Option (Single → Single → ℕ)) (f : Option (V → V → S)) → TwoOf M c f → (u w : V)
      → Of M (two_score numbers c tt tt) (two_score M f u w)
  two_score_of None None h u w = of_none M
  two_score_of None (Some f) h u w = absurd h
  two_score_of (Some c) None h u w = absurd h
  two_score_of (Some c) (Some f) h u w = h u w

  turned_of : (c : Option (Single → Single → ℕ)) (f : Option (V → V → S)) → TwoOf M c f → TwoOf M (option_map turned c) (option_map turned f)
  turned_of None None h = tt
  turned_of None (Some f) h = absurd h
  turned_of (Some c) None h = absurd h
  turned_of (Some c) (Some f) h = λ u w. h w u

  module _ {c : Sheet Single ℕ} {s : Sheet V S} (k : Counts M c s) where
    pub pair_of : (a b : ℕ) → TwoOf M (pair c a b) (pair s a b)
    pair_of a b = go (ltb a b) (ltb b a)
      where
        go : (d e : Bool)
            → TwoOf M (cond d (c.two a b) (cond e (option_map turned (c.two b a)) None))
            (cond d (s.two a b) (cond e (option_map turned (s.two b a)) None))
        go true e = k.two_of a b
        go false true = turned_of (c.two b a) (s.two b a) (k.two_of b a)
        go false false = tt

    pub counted_remains : (v : ℕ) → remains c v ≡ remains s v
    counted_remains v = one_there (c.one v) (s.one v) (k.one_of v)

    pub counted_partners : (a b : ℕ) → partners c a b ≡ partners s a b
    counted_partners a b = two_there (pair c a b) (pair s a b) (pair_of a b)

    pub counted_degree : (y : ℕ) → degree c y ≡ degree s y
    counted_degree y = ap₂ count k.size_is (fun_ext (counted_partners y))

    pub counted_sound : Sound s → Sound c
    counted_sound sound =
        alike_sound sound k.size_is counted_remains (λ a b. two_there (c.two a b) (s.two a b) (k.two_of a b))

    pub own_of : (y : ℕ) (u : V) → Of M (own numbers c y tt) (own M s y u)
    own_of y u = one_score_of (c.one y) (s.one y) (k.one_of y) u

    pub both_of : (y x : ℕ) (u w : V) → Of M (both numbers c y x tt tt) (both M s y x u w)
    both_of y x u w = two_score_of (pair c y x) (pair s y x) (pair_of y x) u w

    pub with_one_of : (y x : ℕ) (u w : V) → Of M (with_one numbers c y x tt tt) (with_one M s y x u w)
    with_one_of y x u w = of_sum M laws _ _ _ _ (own_of y w) (both_of y x w u)

    pub with_two_of : (y x z : ℕ) (u t w : V) → Of M (with_two numbers c y x z tt tt tt) (with_two M s y x z u t w)
    with_two_of y x z u t w = of_sum M laws _ _ _ _ (with_one_of y x u w) (both_of y z w t)

    -- The counts of a changed sheet ------------------------------------------------------------------------------------------------

    pub without_counts : (y : ℕ) → Counts M (without y c) (without y s)
    without_counts y = record {
      size_is = k.size_is;
      base_of = k.base_of;
      one_of = λ v. elim (eqb v y) as (λ e. OneOf M (cond e None (c.one v)) (cond e None (s.one v))) [ true ↦ tt | false ↦ k.one_of v ];
      two_of = λ a b. elim (eqb a y || eqb b y) as (λ e. TwoOf M (cond e None (c.two a b)) (cond e None (s.two a b))) [ true ↦ tt | false ↦ k.two_of a b ];
    }

    pub onto_base_counts : (m : ℕ) (x : S) → Of M m x → Counts M (onto_base numbers m c) (onto_base M x s)
    onto_base_counts m x h =
        record { size_is = k.size_is; base_of = of_sum M laws _ _ _ _ k.base_of h; one_of = k.one_of; two_of = k.two_of }

  onto_scores_of : (c : Option (Single → ℕ)) (f : Option (V → S)) (m : Single → ℕ) (g : V → S) → OneOf M c f → ((u : V) → Of M (m tt) (g u))
      → OneOf M (option_map (onto_scores numbers m) c) (option_map (onto_scores M g) f)
  onto_scores_of None None m g h q = tt
  onto_scores_of None (Some f) m g h q = absurd h
  onto_scores_of (Some c) None m g h q = absurd h
  onto_scores_of (Some c) (Some f) m g h q = λ u. of_sum M laws _ _ _ _ (h u) (q u)

  onto_pair_of : (c : Option (Single → Single → ℕ)) (f : Option (V → V → S)) (m : Single → Single → ℕ) (g : V → V → S) → TwoOf M c f
      → ((u w : V) → Of M (m tt tt) (g u w)) → (u w : V) → Of M (onto_pair numbers m c tt tt) (onto_pair M g f u w)
  onto_pair_of None None m g h q u w = q u w
  onto_pair_of None (Some f) m g h q u w = absurd h
  onto_pair_of (Some c) None m g h q u w = absurd h
  onto_pair_of (Some c) (Some f) m g h q u w = of_sum M laws _ _ _ _ (h u w) (q u w)

  module _ {c : Sheet Single ℕ} {s : Sheet V S} (k : Counts M c s) where
    pub onto_one_counts : (x : ℕ) (m : Single → ℕ) (g : V → S) → ((u : V) → Of M (m tt) (g u)) → Counts M (onto_one numbers x m c) (onto_one M x g s)
    onto_one_counts x m g h = record {
      size_is = k.size_is;
      base_of = k.base_of;
      one_of = λ v. elim (eqb v x) as
          (λ e. OneOf M (cond e (option_map (onto_scores numbers m) (c.one x)) (c.one v)) (cond e (option_map (onto_scores M g) (s.one x)) (s.one v)))
          [ true ↦ onto_scores_of (c.one x) (s.one x) m g (k.one_of x) h | false ↦ k.one_of v ];
      two_of = k.two_of;
    }

    pub onto_two_counts : (x z : ℕ) (m : Single → Single → ℕ) (g : V → V → S) → ((u w : V) → Of M (m tt tt) (g u w))
        → Counts M (onto_two numbers x z m c) (onto_two M x z g s)
    onto_two_counts x z m g h = record {
      size_is = k.size_is;
      base_of = k.base_of;
      one_of = k.one_of;
      two_of = λ a b. elim (eqb a x && eqb b z) as
          (λ e. TwoOf M (cond e (Some (onto_pair numbers m (c.two x z))) (c.two a b)) (cond e (Some (onto_pair M g (s.two x z))) (s.two a b)))
          [ true ↦ onto_pair_of (c.two x z) (s.two x z) m g (k.two_of x z) h | false ↦ k.two_of a b ];
    }

    pub set_counts : (y : ℕ) (u : V) → Counts M (left_set numbers y tt c) (left_set M y u s)
    set_counts y u = record {
      size_is = k.size_is;
      base_of = of_sum M laws _ _ _ _ k.base_of (own_of k y u);
      one_of = λ v. elim (eqb v y) as
          (λ e. OneOf M (cond e None (option_map (onto_scores numbers (both numbers c y v tt)) (c.one v))) (cond e None (option_map (onto_scores M (both M s y v u)) (s.one v))))
          [ true ↦ tt | false ↦ onto_scores_of (c.one v) (s.one v) (both numbers c y v tt) (both M s y v u) (k.one_of v) (both_of k y v u) ];
      two_of = (without_counts k y).two_of;
    }

-- Parts of the whole ---------------------------------------------------------------------------------------------------------------

over_has : (n i : ℕ) (f : ℕ → ℕ) → i < n → f i ≤ over numbers n f
over_has n i f h = omega (arith, over_at numbers_laws n i f h)

over_has_two : (n i j : ℕ) (f : ℕ → ℕ) → i < j → j < n → f i + f j ≤ over numbers n f
over_has_two n i j f o h =
    let rest : f i ≤ over numbers n (λ v. cond (eqb v j) 0 (f v)) =
    subst (λ m. m ≤ over numbers n (λ v. cond (eqb v j) 0 (f v))) (at_other i j 0 (f i) (omega arith))
    (over_has n i (λ v. cond (eqb v j) 0 (f v)) (omega arith)) in
    omega (arith, over_at numbers_laws n j f h, rest)

module _ {c : Sheet Single ℕ} (sound : Sound c) where
  -- y, and all without it
  parts : (y : ℕ) → y < c.size
      → entries c ≡ entries (without y c) + (own numbers c y tt + over numbers c.size (λ x. both numbers c y x tt tt))
  parts y h = value_without numbers_laws sound y h (λ _. tt)

  base_own : (y : ℕ) → y < c.size → c.base + own numbers c y tt ≤ entries c
  base_own y h = omega (arith, parts y h)

  own_both : (y x : ℕ) → y < c.size → x < c.size → own numbers c y tt + both numbers c y x tt tt ≤ entries c
  own_both y x h k = omega (arith, parts y h, over_has c.size x (λ x. both numbers c y x tt tt) k)

  -- x's own score is among what is there without y
  own_other : (y x : ℕ) → x < c.size → (x ≡ y → ⊥) → own numbers c x tt ≤ entries (without y c)
  own_other y x h d =
      let there : own numbers (without y c) x tt ≤ entries (without y c) =
      omega (arith, over_has c.size x (λ v. own numbers (without y c) v tt) h) in
      subst (λ o. one_score numbers o tt ≤ entries (without y c)) (at_other x y None (c.one x) d) there

  own_onto : (y x : ℕ) → y < c.size → x < c.size → (x ≡ y → ⊥) → own numbers c x tt + with_one numbers c y x tt tt ≤ entries c
  own_onto y x h k d =
      omega (arith, parts y h, over_has c.size x (λ x. both numbers c y x tt tt) k, own_other y x k d)

  with_both : (y x z : ℕ) → y < c.size → x < z → z < c.size → with_two numbers c y x z tt tt tt + entries (without y c) ≤ entries c
  with_both y x z h o k = omega (arith, parts y h, over_has_two c.size x z (λ x. both numbers c y x tt tt) o k)

  two_other : (y x z : ℕ) → x < c.size → z < c.size → (x ≡ y → ⊥) → (z ≡ y → ⊥) → two_score numbers (c.two x z) tt tt ≤ entries (without y c)
  two_other y x z h k d e =
      let t : ℕ → ℕ → ℕ = λ a b. two_score numbers ((without y c).two a b) tt tt in
      let there : t x z ≤ entries (without y c) =
      omega (arith, over_has c.size x (λ a. over numbers c.size (t a)) h, over_has c.size z (t x) k) in
      subst (λ o. two_score numbers o tt tt ≤ entries (without y c))
      (ap₂ (λ a b. cond (a || b) None (c.two x z)) (ne_eqb x y d) (ne_eqb z y e)) there

-- Few enough, and of at most 1,024, are the same ----------------------------------------------------------------------------------

module _ {E S V : Type 0} {M : Model E S} {s : Sheet V S} where
  pub all_of_few : Few M s → OfAll M exact_entries s
  all_of_few f = record { counts = f.counts; counted = f.counted; within = f.within }

  pub few_of_all : OfAll M exact_entries s → Few M s
  few_of_all f = record { counts = f.counts; counted = f.counted; within = f.within }

-- Every join of a step is exact ----------------------------------------------------------------------------------------------------

module _ {E S V : Type 0} {M : Model E S} (laws : Laws M) {s : Sheet V S} (sound : Sound s) {m : ℕ} (f : OfAll M m s) where
  pub joins_exact : m ≤ exact_entries → JoinsExact M s
  joins_exact most = record {
    onto_base = λ y w h. together _ _ f.counted.base_of (own_of laws k y w) (base_own sound_c y (below y h));
    with_pair = λ y x w u p.
        together _ _ (own_of laws k y w) (both_of laws k y x w u) (own_both sound_c y x (first y x p) (second y x p));
    onto_partner = λ y x w u p.
        together _ _ (own_of laws k x u) (both_of laws k y x w u) (omega (arith, own_onto sound_c y x (first y x p) (second y x p) (partner_other sound y x p)));
    onto_one = λ y x w u p.
        together _ _ (own_of laws k x u) (with_one_of laws k y x u w) (own_onto sound_c y x (first y x p) (second y x p) (partner_other sound y x p));
    with_second = λ y x z w u t p q o.
        together _ _ (with_one_of laws k y x u w) (both_of laws k y z w t) (omega (arith, with_both sound_c y x z (first y x p) o (second y z q)));
    onto_two = λ y x z w u t p q o.
        together _ _ (two_score_of laws (f.counts.two x z) (s.two x z) (k.two_of x z) u t) (with_two_of laws k y x z u t w)
        (omega (
          arith,
          with_both sound_c y x z (first y x p) o (second y z q),
          two_other sound_c y x z (second y x p) (second y z q) (partner_other sound y x p) (partner_other sound y z q),
        ));
  }
    where
      k : Counts M f.counts s
      k = f.counted

      sound_c : Sound f.counts
      sound_c = counted_sound laws k sound

      below : (y : ℕ) → remains s y ≡ true → y < f.counts.size
      below y h = sound_c.below y (counted_remains laws k y ∙ h)

      second : (y x : ℕ) → partners s y x ≡ true → x < f.counts.size
      second y x p = below x (partner_remains sound y x p)

      first : (y x : ℕ) → partners s y x ≡ true → y < f.counts.size
      first y x p = below y (partner_remains sound x y (partners_turned s x y ∙ p))

      together : {a b : S} (m n : ℕ) → Of M m a → Of M n b → m + n ≤ entries f.counts → Together M a b
      together m n p q h =
          record { left = m; right = n; within = omega (arith, h, f.within, most); of_left = p; of_right = q }

  -- No step makes the entries more -------------------------------------------------------------------------------------------------

  few_by : {s' : Sheet V S} (c' : Sheet Single ℕ) → Counts M c' s' → entries f.counts ≡ entries c' → OfAll M m s'
  few_by c' k e = record { counts = c'; counted = k; within = omega (arith, e, f.within) }

  pub removal_few : {vs : Values V} {n : Note V} {s' : Sheet V S} → Removal M vs s n s' → OfAll M m s'
  removal_few {vs} (leaves_alone y h) =
      let k = f.counted in
      few_by (left_alone numbers single y f.counts)
      (onto_base_counts laws (without_counts laws k y) _ _ (own_of laws k y (choose M vs y (own M s y))))
      ((alone_keeps numbers_laws single (counted_sound laws k sound) y (counted_remains laws k y ∙ h.there)
      (counted_degree laws k y ∙ h.partners_are)).attained (λ _. tt))
  removal_few {vs} (leaves_by_one y x h p) =
      let k = f.counted in
      few_by (left_one numbers single y x f.counts)
      (onto_one_counts laws (without_counts laws k y) x _ _ (λ u. with_one_of laws k y x u (choose M vs y (with_one M s y x u))))
      ((one_keeps numbers_laws single (counted_sound laws k sound) y (counted_remains laws k y ∙ h.there) x
      (counted_degree laws k y ∙ h.partners_are) (counted_partners laws k y x ∙ p)).attained (λ _. tt))
  removal_few {vs} (leaves_by_two y x z h p q o) =
      let k = f.counted in
      few_by (left_two numbers single y x z f.counts)
      (onto_two_counts laws (without_counts laws k y) x z _ _ (λ u t. with_two_of laws k y x z u t (choose M vs y (with_two M s y x z u t))))
      ((two_keeps numbers_laws single (counted_sound laws k sound) y (counted_remains laws k y ∙ h.there) x z
      (counted_degree laws k y ∙ h.partners_are) (counted_partners laws k y x ∙ p) (counted_partners laws k y z ∙ q) o).attained (λ _. tt))

  pub set_few : (y : ℕ) → y < s.size → (u : V) → OfAll M m (left_set M y u s)
  set_few y h u =
      few_by (left_set numbers y tt f.counts) (set_counts laws f.counted y u)
      (sym (value_set numbers_laws (counted_sound laws f.counted sound) y (subst (λ n. y < n) (sym f.counted.size_is) h) tt (λ _. tt)))

module _ {E S V : Type 0} {M : Model E S} (laws : Laws M) (pins : ℕ → Option V) {s : Sheet V S} (sound : Sound s) {m : ℕ} (f : OfAll M m s) where
  pub pinned_few : (k : ℕ) → k ≤ s.size → OfAll M m (pinned M pins k s)
  pinned_few zero h = f
  pinned_few (suc k) h = step (pins k) (pinned_few k (omega arith))
    where
      step : (o : Option V) → OfAll M m (pinned M pins k s) → OfAll M m (set_pin M k o (pinned M pins k s))
      step None ih = ih
      step (Some u) ih =
          set_few laws (pinned_sound M pins s sound k) ih k (subst (λ n. k < n) (sym (pinned_size M pins s k)) h) u
