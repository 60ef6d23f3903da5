-- The steps leave no choice: there is one outcome at most. Assumes nothing.
use Rattle.std.proofs.Common.{◌≡◌, ℕ, suc, ◌+◌, ◌<◌, ◌≤◌, true, ◌⊎◌, List, ◌∷◌, is_some, Option, sym, refl, ap, subst, ap₂, subst₂, inl, inr, ⊎_elim, arith}
use Rattle.std.proofs.lemmas.Bool.{both_ways, cases_eq, cases_order}
use Rattle.score.specs.Model.{Model}
use Rattle.steps.specs.Sheet.{Sheet, Sound, remains, partners, degree}
use Rattle.steps.specs.Change.{Values, choose, own, with_one, with_two, left_alone, left_one, left_two}
use Rattle.steps.specs.Steps.{Note, noted, alone, by_one, by_two, Least, Most, Removal, leaves_alone, leaves_by_one, leaves_by_two, Held, Task, whole, sides, Explored, leaf, removal, drop, split, finished, side}
use Rattle.steps.proofs.Removals.{one_partner, two_partners, removal_sound, set_sound}
use Rattle.steps.proofs.Explorations.{Fit}

module _ {V S : Type 0} {s : Sheet V S} where
  pub least_once : {r y r' y' : ℕ} → Least s r y → Least s r' y' → (r ≡ r') × (y ≡ y')
  least_once {r} {y} {r'} {y'} h k = (ranks, ⊎_elim (λ e. e) (⊎_elim lower higher) (cases_order y y'))
    where
      ranks : r ≡ r'
      ranks = omega (arith, h.least y' k.there, k.least y h.there, h.partners_are, k.partners_are)

      lower : y < y' → y ≡ y'
      lower o = absurd (omega (arith, k.lowest y h.there o, h.partners_are, ranks))

      higher : y' < y → y ≡ y'
      higher o = absurd (omega (arith, h.lowest y' k.there o, k.partners_are, ranks))

  pub most_once : {y y' : ℕ} → Most s y → Most s y' → y ≡ y'
  most_once {y} {y'} h k = ⊎_elim (λ e. e) (⊎_elim lower higher) (cases_order y y')
    where
      lower : y < y' → y ≡ y'
      lower o = absurd (omega (arith, k.lowest y h.there o, h.most y' k.there))

      higher : y' < y → y ≡ y'
      higher o = absurd (omega (arith, h.lowest y' k.there o, k.most y h.there))

  -- two that differ in their number of partners are not both the first to leave
  ranks_differ : {X : Type 0} {r r' y y' : ℕ} → Least s r y → Least s r' y' → (r ≡ r' → ⊥) → X
  ranks_differ h k d = absurd (d (least_once h k).0)

-- the partners of a variable with one or two
module _ {V S : Type 0} {s : Sheet V S} (sound : Sound s) (y : ℕ) where
  same_partner : (x x' : ℕ) → degree s y ≡ 1 → partners s y x ≡ true → partners s y x' ≡ true → x ≡ x'
  same_partner x x' e p q =
      ⊎_elim (λ r. sym r) (λ d. absurd (both_ways (partners s y x') (ap is_some (one_partner sound y x x' e p d)) q)) (cases_eq x' x)

  either_partner : (x z v : ℕ) → degree s y ≡ 2 → partners s y x ≡ true → partners s y z ≡ true → x < z
      → partners s y v ≡ true → (v ≡ x) ⊎ (v ≡ z)
  either_partner x z v e p q order h = ⊎_elim inl (λ d. ⊎_elim inr (λ f. absurd (none d f)) (cases_eq v z)) (cases_eq v x)
    where
      none : (v ≡ x → ⊥) → (v ≡ z → ⊥) → ⊥
      none d f = both_ways (partners s y v) (ap is_some (two_partners sound y x z v e p q order d f)) h

  same_partners : (x z x' z' : ℕ) → degree s y ≡ 2 → partners s y x ≡ true → partners s y z ≡ true → x < z
      → partners s y x' ≡ true → partners s y z' ≡ true → x' < z' → (x ≡ x') × (z ≡ z')
  same_partners x z x' z' e p q order p' q' order' =
      let first = either_partner x z x' e p q order p' in
      let second = either_partner x z z' e p q order q' in
      (omega (arith, first, second), omega (arith, first, second))

module _ {E S : Type 0} {M : Model E S} {V : Type 0} (vs : Values V) {s : Sheet V S} (sound : Sound s) where
  -- a removal takes a variable with at most two partners
  pub removal_of : {m : Note V} {s' : Sheet V S} → Removal M vs s m s' → (remains s m.variable ≡ true) × (degree s m.variable ≤ 2)
  removal_of (leaves_alone y h) = (h.there, omega (arith, h.partners_are))
  removal_of (leaves_by_one y x h p) = (h.there, omega (arith, h.partners_are))
  removal_of (leaves_by_two y x z h p q order) = (h.there, omega (arith, h.partners_are))

  pub removal_once : {m m' : Note V} {s' s'' : Sheet V S} → Removal M vs s m s' → Removal M vs s m' s'' → (m ≡ m') × (s' ≡ s'')
  removal_once (leaves_alone y h) (leaves_alone y' k) =
      let e = (least_once h k).1 in
      (ap (λ y. noted y (alone (choose M vs y (own M s y)))) e, ap (λ y. left_alone M vs y s) e)
  removal_once (leaves_alone y h) (leaves_by_one y' x' k p') = ranks_differ h k (omega arith)
  removal_once (leaves_alone y h) (leaves_by_two y' x' z' k p' q' o') = ranks_differ h k (omega arith)
  removal_once (leaves_by_one y x h p) (leaves_alone y' k) = ranks_differ h k (omega arith)
  removal_once (leaves_by_one y x h p) (leaves_by_one y' x' k p') =
      let e = (least_once h k).1 in
      let f = same_partner sound y x x' h.partners_are p (subst (λ v. partners s v x' ≡ true) (sym e) p') in
      (ap₂ (λ y x. noted y (by_one x (λ u. choose M vs y (with_one M s y x u)))) e f, ap₂ (λ y x. left_one M vs y x s) e f)
  removal_once (leaves_by_one y x h p) (leaves_by_two y' x' z' k p' q' o') = ranks_differ h k (omega arith)
  removal_once (leaves_by_two y x z h p q o) (leaves_alone y' k) = ranks_differ h k (omega arith)
  removal_once (leaves_by_two y x z h p q o) (leaves_by_one y' x' k p') = ranks_differ h k (omega arith)
  removal_once (leaves_by_two y x z h p q o) (leaves_by_two y' x' z' k p' q' o') =
      let e = (least_once h k).1 in
      let f = same_partners sound y x z x' z' h.partners_are p q o (subst (λ v. partners s v x' ≡ true) (sym e) p') (subst (λ v. partners s v z' ≡ true) (sym e) q') o' in (
        (λ i. noted (e i) (by_two (f.0 i) (f.1 i) (λ u t. choose M vs (e i) (with_two M s (e i) (f.0 i) (f.1 i) u t)))),
        (λ i. left_two M vs (e i) (f.0 i) (f.1 i) s),
      )

module _ {E S : Type 0} {M : Model E S} {V : Type 0} (vs : Values V) (rule : Sheet V S → Option S) where
  pub once : {t : Task V S} {notes : List (Note V)} {old new new' : Option (Held V S)} {k k' : ℕ}
      → Fit t → Explored M vs rule t notes old new k → Explored M vs rule t notes old new' k' → (new ≡ new') × (k ≡ k')
  once sound (leaf s notes old none) (leaf _ _ _ none') = (refl, refl)
  once sound (leaf s notes old none) (removal _ _ _ {m = m} r rest) =
      absurd (both_ways (remains s m.variable) (none m.variable) (removal_of vs sound r).0)
  once sound (leaf s notes old none) (drop _ _ _ y there stuck e) = absurd (both_ways (remains s y) (none y) there)
  once sound (leaf s notes old none) (split _ _ _ y most stuck e rest) = absurd (both_ways (remains s y) (none y) most.there)
  once sound (removal s notes old {m = m} r rest) (leaf _ _ _ none) =
      absurd (both_ways (remains s m.variable) (none m.variable) (removal_of vs sound r).0)
  once sound (removal s notes old {m = m} {s' = s'} r rest) (removal _ _ _ {m = m'} {s' = s''} {new = new'} {k = k'} r' rest') =
      let e = removal_once vs sound r' r in
      once (removal_sound sound r) rest
      (subst₂ (λ m s. Explored M vs rule (whole s) (m ∷ notes) old new' k') e.0 e.1 rest')
  once sound (removal s notes old {m = m} r rest) (drop _ _ _ y there stuck e) =
      let few = removal_of vs sound r in absurd (omega (arith, few.1, stuck m.variable few.0))
  once sound (removal s notes old {m = m} r rest) (split _ _ _ y most stuck e rest') =
      let few = removal_of vs sound r in absurd (omega (arith, few.1, stuck m.variable few.0))
  once sound (drop s notes old y there stuck e) (leaf _ _ _ none) = absurd (both_ways (remains s y) (none y) there)
  once sound (drop s notes old y there stuck e) (removal _ _ _ {m = m} r rest) =
      let few = removal_of vs sound r in absurd (omega (arith, few.1, stuck m.variable few.0))
  once sound (drop s notes old y there stuck e) (drop _ _ _ y' there' stuck' e') = (refl, refl)
  once sound (drop s notes old y there stuck e) (split _ _ _ y' most stuck' e' rest') = absurd (both_ways _ e' e)
  once sound (split s notes old y most stuck e rest) (leaf _ _ _ none) = absurd (both_ways (remains s y) (none y) most.there)
  once sound (split s notes old y most stuck e rest) (removal _ _ _ {m = m} r rest') =
      let few = removal_of vs sound r in absurd (omega (arith, few.1, stuck m.variable few.0))
  once sound (split s notes old y most stuck e rest) (drop _ _ _ y' there stuck' e') = absurd (both_ways _ e e')
  once sound (split s notes old y most stuck e rest) (split _ _ _ {new = new'} {k = k'} y' most' stuck' e' rest') =
      let same = once (sound, sound.below y most.there) rest
      (subst (λ v. Explored M vs rule (sides v vs.each s) notes old new' k') (most_once most' most) rest') in
      (same.0, ap suc same.1)
  once sound (finished y s notes old) (finished _ _ _ _) = (refl, refl)
  once sound (side y c cs s notes old first rest) (side _ _ _ _ _ _ {new = new'} {k = k'} first' rest') =
      let front = once (set_sound M sound.0 y c) first first' in
      let back = once sound rest (subst (λ h. Explored M vs rule (sides y cs s) notes h new' k') (sym front.0) rest') in
      (back.0, ap₂ ◌+◌ front.1 back.1)
