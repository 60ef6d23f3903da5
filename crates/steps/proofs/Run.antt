-- The steps carried out: there is always an outcome. Assumes nothing.
use Rattle.std.proofs.Common.{◌≡◌, ℕ, zero, suc, ◌+◌, ◌-◌, ◌<◌, ◌≤◌, Bool, true, false, cond, ◌&&◌, eqb, ltb, List, [], ◌∷◌, is_some, Some, None, Option, sym, refl, ◌∙◌, subst, ⊎_elim, arith}
use Rattle.std.proofs.lemmas.Bool.{both_ways, ltb-true, ltb-false, cases_eq, cases_lt, and_parts, and_cases}
use Rattle.score.specs.Model.{Model}
use Rattle.steps.specs.Sheet.{Sheet, Sound, remains, partners, degree, remaining, count}
use Rattle.steps.specs.Change.{Values, choose, without, own, with_one, with_two, left_alone, left_one, left_two, left_set}
use Rattle.steps.specs.Steps.{Note, noted, alone, by_one, by_two, set_to, read, Least, Most, Stuck, Removal, leaves_alone, leaves_by_one, leaves_by_two, Held, holding, better_held, dropped, whole, sides, Explored, leaf, removal, drop, split, finished, side}
use Rattle.steps.specs.Claims.{Outcome}
use Rattle.steps.proofs.Counting.{but, but_parts, count_one, count_none, count_same, count_zero, count_size}
use Rattle.steps.proofs.Removals.{onto_one_remains, set_remains, removal_sound, set_sound}

-- The first of the least -----------------------------------------------------------------------------------------------------------

abbrev earlier : (ℕ → ℕ) → (ℕ → Bool) → ℕ → Option ℕ → Option ℕ
earlier d p n None = cond (p n) (Some n) None
earlier d p n (Some y) = cond (p n && ltb (d n) (d y)) (Some n) (Some y)

-- of those below n that pass the test, the lowest of those with the least d
abbrev pub earliest : (ℕ → ℕ) → (ℕ → Bool) → ℕ → Option ℕ
earliest d p zero = None
earliest d p (suc n) = earlier d p n (earliest d p n)

record Earliest (d : ℕ → ℕ) (p : ℕ → Bool) (n y : ℕ) : Type 0 where
  below : y < n
  passes : p y ≡ true
  least : (x : ℕ) → x < n → p x ≡ true → d y ≤ d x
  lowest : (x : ℕ) → p x ≡ true → x < y → d y < d x

abbrev Found : (ℕ → ℕ) → (ℕ → Bool) → ℕ → Option ℕ → Type 0
Found d p n None = (v : ℕ) → v < n → p v ≡ false
Found d p n (Some y) = Earliest d p n y

-- below one more, or the last
last_or : (P : ℕ → Type 0) (n : ℕ) → P n → ((v : ℕ) → v < n → P v) → (v : ℕ) → v < suc n → P v
last_or P n here below v h = ⊎_elim (λ e. subst P (sym e) here) (λ d. below v (omega arith)) (cases_eq v n)

found_more : (d : ℕ → ℕ) (p : ℕ → Bool) (n : ℕ) (o : Option ℕ) → Found d p n o → Found d p (suc n) (earlier d p n o)
found_more d p n None none = go (p n) refl
  where
    go : (b : Bool) → p n ≡ b → Found d p (suc n) (cond b (Some n) None)
    go true e = record {
      below = omega arith;
      passes = e;
      least = last_or (λ x. p x ≡ true → d n ≤ d x) n (λ _. omega arith) (λ v h k. absurd (both_ways (p v) (none v h) k));
      lowest = λ x k h. absurd (both_ways (p x) (none x h) k);
    }
    go false e = last_or (λ v. p v ≡ false) n e none
found_more d p n (Some y) f = go (p n && ltb (d n) (d y)) refl
  where
    go : (b : Bool) → (p n && ltb (d n) (d y)) ≡ b → Found d p (suc n) (cond b (Some n) (Some y))
    go true e =
        let parts = and_parts (p n) (ltb (d n) (d y)) e in
        let less = ltb-true (d n) (d y) parts.1 in
        record {
          below = omega arith;
          passes = parts.0;
          least = last_or (λ x. p x ≡ true → d n ≤ d x) n (λ _. omega arith) (λ v h k. omega (arith, f.least v h k));
          lowest = λ x k h. omega (arith, f.least x h k);
        }
    go false e = record {
      below = omega (arith, f.below);
      passes = f.passes;
      least = last_or (λ x. p x ≡ true → d y ≤ d x) n
          (λ k. ⊎_elim (λ r. absurd (both_ways (p n) r k)) (λ r. ltb-false (d n) (d y) r) (and_cases (p n) (ltb (d n) (d y)) e))
          f.least;
      lowest = f.lowest;
    }

found : (d : ℕ → ℕ) (p : ℕ → Bool) (n : ℕ) → Found d p n (earliest d p n)
found d p zero = λ v h. absurd (omega arith)
found d p (suc n) = found_more d p n (earliest d p n) (found d p n)

-- The next step --------------------------------------------------------------------------------------------------------------------

pub data Next (V S : Type 0) : Type 0 where
  -- no variable remains
  done : Next V S
  -- a removal, with its note and the sheet after it
  go_on : Note V → Sheet V S → Next V S
  -- none applies; the variable has most partners
  halt : ℕ → Next V S

module _ {E S V : Type 0} (M : Model E S) (vs : Values V) (s : Sheet V S) where
  abbrev by_second : ℕ → ℕ → Option ℕ → Next V S
  by_second y x None = done
  by_second y x (Some z) = go_on (noted y (by_two x z (λ u t. choose M vs y (with_two M s y x z u t)))) (left_two M vs y x z s)

  abbrev by_first : ℕ → Option ℕ → Next V S
  by_first y None = done
  by_first y (Some x) = by_second y x (earliest (λ _. 0) (but x (partners s y)) s.size)

  abbrev by_single : ℕ → Option ℕ → Next V S
  by_single y None = done
  by_single y (Some x) = go_on (noted y (by_one x (λ u. choose M vs y (with_one M s y x u)))) (left_one M vs y x s)

  abbrev by_most : Option ℕ → Next V S
  by_most None = done
  by_most (Some y) = halt y

  abbrev by_degree : ℕ → ℕ → Next V S
  by_degree y zero = go_on (noted y (alone (choose M vs y (own M s y)))) (left_alone M vs y s)
  by_degree y (suc zero) = by_single y (earliest (λ _. 0) (partners s y) s.size)
  by_degree y (suc (suc zero)) = by_first y (earliest (λ _. 0) (partners s y) s.size)
  by_degree y (suc (suc (suc r))) = by_most (earliest (λ v. s.size - degree s v) (remains s) s.size)

  abbrev by_least : Option ℕ → Next V S
  by_least None = done
  by_least (Some y) = by_degree y (degree s y)

  abbrev pub next : Next V S
  next = by_least (earliest (degree s) (remains s) s.size)

  -- what the next step is
  abbrev IsNext : Next V S → Type 0
  IsNext done = (v : ℕ) → remains s v ≡ false
  IsNext (go_on m s') = Removal M vs s m s'
  IsNext (halt y) = Most s y × Stuck s

module _ {E S V : Type 0} (M : Model E S) (vs : Values V) {s : Sheet V S} (sound : Sound s) where
  least_of : {y : ℕ} → Earliest (degree s) (remains s) s.size y → Least s (degree s y) y
  least_of f = record {
    there = f.passes;
    partners_are = refl;
    least = λ x h. f.least x (sound.below x h) h;
    lowest = λ x h k. f.lowest x h k;
  }

  -- a variable with partners has a first
  no_first : (y r : ℕ) → degree s y ≡ suc r → Found (λ _. 0) (partners s y) s.size None → ⊥
  no_first y r e none = omega (arith, count_zero s.size (partners s y) none)

  single_next : (y : ℕ) → Least s 1 y → (o : Option ℕ) → Found (λ _. 0) (partners s y) s.size o → IsNext M vs s (by_single M vs s y o)
  single_next y h None f = absurd (no_first y 0 h.partners_are f)
  single_next y h (Some x) f = leaves_by_one y x h f.passes

  second_next : (y x : ℕ) → Least s 2 y → Earliest (λ _. 0) (partners s y) s.size x
      → (o : Option ℕ) → Found (λ _. 0) (but x (partners s y)) s.size o → IsNext M vs s (by_second M vs s y x o)
  second_next y x h f None g =
      let p = partners s y in
      absurd (omega (arith, h.partners_are, count_zero s.size (but x p) g, count_one s.size x p f.below f.passes))
  second_next y x h f (Some z) g =
      let parts = but_parts (partners s y) x z g.passes in
      leaves_by_two y x z h f.passes parts.1
      (⊎_elim (λ k. k) (λ k. absurd (below parts.0 k (λ o. f.lowest z parts.1 o))) (cases_lt x z))
    where
      below : (z ≡ x → ⊥) → z ≤ x → (z < x → 0 < 0) → ⊥
      below d k l = omega (arith, l (omega arith))

  first_next : (y : ℕ) → Least s 2 y → (o : Option ℕ) → Found (λ _. 0) (partners s y) s.size o → IsNext M vs s (by_first M vs s y o)
  first_next y h None f = absurd (no_first y 1 h.partners_are f)
  first_next y h (Some x) f =
      second_next y x h f (earliest (λ _. 0) (but x (partners s y)) s.size) (found (λ _. 0) (but x (partners s y)) s.size)

  most_next : (y : ℕ) → Least s (degree s y) y → 3 ≤ degree s y
      → (o : Option ℕ) → Found (λ v. s.size - degree s v) (remains s) s.size o → IsNext M vs s (by_most M vs s o)
  most_next y h k None f = absurd (both_ways (remains s y) (f y (sound.below y h.there)) h.there)
  most_next y h k (Some z) f = (
    record {
      there = f.passes;
      most = λ x r. omega (arith, f.least x (sound.below x r) r, count_size s.size (partners s x), count_size s.size (partners s z));
      lowest = λ x r o. omega (arith, f.lowest x r o, count_size s.size (partners s x), count_size s.size (partners s z));
    },
    λ x r. omega (arith, h.least x r),
  )

  degree_next : (y : ℕ) → Least s (degree s y) y → (r : ℕ) → degree s y ≡ r → IsNext M vs s (by_degree M vs s y r)
  degree_next y h zero e = leaves_alone y (subst (λ r. Least s r y) e h)
  degree_next y h (suc zero) e =
      single_next y (subst (λ r. Least s r y) e h) (earliest (λ _. 0) (partners s y) s.size) (found (λ _. 0) (partners s y) s.size)
  degree_next y h (suc (suc zero)) e =
      first_next y (subst (λ r. Least s r y) e h) (earliest (λ _. 0) (partners s y) s.size) (found (λ _. 0) (partners s y) s.size)
  degree_next y h (suc (suc (suc r))) e =
      let d : ℕ → ℕ = λ v. s.size - degree s v in
      most_next y h (omega arith) (earliest d (remains s) s.size) (found d (remains s) s.size)

  pub is_next : IsNext M vs s (next M vs s)
  is_next = go (earliest (degree s) (remains s) s.size) (found (degree s) (remains s) s.size)
    where
      go : (o : Option ℕ) → Found (degree s) (remains s) s.size o → IsNext M vs s (by_least M vs s o)
      go None f = λ v. outside v (remains s v) refl
        where
          outside : (v : ℕ) (b : Bool) → remains s v ≡ b → b ≡ false
          outside v true e = sym e ∙ f v (sound.below v e)
          outside v false e = refl
      go (Some y) f = degree_next y (least_of f) (degree s y) refl

-- Fewer variables remain -----------------------------------------------------------------------------------------------------------

module _ {V S : Type 0} {s : Sheet V S} (sound : Sound s) where
  -- all but y
  fewer : (r : ℕ → Bool) (y : ℕ) → remains s y ≡ true → ((v : ℕ) → r v ≡ remains (without y s) v) → count s.size r < remaining s
  fewer r y there e =
      let parts = count_one s.size y (remains s) (sound.below y there) there in
      let same : count s.size r ≡ count s.size (but y (remains s)) = count_same s.size _ _ (λ v _. e v ∙ left v) in
      omega (arith, parts, same)
    where
      left : (v : ℕ) → remains (without y s) v ≡ but y (remains s) v
      left v = elim (eqb v y) as (λ b. is_some (cond b None (s.one v)) ≡ cond b false (remains s v)) [ true ↦ refl | false ↦ refl ]

  pub removal_fewer : {E : Type 0} {M : Model E S} {vs : Values V} {m : Note V} {s' : Sheet V S} → Removal M vs s m s' → remaining s' < remaining s
  removal_fewer (leaves_alone y h) = fewer _ y h.there (λ v. refl)
  removal_fewer {M = M} (leaves_by_one y x h p) = fewer _ y h.there (onto_one_remains M (without y s) x _)
  removal_fewer (leaves_by_two y x z h p q o) = fewer _ y h.there (λ v. refl)

  pub set_fewer : {E : Type 0} (M : Model E S) (y : ℕ) (c : V) → remains s y ≡ true → remaining (left_set M y c s) < remaining s
  set_fewer M y c there = fewer _ y there (set_remains M s y c)

-- The steps carried out ------------------------------------------------------------------------------------------------------------

pub record Ran (V S : Type 0) : Type 0 where
  pub new : Option (Held V S)
  pub splits : ℕ

-- one side after the other
abbrev each_side : {V S : Type 0} → (V → Option (Held V S) → Ran V S) → List V → Option (Held V S) → Ran V S
each_side f [] old = record { new = old; splits = 0 }
each_side f (c ∷ cs) old =
    let first = f c old in
    let rest = each_side f cs first.new in
    record { new = rest.new; splits = first.splits + rest.splits }

module _ {E S V : Type 0} (M : Model E S) (vs : Values V) (rule : Sheet V S → Option S) where
  abbrev at_halt : (Sheet V S → List (Note V) → Option (Held V S) → Ran V S) → Sheet V S → List (Note V) → Option (Held V S) → ℕ → Bool → Ran V S
  at_halt on s notes old y true = record { new = old; splits = 0 }
  at_halt on s notes old y false =
      let all = each_side (λ c h. on (left_set M y c s) (noted y (set_to c) ∷ notes) h) vs.each old in
      record { new = all.new; splits = suc all.splits }

  abbrev at_next : (Sheet V S → List (Note V) → Option (Held V S) → Ran V S) → Sheet V S → List (Note V) → Option (Held V S) → Next V S → Ran V S
  at_next on s notes old done = record { new = better_held M old (holding s.base (read notes vs.preferred)); splits = 0 }
  at_next on s notes old (go_on m s') = on s' (m ∷ notes) old
  at_next on s notes old (halt y) = at_halt on s notes old y (dropped M (rule s) old)

  -- at most n removals deep
  abbrev pub run : ℕ → Sheet V S → List (Note V) → Option (Held V S) → Ran V S
  run zero s notes old = record { new = better_held M old (holding s.base (read notes vs.preferred)); splits = 0 }
  run (suc n) s notes old = at_next (run n) s notes old (next M vs s)

  pub run_explored : (n : ℕ) (s : Sheet V S) (notes : List (Note V)) (old : Option (Held V S)) → Sound s → remaining s ≤ n
      → Explored M vs rule (whole s) notes old (run n s notes old).new (run n s notes old).splits
  run_explored zero s notes old sound few = leaf s notes old (λ v. go v (remains s v) refl)
    where
      go : (v : ℕ) (b : Bool) → remains s v ≡ b → b ≡ false
      go v true e = sym e ∙ count_none s.size (remains s) (omega arith) v (sound.below v e)
      go v false e = refl
  run_explored (suc n) s notes old sound few = step (λ s' notes old. run_explored n s' notes old) (next M vs s) (is_next M vs sound)
    where
      Goes : Sheet V S → List (Note V) → Option (Held V S) → Type 0
      Goes s' notes old = Explored M vs rule (whole s') notes old (run n s' notes old).new (run n s' notes old).splits

      each : (y : ℕ) (cs : List V) (old : Option (Held V S))
          → ((c : V) (h : Option (Held V S)) → Goes (left_set M y c s) (noted y (set_to c) ∷ notes) h)
          → let all = each_side (λ c h. run n (left_set M y c s) (noted y (set_to c) ∷ notes) h) cs old in
          Explored M vs rule (sides y cs s) notes old all.new all.splits
      each y [] old on = finished y s notes old
      each y (c ∷ cs) old on = side y c cs s notes old (on c old) (each y cs _ on)

      stop : (y : ℕ) → Most s y → Stuck s → ((c : V) (h : Option (Held V S)) → Goes (left_set M y c s) (noted y (set_to c) ∷ notes) h)
          → (b : Bool) → dropped M (rule s) old ≡ b
          → Explored M vs rule (whole s) notes old (at_halt (run n) s notes old y b).new (at_halt (run n) s notes old y b).splits
      stop y most stuck on true e = drop s notes old y most.there stuck e
      stop y most stuck on false e = split s notes old y most stuck e (each y vs.each old on)

      step : ((s' : Sheet V S) (notes : List (Note V)) (old : Option (Held V S)) → Sound s' → remaining s' ≤ n → Goes s' notes old)
          → (x : Next V S) → IsNext M vs s x
          → Explored M vs rule (whole s) notes old (at_next (run n) s notes old x).new (at_next (run n) s notes old x).splits
      step ih done none = leaf s notes old none
      step ih (go_on m s') r =
          removal s notes old r (ih s' (m ∷ notes) old (removal_sound sound r) (omega (arith, removal_fewer sound r)))
      step ih (halt y) f =
          stop y f.0 f.1 (λ c h. ih (left_set M y c s) (noted y (set_to c) ∷ notes) h (set_sound M sound y c) (omega (arith, set_fewer sound M y c f.0.there)))
          (dropped M (rule s) old) refl

  pub outcome : (s : Sheet V S) (notes : List (Note V)) (old : Option (Held V S)) → Sound s → Outcome M vs rule s notes old
  outcome s notes old sound = record {
    new = (run (remaining s) s notes old).new;
    splits = (run (remaining s) s notes old).splits;
    explored = run_explored (remaining s) s notes old sound (omega arith);
  }
