-- Scores of records joined one after the other: what they come to, and how many entries they are of. Assumes nothing.
use Rattle.std.proofs.Common.{◌≡◌, ℕ, zero, suc, ◌-◌, ◌≤◌, Bool, true, false, cond, ◌&&◌, eqb, List, [], ◌∷◌, ◌++◌, map, length, Some, None, Option, sym, refl, ap, ◌∙◌, subst, ap₂, ⊎_elim, arith}
use Rattle.std.specs.List.{AllByRecursion, slice_get}
use Rattle.std.proofs.lemmas.Bool.{cases_Bool, cond-true, cond-false, and_parts, eqb-true}
use Rattle.score.specs.Joins.{Within, Joining}
use Rattle.score.specs.Model.{Model, Laws, Of, Together, joined, exact_entries}
use Rattle.score.proofs.Entries.{of_none, of_sum}
use Rattle.score.proofs.Joins.{joining_end, joining_together, joining_next}
use Rattle.steps.specs.Sheet.{over, numbers}
use Rattle.steps.proofs.Joins.{unit_right, over_same, over_neutral, over_join_two, over_two_neutral, over_join, over_only, only, total, total_pair}
use Rattle.records.specs.declared.pairs.Pair.{Pair}
use Rattle.score.specs.declared.values.Two.{Two}
use Rattle.sheets.specs.declared.variables.Var.{Var}
use Rattle.sheets.specs.declared.variables.Var.TheVariants.{Remains, Left}
use Rattle.records.specs.Pairs.{is_pair}
use Rattle.worksheet.specs.Records.{found, Placed, Apart}
use Rattle.std.proofs.lemmas.Option.{slice_get_within}
use Rattle.worksheet.proofs.Partners.{found_here}

-- Held scores joined one after the other -----------------------------------------------------------------------------------------------

abbrev pub run : {K : Type 0} → (K → K → K) → K → List K → K
run J k [] = k
run J k (x ∷ xs) = run J (J k x) xs

pub run_append : {K : Type 0} (J : K → K → K) (xs ys : List K) (k : K) → run J k (xs ++ ys) ≡ run J (run J k xs) ys
run_append J [] ys k = refl
run_append J (x ∷ xs) ys k = run_append J xs ys (J k x)

module _ {E S K : Type 0} (M : Model E S) (laws : Laws M) (means : K → S) (J : K → K → K)
    (exact : (a b : K) → Together M (means a) (means b) → means (J a b) ≡ M.join (means a) (means b)) where
  run_joins : (xs : List K) (k : K) (whole : S) → Joining M (map means xs) whole (means k) → means (run J k xs) ≡ whole
  run_joins [] k whole j = joining_end M laws whole (means k) j
  run_joins (x ∷ xs) k whole j =
      let e : means (J k x) ≡ M.join (means k) (means x) = exact k x (joining_together M laws (means x) (map means xs) whole (means k) j) in
      run_joins xs (J k x) whole (subst (Joining M (map means xs) whole) (sym e) (joining_next M laws (means x) (map means xs) whole (means k) j))

  -- within the entries that a kind joins exactly
  pub run_exact : (xs : List K) (k : K) (m : ℕ) → m ≤ exact_entries → Of M m (means k) → Within M (exact_entries - m) (map means xs)
      → means (run J k xs) ≡ M.join (means k) (joined M (map means xs))
  run_exact xs k m room of within = run_joins xs k _ (record { entries = m; room = room; so_far = of; to_come = within; sums = refl })

-- Counts and scores side by side -------------------------------------------------------------------------------------------------------

abbrev pub Ofs : {E S : Type 0} → Model E S → List ℕ → List S → Type 0
Ofs M [] [] = Unit {0}
Ofs M [] (x ∷ xs) = ⊥
Ofs M (k ∷ ks) [] = ⊥
Ofs M (k ∷ ks) (x ∷ xs) = Of M k x × Ofs M ks xs

module _ {E S : Type 0} (M : Model E S) where
  pub ofs_append : (ks : List ℕ) (xs : List S) (ls : List ℕ) (ys : List S) → Ofs M ks xs → Ofs M ls ys → Ofs M (ks ++ ls) (xs ++ ys)
  ofs_append [] [] ls ys p q = q
  ofs_append [] (x ∷ xs) ls ys p q = absurd p
  ofs_append (k ∷ ks) [] ls ys p q = absurd p
  ofs_append (k ∷ ks) (x ∷ xs) ls ys p q = (p.0, ofs_append ks xs ls ys p.1 q)

  pub within_ofs : (ks : List ℕ) (xs : List S) (m : ℕ) → Ofs M ks xs → joined numbers ks ≤ m → Within M m xs
  within_ofs [] [] m p h = tt
  within_ofs [] (x ∷ xs) m p h = absurd p
  within_ofs (k ∷ ks) [] m p h = absurd p
  within_ofs (k ∷ ks) (x ∷ xs) m p h = (k, omega (arith, h), p.0, within_ofs ks xs (m - k) p.1 (omega (arith, h)))

-- Over the variables -------------------------------------------------------------------------------------------------------------------

module _ {K T : Type 0} where
  -- f of each variable that remains and its number
  abbrev pub of_vars : (ℕ → Two K → T) → List (Var K) → List T
  of_vars f [] = []
  of_vars f (Remains r ∷ rs) = f 0 r ∷ of_vars (λ v. f (suc v)) rs
  of_vars f (Left r ∷ rs) = of_vars (λ v. f (suc v)) rs

  abbrev pub of_var : T → (Two K → T) → Option (Var K) → T
  of_var n f None = n
  of_var n f (Some (Remains r)) = f r
  of_var n f (Some (Left r)) = n

module _ {E S : Type 0} (M : Model E S) (laws : Laws M) where
  over_front : (n : ℕ) (f : ℕ → S) → over M (suc n) f ≡ M.join (f 0) (over M n (λ v. f (suc v)))
  over_front zero f = laws.unit (f 0) ∙ sym (unit_right laws (f 0))
  over_front (suc n) f = ap (λ x. M.join x (f (suc n))) (over_front n f) ∙ laws.assoc (f 0) (over M n (λ v. f (suc v))) (f (suc n))

module _ {K E S : Type 0} (M : Model E S) (laws : Laws M) where
  pub vars_joined : (vs : List (Var K)) (f : ℕ → Two K → S) → joined M (of_vars f vs) ≡ over M (length vs) (λ v. of_var M.neutral (f v) (slice_get vs v))
  vars_joined [] f = refl
  vars_joined (Remains r ∷ rs) f =
      ap (M.join (f 0 r)) (vars_joined rs (λ v. f (suc v)))
      ∙ sym (over_front M laws (length rs) (λ v. of_var M.neutral (f v) (slice_get (Remains r ∷ rs) v)))
  vars_joined (Left r ∷ rs) f =
      vars_joined rs (λ v. f (suc v)) ∙ sym (over_front M laws (length rs) (λ v. of_var M.neutral (f v) (slice_get (Left r ∷ rs) v)) ∙ laws.unit _)

  pub vars_of : (vs : List (Var K)) (k : ℕ → ℕ) (f : ℕ → Two K → S) → ((v : ℕ) (r : Two K) → slice_get vs v ≡ Some (Remains r) → Of M (k v) (f v r))
      → Ofs M (of_vars (λ v _. k v) vs) (of_vars f vs)
  vars_of [] k f h = tt
  vars_of (Remains r ∷ rs) k f h = (h 0 r refl, vars_of rs (λ v. k (suc v)) (λ v. f (suc v)) (λ v. h (suc v)))
  vars_of (Left r ∷ rs) k f h = vars_of rs (λ v. k (suc v)) (λ v. f (suc v)) (λ v. h (suc v))

-- Over the pairs -----------------------------------------------------------------------------------------------------------------------

abbrev pub of_pair : {K T : Type 0} → T → (Pair K → T) → Option (Pair K) → T
of_pair n g None = n
of_pair n g (Some p) = g p

module _ {K : Type 0} where
  pub found_keys : (ps : List (Pair K)) (a b : ℕ) (p : Pair K) → found a b ps ≡ Some p → (a ≡ p.low) × (b ≡ p.high)
  found_keys [] a b p e = absurd cc
  found_keys (q ∷ qs) a b p e =
      ⊎_elim
      (λ (t : is_pair a b q ≡ true).
      let s : Some q ≡ Some p = sym (cond-true (is_pair a b q) (Some q) (found a b qs) t) ∙ e in
      let same : q ≡ p = cc in
      let k = and_parts (eqb a q.low) (eqb b q.high) t in
      (eqb-true a q.low k.0 ∙ ap (λ x. x.low) same, eqb-true b q.high k.1 ∙ ap (λ x. x.high) same))
      (λ (t : is_pair a b q ≡ false). found_keys qs a b p (sym (cond-false (is_pair a b q) (Some q) (found a b qs) t) ∙ e))
      (cases_Bool (is_pair a b q))

  -- each record is the one that is found
  pub all_found : (ps : List (Pair K)) → Apart ps → AllByRecursion (λ p. found p.low p.high ps ≡ Some p) ps
  all_found [] a = tt
  all_found (p ∷ ps) a = (found_here p.low p.high p ps refl refl, on ps (all_found ps a.1))
    where
      on : (qs : List (Pair K)) → AllByRecursion (λ q. found q.low q.high ps ≡ Some q) qs → AllByRecursion (λ q. found q.low q.high (p ∷ ps) ≡ Some q) qs
      on [] h = tt
      on (q ∷ qs) h = (
        ⊎_elim
            (λ (t : is_pair q.low q.high p ≡ true).
            let k = and_parts (eqb q.low p.low) (eqb q.high p.high) t in
            let z : None ≡ Some q = sym a.0 ∙ ap (λ y. found y p.high ps) (sym (eqb-true q.low p.low k.0)) ∙ ap (λ y. found q.low y ps) (sym (eqb-true q.high p.high k.1)) ∙ h.0 in
            absurd cc)
            (λ (t : is_pair q.low q.high p ≡ false). cond-false (is_pair q.low q.high p) (Some p) (found q.low q.high ps) t ∙ h.0)
            (cases_Bool (is_pair q.low q.high p)),
        on qs h.1,
      )

module _ {K E S : Type 0} (M : Model E S) (laws : Laws M) (g : Pair K → S) where
  pub pairs_joined : (vs : List (Var K)) (ps : List (Pair K)) → AllByRecursion (Placed vs) ps → Apart ps
      → joined M (map g ps) ≡ over M (length vs) (λ a. over M (length vs) (λ b. of_pair M.neutral g (found a b ps)))
  pairs_joined vs [] h a = sym (over_two_neutral laws (length vs))
  pairs_joined vs (p ∷ ps) h a =
      let n = length vs in
      let only_p : ℕ → ℕ → S = λ x z. cond (eqb x p.low && eqb z p.high) (g p) M.neutral in
      let rest_p : ℕ → ℕ → S = λ x z. of_pair M.neutral g (found x z ps) in
      ap₂ M.join
      (sym (single n only_p ∙ total_pair laws n p.low p.high (g p) (slice_get_within vs p.low (Remains h.0.low_present.0) h.0.low_present.1) (slice_get_within vs p.high (Remains h.0.high_present.0) h.0.high_present.1)))
      (pairs_joined vs ps h.1 a.1)
      ∙ sym (over_join_two laws n only_p rest_p)
      ∙ sym (over_same laws n _ _ (λ x. over_same laws n _ _ (λ z. parts x z)))
    where
      single : (n : ℕ) (t : ℕ → ℕ → S) → over M n (λ x. over M n (t x)) ≡ total M n M.neutral (λ _. M.neutral) t
      single n t = sym (laws.unit _ ∙ ap (λ x. M.join x (over M n (λ x. over M n (t x)))) (over_neutral laws n) ∙ laws.unit _)

      parts : (x z : ℕ) → of_pair M.neutral g (found x z (p ∷ ps)) ≡ M.join (cond (is_pair x z p) (g p) M.neutral) (of_pair M.neutral g (found x z ps))
      parts x z =
          ⊎_elim
          (λ (t : is_pair x z p ≡ true).
          let k = and_parts (eqb x p.low) (eqb z p.high) t in
          let none : found x z ps ≡ None = ap (λ y. found y z ps) (eqb-true x p.low k.0) ∙ ap (λ y. found p.low y ps) (eqb-true z p.high k.1) ∙ a.0 in
          ap (of_pair M.neutral g) (cond-true (is_pair x z p) (Some p) (found x z ps) t)
          ∙ sym (ap₂ M.join (cond-true (is_pair x z p) (g p) M.neutral t) (ap (of_pair M.neutral g) none) ∙ unit_right laws (g p)))
          (λ (t : is_pair x z p ≡ false).
          ap (of_pair M.neutral g) (cond-false (is_pair x z p) (Some p) (found x z ps) t)
          ∙ sym (ap (λ y. M.join y (of_pair M.neutral g (found x z ps))) (cond-false (is_pair x z p) (g p) M.neutral t) ∙ laws.unit _))
          (cases_Bool (is_pair x z p))

  pub pairs_of_counts : (k : Pair K → ℕ) (ps : List (Pair K)) → AllByRecursion (λ p. Of M (k p) (g p)) ps → Ofs M (map k ps) (map g ps)
  pairs_of_counts k [] h = tt
  pairs_of_counts k (p ∷ ps) h = (h.0, pairs_of_counts k ps h.1)

-- Over the pairs of a lower variable ---------------------------------------------------------------------------------------------------

-- g of each pair of which v is the lower
abbrev pub row : {K T : Type 0} → (Pair K → T) → ℕ → List (Pair K) → List T
row g v [] = []
row g v (p ∷ ps) = cond (eqb v p.low) (g p ∷ row g v ps) (row g v ps)

module _ {K E S : Type 0} (M : Model E S) (laws : Laws M) (g : Pair K → S) where
  pub row_joined : (vs : List (Var K)) (v : ℕ) (ps : List (Pair K)) → AllByRecursion (Placed vs) ps → Apart ps
      → joined M (row g v ps) ≡ over M (length vs) (λ c. of_pair M.neutral g (found v c ps))
  row_joined vs v [] h a = sym (over_neutral laws (length vs))
  row_joined vs v (p ∷ ps) h a =
      let rest = row_joined vs v ps h.1 a.1 in
      go (eqb v p.low) refl rest
    where
      go : (t : Bool) → eqb v p.low ≡ t → joined M (row g v ps) ≡ over M (length vs) (λ c. of_pair M.neutral g (found v c ps))
          → joined M (cond t (g p ∷ row g v ps) (row g v ps)) ≡ over M (length vs) (λ c. of_pair M.neutral g (cond (eqb v p.low && eqb c p.high) (Some p) (found v c ps)))
      go true e rest =
          ap₂ M.join (sym (over_only laws (length vs) p.high (g p) (slice_get_within vs p.high (Remains h.0.high_present.0) h.0.high_present.1))) rest
          ∙ sym (over_join laws (length vs) (only M p.high (g p)) (λ c. of_pair M.neutral g (found v c ps)))
          ∙ sym (over_same laws (length vs) _ _ (λ c. ap (λ t. of_pair M.neutral g (cond (t && eqb c p.high) (Some p) (found v c ps))) e ∙ part c (eqb c p.high) refl))
        where
          part : (c : ℕ) (t : Bool) → eqb c p.high ≡ t → of_pair M.neutral g (cond t (Some p) (found v c ps)) ≡ M.join (cond t (g p) M.neutral) (of_pair M.neutral g (found v c ps))
          part c true f =
              let none : found v c ps ≡ None = ap₂ (λ x y. found x y ps) (eqb-true v p.low e) (eqb-true c p.high f) ∙ a.0 in
              sym (ap (λ o. M.join (g p) (of_pair M.neutral g o)) none ∙ unit_right laws (g p))
          part c false f = sym (laws.unit _)
      go false e rest = rest ∙ over_same laws (length vs) _ _ (λ c. sym (ap (λ t. of_pair M.neutral g (cond (t && eqb c p.high) (Some p) (found v c ps))) e))

  pub row_of_counts : (k : Pair K → ℕ) (v : ℕ) (ps : List (Pair K)) → AllByRecursion (λ p. Of M (k p) (g p)) ps → Ofs M (row k v ps) (row g v ps)
  row_of_counts k v [] h = tt
  row_of_counts k v (p ∷ ps) h = go (eqb v p.low) (row_of_counts k v ps h.1)
    where
      go : (t : Bool) → Ofs M (row k v ps) (row g v ps) → Ofs M (cond t (k p ∷ row k v ps) (row k v ps)) (cond t (g p ∷ row g v ps) (row g v ps))
      go true rest = (h.0, rest)
      go false rest = rest

module _ {E S : Type 0} (M : Model E S) (laws : Laws M) where
  pub ofs_joined : (ks : List ℕ) (xs : List S) → Ofs M ks xs → Of M (joined numbers ks) (joined M xs)
  ofs_joined [] [] h = of_none M
  ofs_joined [] (x ∷ xs) h = absurd h
  ofs_joined (k ∷ ks) [] h = absurd h
  ofs_joined (k ∷ ks) (x ∷ xs) h = of_sum M laws k (joined numbers ks) x (joined M xs) h.0 (ofs_joined ks xs h.1)
