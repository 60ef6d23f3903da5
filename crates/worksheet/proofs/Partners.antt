-- The pairs of one variable among the records: who its partners are, and how many. Assumes nothing.
use Rattle.std.proofs.Common.{◌≡◌, ℕ, suc, ◌<◌, Bool, true, false, eqb, List, [], ◌∷◌, length, is_some, Some, None, Option, sym, refl, ap, ◌∙◌, subst, ⊎_elim, arith}
use mathlib.Core.Path.{fun_ext}
use Rattle.std.specs.Option.{option_map}
use Rattle.std.specs.List.{AllByRecursion}
use Rattle.std.proofs.lemmas.Bool.{eq-eqb, ne_eqb, cases_eq, cases_order, cond-true, cond-false, and_from, and_left, and_right}
use Rattle.steps.specs.Sheet.{pair, partners, turned, count, degree}
use Rattle.steps.proofs.Sheets.{some_mapped, pair_lower, pair_higher, pair_self}
use Rattle.steps.proofs.Counting.{but, count_one, count_same, count_zero}
use Rattle.score.specs.declared.values.Four.{Four}
use Rattle.records.specs.declared.pairs.Link.{Link}
use Rattle.records.specs.declared.pairs.Pair.{Pair}
use Rattle.sheets.specs.declared.variables.Var.{Var}
use Rattle.sheets.specs.declared.variables.Var.TheVariants.{Remains}
use Rattle.partners.specs.Links.{front, links, first_link}
use Rattle.score.specs.Values.{at_four, turned_four}
use Rattle.records.specs.Pairs.{link, link_of, is_pair}
use Rattle.worksheet.specs.Records.{found, pair_scores, link_scores, contents, Present, Placed, Apart}
use Rattle.std.proofs.lemmas.Option.{slice_get_within}

-- the lower variable first
abbrev pub LowFirst : {K : Type 0} → Pair K → Type 0
LowFirst p = p.low < p.high

turned_at : {T : Type 0} (f : Four T) (u w : Bool) → at_four f w u ≡ at_four (turned_four f) u w
turned_at f false false = refl
turned_at f false true = refl
turned_at f true false = refl
turned_at f true true = refl

module _ {K : Type 0} where
  -- the three things that a pair can say of y
  pub link_low : (y : ℕ) (p : Pair K) → p.low ≡ y → link_of y p ≡ Some (link p.high p.scores)
  link_low y p e = cond-true (eqb p.low y) _ _ (eq-eqb p.low y e)

  pub link_high : (y : ℕ) (p : Pair K) → (p.low ≡ y → ⊥) → p.high ≡ y → link_of y p ≡ Some (link p.low (turned_four p.scores))
  link_high y p d e = cond-false (eqb p.low y) _ _ (ne_eqb p.low y d) ∙ cond-true (eqb p.high y) _ _ (eq-eqb p.high y e)

  pub link_none : (y : ℕ) (p : Pair K) → (p.low ≡ y → ⊥) → (p.high ≡ y → ⊥) → link_of y p ≡ None
  link_none y p d e = cond-false (eqb p.low y) _ _ (ne_eqb p.low y d) ∙ cond-false (eqb p.high y) _ _ (ne_eqb p.high y e)

  -- and so cases on it
  pub link_cases : (y : ℕ) (p : Pair K) (P : Option (Link K) → Type 0)
      → (p.low ≡ y → P (Some (link p.high p.scores)))
      → ((p.low ≡ y → ⊥) → p.high ≡ y → P (Some (link p.low (turned_four p.scores))))
      → ((p.low ≡ y → ⊥) → (p.high ≡ y → ⊥) → P None) → P (link_of y p)
  link_cases y p P low high none =
      ⊎_elim
      (λ (e : p.low ≡ y). subst P (sym (link_low y p e)) (low e))
      (λ (d : p.low ≡ y → ⊥).
      ⊎_elim
      (λ (e : p.high ≡ y). subst P (sym (link_high y p d e)) (high d e))
      (λ (f : p.high ≡ y → ⊥). subst P (sym (link_none y p d f)) (none d f))
      (cases_eq p.high y))
      (cases_eq p.low y)

  pub found_here : (a b : ℕ) (p : Pair K) (ps : List (Pair K)) → a ≡ p.low → b ≡ p.high → found a b (p ∷ ps) ≡ Some p
  found_here a b p ps e f = cond-true (is_pair a b p) _ _ (and_from (eqb a p.low) (eqb b p.high) (eq-eqb a p.low e) (eq-eqb b p.high f))

  pub found_on_low : (a b : ℕ) (p : Pair K) (ps : List (Pair K)) → (a ≡ p.low → ⊥) → found a b (p ∷ ps) ≡ found a b ps
  found_on_low a b p ps e = cond-false (is_pair a b p) _ _ (and_left (eqb a p.low) (eqb b p.high) (ne_eqb a p.low e))

  pub found_on_high : (a b : ℕ) (p : Pair K) (ps : List (Pair K)) → (b ≡ p.high → ⊥) → found a b (p ∷ ps) ≡ found a b ps
  found_on_high a b p ps e = cond-false (is_pair a b p) _ _ (and_right (eqb a p.low) (eqb b p.high) (ne_eqb b p.high e))

  pub first_here : (v : ℕ) (l : Link K) (ls : List (Link K)) → v ≡ l.partner → first_link v (l ∷ ls) ≡ Some l
  first_here v l ls e = cond-true (eqb v l.partner) _ _ (eq-eqb v l.partner e)

  pub first_on : (v : ℕ) (l : Link K) (ls : List (Link K)) → (v ≡ l.partner → ⊥) → first_link v (l ∷ ls) ≡ first_link v ls
  first_on v l ls e = cond-false (eqb v l.partner) _ _ (ne_eqb v l.partner e)

module _ {K S : Type 0} (means : K → S) where
  -- with a higher partner
  links_higher : (ps : List (Pair K)) → AllByRecursion LowFirst ps → (y v : ℕ) → y < v
      → option_map (pair_scores means) (found y v ps) ≡ option_map (link_scores means) (first_link v (links y ps))
  links_higher [] h y v lt = refl
  links_higher (p ∷ ps) h y v lt =
      let rest : option_map (pair_scores means) (found y v ps) ≡ option_map (link_scores means) (first_link v (links y ps)) = links_higher ps h.1 y v lt in
      let low : p.low < p.high = h.0 in
      link_cases y p (λ o. option_map (pair_scores means) (found y v (p ∷ ps)) ≡ option_map (link_scores means) (first_link v (front o (links y ps))))
      (λ is.
      ⊎_elim
      (λ (here : v ≡ p.high).
      ap (option_map (pair_scores means)) (found_here y v p ps (sym is) here) ∙ sym (ap (option_map (link_scores means)) (first_here v (link p.high p.scores) (links y ps) here)))
      (λ (other : v ≡ p.high → ⊥).
      ap (option_map (pair_scores means)) (found_on_high y v p ps other) ∙ rest ∙ sym (ap (option_map (link_scores means)) (first_on v (link p.high p.scores) (links y ps) other)))
      (cases_eq v p.high))
      (λ isnt is.
      ap (option_map (pair_scores means)) (found_on_low y v p ps (λ e. isnt (sym e))) ∙ rest
      ∙ sym (ap (option_map (link_scores means)) (first_on v (link p.low (turned_four p.scores)) (links y ps) (λ e. omega (arith, e, is, low, lt)))))
      (λ isnt _. ap (option_map (pair_scores means)) (found_on_low y v p ps (λ e. isnt (sym e))) ∙ rest)

  -- with a lower partner
  links_lower : (ps : List (Pair K)) → AllByRecursion LowFirst ps → (y v : ℕ) → v < y
      → option_map turned (option_map (pair_scores means) (found v y ps)) ≡ option_map (link_scores means) (first_link v (links y ps))
  links_lower [] h y v lt = refl
  links_lower (p ∷ ps) h y v lt =
      let rest : option_map turned (option_map (pair_scores means) (found v y ps)) ≡ option_map (link_scores means) (first_link v (links y ps)) = links_lower ps h.1 y v lt in
      let low : p.low < p.high = h.0 in
      let over_found : (o : Option (Pair K)) → found v y (p ∷ ps) ≡ o → option_map turned (option_map (pair_scores means) (found v y (p ∷ ps))) ≡ option_map turned (option_map (pair_scores means) o)
      = λ o e. ap (λ q. option_map turned (option_map (pair_scores means) q)) e in
      let over_first : (l : Link K) (o : Option (Link K)) → first_link v (l ∷ links y ps) ≡ o → option_map (link_scores means) o ≡ option_map (link_scores means) (first_link v (l ∷ links y ps))
      = λ l o e. sym (ap (option_map (link_scores means)) e) in
      link_cases y p (λ o. option_map turned (option_map (pair_scores means) (found v y (p ∷ ps))) ≡ option_map (link_scores means) (first_link v (front o (links y ps))))
      (λ is.
      over_found _ (found_on_low v y p ps (λ e. omega (arith, e, is, lt))) ∙ rest
      ∙ over_first (link p.high p.scores) _ (first_on v (link p.high p.scores) (links y ps) (λ e. omega (arith, e, is, low, lt))))
      (λ isnt is.
      ⊎_elim
      (λ (here : v ≡ p.low).
      over_found _ (found_here v y p ps here (sym is))
      ∙ ap Some (fun_ext (λ u. fun_ext (λ w. ap means (turned_at p.scores u w))))
      ∙ over_first (link p.low (turned_four p.scores)) _ (first_here v (link p.low (turned_four p.scores)) (links y ps) here))
      (λ (other : v ≡ p.low → ⊥).
      over_found _ (found_on_low v y p ps other) ∙ rest
      ∙ over_first (link p.low (turned_four p.scores)) _ (first_on v (link p.low (turned_four p.scores)) (links y ps) other))
      (cases_eq v p.low))
      (λ isnt isnt_high. over_found _ (found_on_high v y p ps (λ e. isnt_high (sym e))) ∙ rest)

  -- nobody is its own partner
  links_self : (ps : List (Pair K)) → AllByRecursion LowFirst ps → (y : ℕ) → first_link y (links y ps) ≡ None
  links_self [] h y = refl
  links_self (p ∷ ps) h y =
      let rest : first_link y (links y ps) ≡ None = links_self ps h.1 y in
      let low : p.low < p.high = h.0 in
      link_cases y p (λ o. first_link y (front o (links y ps)) ≡ None)
      (λ is. first_on y (link p.high p.scores) (links y ps) (λ e. omega (arith, e, is, low)) ∙ rest)
      (λ isnt is. first_on y (link p.low (turned_four p.scores)) (links y ps) (λ e. omega (arith, e, is, low)) ∙ rest)
      (λ _ _. rest)

  -- the pair of y and v is what y's links say of v
  pub pair_links : (base : K) (vs : List (Var K)) (ps : List (Pair K)) → AllByRecursion LowFirst ps → (y v : ℕ)
      → pair (contents means base vs ps) y v ≡ option_map (link_scores means) (first_link v (links y ps))
  pair_links base vs ps h y v =
      ⊎_elim
      (λ (e : y ≡ v). pair_self (contents means base vs ps) y v e ∙ ap (option_map (link_scores means)) (sym (subst (λ x. first_link x (links y ps) ≡ None) e (links_self ps h y))))
      (⊎_elim
      (λ (lt : y < v). pair_lower (contents means base vs ps) y v lt ∙ links_higher ps h y v lt)
      (λ (lt : v < y). pair_higher (contents means base vs ps) y v lt ∙ links_lower ps h y v lt))
      (cases_order y v)

mapped_none : {A B : Type 0} (f : A → B) (o : Option A) → option_map f o ≡ None → o ≡ None
mapped_none f None e = refl
mapped_none f (Some x) e = absurd cc

-- the links of y have partners of their own, below n
abbrev pub Distinct : {K : Type 0} → ℕ → List (Link K) → Type 0
Distinct n [] = Unit {0}
Distinct n (l ∷ ls) = (l.partner < n) × (first_link l.partner ls ≡ None) × Distinct n ls

pub low_first : {K : Type 0} (vs : List (Var K)) (ps : List (Pair K)) → AllByRecursion (Placed vs) ps → AllByRecursion LowFirst ps
low_first vs [] h = tt
low_first vs (p ∷ ps) h = (h.0.lower_first, low_first vs ps h.1)

module _ {K : Type 0} (vs : List (Var K)) where
  pub distinct : (ps : List (Pair K)) → AllByRecursion (Placed vs) ps → Apart ps → (y : ℕ) → Distinct (length vs) (links y ps)
  distinct [] h a y = tt
  distinct (p ∷ ps) h a y =
      let rest : Distinct (length vs) (links y ps) = distinct ps h.1 a.1 y in
      let low : p.low < p.high = h.0.lower_first in
      let firsts = low_first vs ps h.1 in
      link_cases y p (λ o. Distinct (length vs) (front o (links y ps)))
      (λ is. (
        slice_get_within vs p.high (Remains h.0.high_present.0) h.0.high_present.1,
        mapped_none (link_scores (λ (k : K). k)) _ (sym (links_higher (λ (k : K). k) ps firsts y p.high (omega (arith, is, low))) ∙ ap (option_map (pair_scores (λ (k : K). k))) (subst (λ x. found x p.high ps ≡ None) is a.0)),
        rest,
      ))
      (λ isnt is. (
        slice_get_within vs p.low (Remains h.0.low_present.0) h.0.low_present.1,
        mapped_none (link_scores (λ (k : K). k)) _ (sym (links_lower (λ (k : K). k) ps firsts y p.low (omega (arith, is, low))) ∙ ap (λ o. option_map turned (option_map (pair_scores (λ (k : K). k)) o)) (subst (λ x. found p.low x ps ≡ None) is a.0)),
        rest,
      ))
      (λ _ _. rest)

-- a partner's record is there
pub link_present : {K : Type 0} (vs : List (Var K)) (y : ℕ) (ps : List (Pair K)) → AllByRecursion (Placed vs) ps → (x : ℕ) (l : Link K) → first_link x (links y ps) ≡ Some l → Present vs x
link_present vs y [] h x l e = absurd cc
link_present {K} vs y (p ∷ ps) h x l e =
    let rest : first_link x (links y ps) ≡ Some l → Present vs x = link_present vs y ps h.1 x l in
    let one : (m : Link K) → Present vs m.partner → first_link x (m ∷ links y ps) ≡ Some l → Present vs x
    = λ m there e.
    ⊎_elim
    (λ (s : x ≡ m.partner). subst (Present vs) (sym s) there)
    (λ (d : x ≡ m.partner → ⊥). rest (sym (first_on x m (links y ps) d) ∙ e))
    (cases_eq x m.partner) in
    link_cases y p (λ o. first_link x (front o (links y ps)) ≡ Some l → Present vs x)
    (λ _. one (link p.high p.scores) h.0.high_present)
    (λ _ _. one (link p.low (turned_four p.scores)) h.0.low_present)
    (λ _ _. rest)
    e

-- as many have a link as there are links
count_links : {K : Type 0} (n : ℕ) (ls : List (Link K)) → Distinct n ls → count n (λ v. is_some (first_link v ls)) ≡ length ls
count_links n [] d = count_zero n (λ _. false) (λ _ _. refl)
count_links n (l ∷ ls) d =
    count_one n l.partner (λ v. is_some (first_link v (l ∷ ls))) d.0 (ap is_some (first_here l.partner l ls refl))
    ∙ ap suc (count_same n (but l.partner (λ v. is_some (first_link v (l ∷ ls)))) (λ v. is_some (first_link v ls)) same ∙ count_links n ls d.2)
  where
    same : (v : ℕ) → v < n → but l.partner (λ x. is_some (first_link x (l ∷ ls))) v ≡ is_some (first_link v ls)
    same v h =
        ⊎_elim
        (λ (e : v ≡ l.partner). cond-true (eqb v l.partner) false _ (eq-eqb v l.partner e) ∙ sym (ap is_some (ap (λ x. first_link x ls) e ∙ d.1)))
        (λ (e : v ≡ l.partner → ⊥). cond-false (eqb v l.partner) false _ (ne_eqb v l.partner e) ∙ ap is_some (first_on v l ls e))
        (cases_eq v l.partner)

module _ {K S : Type 0} (means : K → S) (base : K) (vs : List (Var K)) (ps : List (Pair K)) (placed : AllByRecursion (Placed vs) ps) where
  pub partners_links : (y v : ℕ) → partners (contents means base vs ps) y v ≡ is_some (first_link v (links y ps))
  partners_links y v = ap is_some (pair_links means base vs ps (low_first vs ps placed) y v) ∙ some_mapped (link_scores means) (first_link v (links y ps))

  -- a variable has as many partners as there are records with it
  pub degree_links : Apart ps → (y : ℕ) → degree (contents means base vs ps) y ≡ length (links y ps)
  degree_links apart y =
      count_same (length vs) (partners (contents means base vs ps) y) (λ v. is_some (first_link v (links y ps))) (λ v _. partners_links y v)
      ∙ count_links (length vs) (links y ps) (distinct vs ps placed apart y)
