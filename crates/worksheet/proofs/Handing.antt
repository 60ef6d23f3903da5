-- A variable that is set hands the scores of each of its pairs to the partner. Assumes nothing.
use Rattle.std.proofs.Common.{◌≡◌, ℕ, Bool, true, false, List, [], ◌∷◌, length, Some, None, Option, sym, refl, ap, ◌∙◌, ⊎_elim}
use mathlib.Core.Path.{fun_ext}
use Rattle.std.specs.Option.{option_map}
use Rattle.std.specs.List.{AllByRecursion, slice_get}
use Rattle.std.proofs.lemmas.Bool.{cases_eq}
use Rattle.score.specs.Model.{Model, Laws}
use Rattle.steps.specs.Change.{onto_scores}
use Rattle.steps.specs.Sheet.{two_score}
use Rattle.steps.proofs.Joins.{unit_right}
use Rattle.records.specs.declared.pairs.Link.{Link}
use Rattle.records.specs.declared.pairs.Pair.{Pair}
use Rattle.score.specs.declared.values.Two.{Two}
use Rattle.score.specs.declared.values.Four.{Four}
use Rattle.sheets.specs.declared.variables.Var.{Var}
use Rattle.sheets.specs.declared.variables.Var.TheVariants.{Remains}
use Rattle.sheets.specs.Changed.{row, hand, handed}
use Rattle.partners.specs.Links.{front, links, first_link}
use Rattle.score.specs.Values.{at_two, at_four}
use Rattle.worksheet.specs.Records.{link_scores, var_says, Placed}
use Rattle.worksheet.proofs.Onto.{join_at_other, join_at_length, join_at_placed, joined_says}
use Rattle.worksheet.proofs.Partners.{Distinct, link_cases, first_here, first_on}

row_at : {T : Type 0} (f : Four T) (c u : Bool) → at_two (row c f) u ≡ at_four f c u
row_at f c false = refl
row_at f c true = refl

module _ {K : Type 0} (J : K → K → K) (c : Bool) where
  -- one link after the other
  abbrev pub hand_all : List (Var K) → List (Link K) → List (Var K)
  hand_all vs [] = vs
  hand_all vs (l ∷ ls) = hand_all (hand J c vs (Some l)) ls

  pub handed_links : (y : ℕ) (ps : List (Pair K)) (vs : List (Var K)) → handed J y c vs ps ≡ hand_all vs (links y ps)
  handed_links y [] vs = refl
  handed_links y (p ∷ ps) vs =
      link_cases y p (λ o. handed J y c (hand J c vs o) ps ≡ hand_all vs (front o (links y ps)))
      (λ _. handed_links y ps _)
      (λ _ _. handed_links y ps _)
      (λ _ _. handed_links y ps vs)

  pub hand_all_length : (ls : List (Link K)) (vs : List (Var K)) → length (hand_all vs ls) ≡ length vs
  hand_all_length [] vs = refl
  hand_all_length (l ∷ ls) vs = hand_all_length ls (hand J c vs (Some l)) ∙ join_at_length J vs l.partner (row c l.scores)

  pub hand_all_placed : (ls : List (Link K)) (vs : List (Var K)) (ps : List (Pair K)) → AllByRecursion (Placed vs) ps → AllByRecursion (Placed (hand_all vs ls)) ps
  hand_all_placed [] vs ps h = h
  hand_all_placed (l ∷ ls) vs ps h = hand_all_placed ls (hand J c vs (Some l)) ps (join_at_placed J vs l.partner (row c l.scores) ps h)

  -- who is no partner is as before
  pub hand_all_other : (ls : List (Link K)) (vs : List (Var K)) (v : ℕ) → first_link v ls ≡ None → slice_get (hand_all vs ls) v ≡ slice_get vs v
  hand_all_other [] vs v e = refl
  hand_all_other (l ∷ ls) vs v e =
      ⊎_elim
      (λ (h : v ≡ l.partner). absurd (some_none l (sym (first_here v l ls h) ∙ e)))
      (λ (h : v ≡ l.partner → ⊥). hand_all_other ls (hand J c vs (Some l)) v (sym (first_on v l ls h) ∙ e) ∙ join_at_other J vs l.partner (row c l.scores) v h)
      (cases_eq v l.partner)
    where
      some_none : (l : Link K) → Some l ≡ None → ⊥
      some_none l e = cc

module _ {E S K : Type 0} (M : Model E S) (laws : Laws M) (means : K → S) (J : K → K → K) (c : Bool) where
  -- what goes to v
  abbrev pub handed_to : List (Link K) → ℕ → Bool → S
  handed_to ls v = two_score M (option_map (link_scores means) (first_link v ls)) c

  abbrev ExactHand : List (Var K) → List (Link K) → Type 0
  ExactHand vs ls = (x : ℕ) (l : Link K) (r : Two K) → first_link x ls ≡ Some l → slice_get vs x ≡ Some (Remains r) → (u : Bool)
      → means (J (at_two r u) (at_four l.scores c u)) ≡ M.join (means (at_two r u)) (link_scores means l c u)

  onto_nothing : (o : Option (Bool → S)) → option_map (onto_scores M (λ _. M.neutral)) o ≡ o
  onto_nothing None = refl
  onto_nothing (Some f) = ap Some (fun_ext (λ u. unit_right laws (f u)))

  pub hand_says : (n : ℕ) (ls : List (Link K)) (vs : List (Var K)) → Distinct n ls → ExactHand vs ls → (v : ℕ)
      → var_says means (slice_get (hand_all J c vs ls) v) ≡ option_map (onto_scores M (handed_to ls v)) (var_says means (slice_get vs v))
  hand_says n [] vs d ex v = sym (onto_nothing (var_says means (slice_get vs v)))
  hand_says n (l ∷ ls) vs d ex v =
      let rest : var_says means (slice_get (hand_all J c vs (l ∷ ls)) v) ≡ option_map (onto_scores M (handed_to ls v)) (var_says means (slice_get (hand J c vs (Some l)) v))
      = hand_says n ls (hand J c vs (Some l)) d.2 later v in
      ⊎_elim
      (λ (e : v ≡ l.partner).
      let none : first_link v ls ≡ None = ap (λ x. first_link x ls) e ∙ d.1 in
      rest
      ∙ ap (λ o. option_map (onto_scores M (two_score M (option_map (link_scores means) o) c)) (var_says means (slice_get (hand J c vs (Some l)) v))) none
      ∙ onto_nothing (var_says means (slice_get (hand J c vs (Some l)) v))
      ∙ ap (λ x. var_says means (slice_get (hand J c vs (Some l)) x)) e
      ∙ joined_says M means J vs l.partner (row c l.scores) (link_scores means l c)
      (λ r there u. ap (λ k. means (J (at_two r u) k)) (row_at l.scores c u) ∙ ex l.partner l r (first_here l.partner l ls refl) there u)
      ∙ ap (λ x. option_map (onto_scores M (link_scores means l c)) (var_says means (slice_get vs x))) (sym e)
      ∙ ap (λ o. option_map (onto_scores M (two_score M (option_map (link_scores means) o) c)) (var_says means (slice_get vs v))) (sym (first_here v l ls e)))
      (λ (e : v ≡ l.partner → ⊥).
      rest
      ∙ ap (λ r. option_map (onto_scores M (handed_to ls v)) (var_says means r)) (join_at_other J vs l.partner (row c l.scores) v e)
      ∙ ap (λ o. option_map (onto_scores M (two_score M (option_map (link_scores means) o) c)) (var_says means (slice_get vs v))) (sym (first_on v l ls e)))
      (cases_eq v l.partner)
    where
      none_some : (m : Link K) (o : Option (Link K)) → o ≡ None → o ≡ Some m → ⊥
      none_some m o e f = cc

      later : ExactHand (hand J c vs (Some l)) ls
      later x m r at there u =
          let apart : x ≡ l.partner → ⊥ = λ e. none_some m (first_link l.partner ls) d.1 (ap (λ q. first_link q ls) (sym e) ∙ at) in
          ex x m r (first_on x l ls apart ∙ at) (sym (join_at_other J vs l.partner (row c l.scores) x apart) ∙ there) u
