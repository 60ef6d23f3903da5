-- Each removal on the records is the step on the contents. Assumes nothing.
use Rattle.std.proofs.Common.{◌≡◌, ℕ, ◌<◌, ◌≤◌, Bool, true, false, cond, ◌&&◌, ◌||◌, eqb, ◌⊎◌, List, [], ◌∷◌, length, take, set, is_some, Some, None, Option, sym, refl, ap, ◌∙◌, subst, ap₂, inl, inr, arith}
use mathlib.Core.Path.{fun_ext}
use Rattle.std.specs.Option.{option_map}
use Rattle.std.specs.List.{slice_get}
use Rattle.std.proofs.lemmas.List.{length-set, length-take}
use Rattle.std.proofs.lemmas.Bool.{eq-eqb, ne_eqb, eqb-false, both_ways, cond-false, or_parts, or_from, and_from}
use Rattle.score.specs.Model.{Model, Laws, Together}
use Rattle.score.specs.declared.choice.Choice.{Choice}
use Rattle.steps.specs.Change.{choose, without, onto_one, onto_two, onto_scores, own, both, with_one, with_two}
use Rattle.steps.specs.Counts.{JoinsExact}
use Rattle.steps.specs.Sheet.{Sheet, remains, partners, degree, one_score, two_score}
use Rattle.steps.specs.Start.{banks}
use Rattle.steps.specs.Steps.{noted, alone, by_one, by_two}
use Rattle.steps.proofs.Choices.{bank_chosen}
use Rattle.steps.proofs.Sheets.{none_if, pair_self}
use Rattle.partners.specs.declared.links.ByOne.{ByOne}
use Rattle.partners.specs.declared.links.ByTwo.{ByTwo}
use Rattle.notes.specs.declared.removal.Removal.{Removal}
use Rattle.score.specs.declared.values.Four.{Four}
use Rattle.records.specs.declared.pairs.Link.{Link}
use Rattle.records.specs.declared.pairs.Pair.{Pair}
use Rattle.score.specs.declared.values.Two.{Two}
use Rattle.sheets.specs.declared.variables.Var.{Var}
use Rattle.sheets.specs.declared.variables.Var.TheVariants.{Remains, Left}
use Rattle.sheets.specs.Changed.{chosen, choose_held, worth_one, worth_two, two_best, two_scores, join_at, handed, kept, post}
use Rattle.worksheet.specs.Left.{AloneLeft, OneLeft, TwoLeft, SetLeft}
use Rattle.partners.specs.Links.{links, first_link, present_at, alone_at, one_at, two_at}
use Rattle.notes.specs.Removals.{note_of}
use Rattle.worksheet.specs.Noting.{alone_note, one_note, two_note, set_note}
use Rattle.score.specs.Values.{at_two, at_four}
use Rattle.worksheet.specs.Records.{link_scores, pair_scores, var_says, found, contents, Arranged}
use Rattle.worksheet.proofs.Asked.{present_is, alone_asked, alone_unasked, one_asked, one_unasked, two_asked, two_unasked}
use Rattle.worksheet.proofs.Handing.{hand_all, handed_links, hand_all_length, hand_all_placed, hand_all_other, hand_says}
use Rattle.worksheet.proofs.Leaving.{found_kept, kept_all, kept_fewer, gone_says, leaving, leaving_arranged, gone_present}
use Rattle.records.proofs.Lists.{nth_set_other}
use Rattle.worksheet.proofs.Noted.{alone_means, one_means, two_means, set_means}
use Rattle.worksheet.proofs.Onto.{join_at_other, join_at_placed, onto_one_says, onto_two_says, post_placed, post_apart, found_unposted}
use Rattle.worksheet.proofs.Partners.{Distinct, low_first, link_present, distinct, pair_links, partners_links, degree_links, first_here, first_on}

abbrev based : {S : Type 0} → S → Sheet Bool S → Sheet Bool S
based c s = record { size = s.size; base = c; one = s.one; two = s.two }

module _ {E S K : Type 0} (M : Model E S) (means : K → S) where
  -- the better of two held scores is the choice between what they mean
  bank_second : (y : ℕ) (f : Bool → S) (a b : K) → means a ≡ f false → means b ≡ f true → (chosen M means a b).second ≡ choose M banks y f
  bank_second y f a b p q =
      go (M.at_most (means b) (means a)) ∙ (λ i. cond (M.at_most (q i) (p i)) false true) ∙ sym (bank_chosen M y f)
    where
      go : (t : Bool) → (cond t (choose_held a false) (choose_held b true)).second ≡ cond t false true
      go true = refl
      go false = refl

  bank_score : (y : ℕ) (f : Bool → S) (a b : K) → means a ≡ f false → means b ≡ f true → means (chosen M means a b).score ≡ f (choose M banks y f)
  bank_score y f a b p q =
      go (M.at_most (means b) (means a)) ∙ ap f ((λ i. cond (M.at_most (q i) (p i)) false true) ∙ sym (bank_chosen M y f))
    where
      go : (t : Bool) → means (cond t (choose_held a false) (choose_held b true)).score ≡ f (cond t false true)
      go true = p
      go false = q

module _ {E S K : Type 0} (M : Model E S) (means : K → S) (b : K) (vs : List (Var K)) (ps : List (Pair K)) (arranged : Arranged vs ps)
    (y : ℕ) (r : Two K) (there : slice_get vs y ≡ Some (Remains r)) where
  abbrev sheet : Sheet Bool S
  sheet = contents means b vs ps

  remains_is : remains sheet y ≡ true
  remains_is = ap (λ o. is_some (var_says means o)) there

  own_is : (w : Bool) → own M sheet y w ≡ means (at_two r w)
  own_is w = ap (λ o. one_score M (var_says means o) w) there

  both_is : (x : ℕ) (l : Link K) → first_link x (links y ps) ≡ Some l → (w u : Bool) → both M sheet y x w u ≡ link_scores means l w u
  both_is x l e w u = ap (λ o. two_score M o w u) (pair_links means b vs ps (low_first vs ps arranged.placed) y x ∙ ap (option_map (link_scores means)) e)

  partner_is : (x : ℕ) (l : Link K) → first_link x (links y ps) ≡ Some l → partners sheet y x ≡ true
  partner_is x l e = partners_links means b vs ps arranged.placed y x ∙ ap is_some e

  other_is : (x : ℕ) → partners sheet y x ≡ true → x ≡ y → ⊥
  other_is x p e = both_ways (partners sheet y x) (ap is_some (pair_self sheet y x (sym e))) p

  degree_is : (n : ℕ) (ls : List (Link K)) → links y ps ≡ ls → length ls ≡ n → degree sheet y ≡ n
  degree_is n ls e f = degree_links means b vs ps arranged.placed arranged.apart y ∙ ap length e ∙ f

-- Two links, in either order ---------------------------------------------------------------------------------------------------------

module _ {K : Type 0} where
  two_distinct : (n : ℕ) (l m : Link K) (ls : List (Link K)) → Distinct n ls → (ls ≡ l ∷ m ∷ []) ⊎ (ls ≡ m ∷ l ∷ []) → l.partner ≡ m.partner → ⊥
  two_distinct n l m ls d (inl e) same = both_some m (sym (first_here l.partner m [] same) ∙ (subst (Distinct n) e d).1)
    where
      both_some : (m : Link K) → Some m ≡ None → ⊥
      both_some m e = cc
  two_distinct n l m ls d (inr e) same = both_some l (sym (first_here m.partner l [] (sym same)) ∙ (subst (Distinct n) e d).1)
    where
      both_some : (m : Link K) → Some m ≡ None → ⊥
      both_some m e = cc

  two_first_low : (l m : Link K) (ls : List (Link K)) → (l.partner ≡ m.partner → ⊥) → (ls ≡ l ∷ m ∷ []) ⊎ (ls ≡ m ∷ l ∷ []) → first_link l.partner ls ≡ Some l
  two_first_low l m ls d (inl e) = ap (first_link l.partner) e ∙ first_here l.partner l (m ∷ []) refl
  two_first_low l m ls d (inr e) = ap (first_link l.partner) e ∙ first_on l.partner m (l ∷ []) d ∙ first_here l.partner l [] refl

  two_first_high : (l m : Link K) (ls : List (Link K)) → (l.partner ≡ m.partner → ⊥) → (ls ≡ l ∷ m ∷ []) ⊎ (ls ≡ m ∷ l ∷ []) → first_link m.partner ls ≡ Some m
  two_first_high l m ls d (inl e) = ap (first_link m.partner) e ∙ first_on m.partner l (m ∷ []) (λ h. d (sym h)) ∙ first_here m.partner m [] refl
  two_first_high l m ls d (inr e) = ap (first_link m.partner) e ∙ first_here m.partner m (l ∷ []) refl

  two_degree : {ls : List (Link K)} {k : ℕ} → ((ks : List (Link K)) → ls ≡ ks → length ks ≡ 2 → k ≡ 2) → (l m : Link K) → (ls ≡ l ∷ m ∷ []) ⊎ (ls ≡ m ∷ l ∷ []) → k ≡ 2
  two_degree f l m (inl e) = f (l ∷ m ∷ []) e refl
  two_degree f l m (inr e) = f (m ∷ l ∷ []) e refl

  pub two_some : (l m : Link K) (ls : List (Link K)) → (ls ≡ l ∷ m ∷ []) ⊎ (ls ≡ m ∷ l ∷ []) → 0 < length ls
  two_some l m ls (inl e) = subst (λ ks. 0 < length ks) (sym e) (omega arith)
  two_some l m ls (inr e) = subst (λ ks. 0 < length ks) (sym e) (omega arith)

module _ {E S K : Type 0} (M : Model E S) (laws : Laws M) (means : K → S) (J : K → K → K)
    (exact : (a b : K) → Together M (means a) (means b) → means (J a b) ≡ M.join (means a) (means b)) where
  exactly : (a b : K) (s t : S) → means a ≡ s → means b ≡ t → Together M s t → means (J a b) ≡ M.join s t
  exactly a b s t p q h = exact a b (subst (Together M (means a)) (sym q) (subst (λ z. Together M z t) (sym p) h)) ∙ ap₂ M.join p q

  -- Alone --------------------------------------------------------------------------------------------------------------------------

  pub alone_done : (b b' : K) (vs vs' : List (Var K)) (ps : List (Pair K)) (y : ℕ) (r gone : Two K) (n : Removal)
      → alone_at vs ps y ≡ Some r → b' ≡ J b (chosen M means r.zero r.one).score → vs' ≡ set vs y (Left gone)
      → n ≡ alone_note y (chosen M means r.zero r.one) → AloneLeft M means b b' vs vs' ps y (Some n)
  alone_done b b' vs vs' ps y r gone n at b_is vs_is n_is arranged =
      let q = alone_asked vs ps y r at in
      let s = contents means b vs ps in
      let all : kept y ps ≡ ps = kept_all y ps q.1 in
      let own_y = own_is M means b vs ps arranged y r q.0 in
      let present = remains_is M means b vs ps arranged y r q.0 in (
        present,
        degree_is M means b vs ps arranged y r q.0 0 [] q.1 refl,
        record {
          arranged = subst (λ ws. Arranged ws ps) (sym vs_is) (subst (Arranged (set vs y (Left gone))) all (leaving_arranged vs y r gone q.0 ps arranged));
          others = λ v h. ap (λ ws. slice_get ws v) vs_is ∙ nth_set_other vs y v (Left gone) (eqb-false v y h);
          other_pairs = λ _ _ _. refl;
          note_is = λ _. ap note_of n_is ∙ alone_means y (chosen M means r.zero r.one) ∙ ap (λ c. noted y (alone c)) (bank_second M means y (own M s y) r.zero r.one (sym (own_y false)) (sym (own_y true)));
          says_is = λ jx.
              ap₂ (λ c ws. contents means c ws ps) b_is vs_is
              ∙ ap (contents means (J b (chosen M means r.zero r.one).score) (set vs y (Left gone))) (sym all)
              ∙ leaving vs y r gone q.0 means (J b (chosen M means r.zero r.one).score) ps
              ∙ ap (λ c. based c (without y s))
              (exactly b _ s.base _ refl (bank_score M means y (own M s y) r.zero r.one (sym (own_y false)) (sym (own_y true))) (jx.onto_base y (choose M banks y (own M s y)) present));
        },
      )

  pub alone_refused : (b b' : K) (vs vs' : List (Var K)) (ps : List (Pair K)) (y : ℕ) → alone_at vs ps y ≡ None → AloneLeft M means b b' vs vs' ps y None
  alone_refused b b' vs vs' ps y at arranged h d =
      alone_unasked means vs ps y at h (sym (degree_links means b vs ps arranged.placed arranged.apart y) ∙ d)

  -- By one -------------------------------------------------------------------------------------------------------------------------

  pub one_done : (vs vs' : List (Var K)) (ps ps' : List (Pair K)) (y : ℕ) (x : ByOne K) (gone : Two K) (n : Removal) (at0 at1 : Choice K)
      → one_at vs ps y ≡ Some x
      → at0 ≡ chosen M means (worth_one J x.var x.link false false) (worth_one J x.var x.link false true)
      → at1 ≡ chosen M means (worth_one J x.var x.link true false) (worth_one J x.var x.link true true)
      → vs' ≡ join_at J (set vs y (Left gone)) x.link.partner (record { zero = at0.score; one = at1.score })
      → ps' ≡ kept y ps → n ≡ one_note y x.link.partner at0 at1 → OneLeft M means vs vs' ps ps' y (Some n)
  one_done vs vs' ps ps' y by gone n at0 at1 at at0_is at1_is vs_is ps_is n_is b arranged =
      let q = one_asked vs ps y by at in
      let s = contents means b vs ps in
      let r = by.var in
      let l = by.link in
      let x = l.partner in
      let first : first_link x (links y ps) ≡ Some l = ap (first_link x) q.1 ∙ first_here x l [] refl in
      let partner = partner_is M means b vs ps arranged y r q.0 x l first in
      let apart : x ≡ y → ⊥ = other_is M means b vs ps arranged y r q.0 x partner in
      let own_y = own_is M means b vs ps arranged y r q.0 in
      let both_y = both_is M means b vs ps arranged y r q.0 x l first in
      let left = leaving_arranged vs y r gone q.0 ps arranged in
      let worth : JoinsExact M s → (u w : Bool) → means (worth_one J r l u w) ≡ with_one M s y x u w
      = λ jx u w. exactly _ _ _ _ (sym (own_y w)) (sym (both_y w u)) (jx.with_pair y x w u partner) in
      let seconds : JoinsExact M s → (u : Bool) → cond u at1.second at0.second ≡ choose M banks y (with_one M s y x u)
      = λ jx. by_bool (λ u. cond u at1.second at0.second ≡ choose M banks y (with_one M s y x u))
      (ap (λ c. c.second) at0_is ∙ bank_second M means y (with_one M s y x false) _ _ (worth jx false false) (worth jx false true))
      (ap (λ c. c.second) at1_is ∙ bank_second M means y (with_one M s y x true) _ _ (worth jx true false) (worth jx true true)) in
      let scores : JoinsExact M s → (u : Bool) → means (cond u at1.score at0.score) ≡ with_one M s y x u (choose M banks y (with_one M s y x u))
      = λ jx. by_bool (λ u. means (cond u at1.score at0.score) ≡ with_one M s y x u (choose M banks y (with_one M s y x u)))
      (ap (λ c. means c.score) at0_is ∙ bank_score M means y (with_one M s y x false) _ _ (worth jx false false) (worth jx false true))
      (ap (λ c. means c.score) at1_is ∙ bank_score M means y (with_one M s y x true) _ _ (worth jx true false) (worth jx true true)) in (
        x,
        remains_is M means b vs ps arranged y r q.0,
        degree_is M means b vs ps arranged y r q.0 1 (l ∷ []) q.1 refl,
        partner,
        record {
          arranged = subst (λ ws. Arranged ws ps') (sym vs_is) (subst (Arranged (join_at J (set vs y (Left gone)) x (record { zero = at0.score; one = at1.score }))) (sym ps_is)
              (record { placed = join_at_placed J (set vs y (Left gone)) x (record { zero = at0.score; one = at1.score }) (kept y ps) left.placed; apart = left.apart }));
          others = λ v h.
              let d = or_parts (eqb v y) (eqb v x) h in
              ap (λ ws. slice_get ws v) vs_is ∙ join_at_other J (set vs y (Left gone)) x (record { zero = at0.score; one = at1.score }) v (eqb-false v x d.1) ∙ nth_set_other vs y v (Left gone) (eqb-false v y d.0);
          other_pairs = λ a c h. ap (found a c) ps_is ∙ found_kept y ps a c ∙ cond-false (eqb a y || eqb c y) None (found a c ps) h;
          note_is = λ jx. ap note_of n_is ∙ one_means y x at0 at1 ∙ ap (λ f. noted y (by_one x f)) (fun_ext (seconds jx));
          says_is = λ jx.
              ap₂ (contents means b) vs_is ps_is
              ∙ onto_one_says M means J (set vs y (Left gone)) x (record { zero = at0.score; one = at1.score }) (λ u. with_one M s y x u (choose M banks y (with_one M s y x u)))
              (λ rx at_x u.
              exactly (at_two rx u) (cond u at1.score at0.score) (means (at_two rx u)) _ refl (scores jx u)
              (subst (λ z. Together M z (with_one M s y x u (choose M banks y (with_one M s y x u))))
              (own_is M means b vs ps arranged x rx (sym (nth_set_other vs y x (Left gone) apart) ∙ at_x) u)
              (jx.onto_one y x (choose M banks y (with_one M s y x u)) u partner)))
              b (kept y ps)
              ∙ ap (onto_one M x (λ u. with_one M s y x u (choose M banks y (with_one M s y x u)))) (leaving vs y r gone q.0 means b ps);
        },
      )
    where
      by_bool : (P : Bool → Type 0) → P false → P true → (u : Bool) → P u
      by_bool P f t false = f
      by_bool P f t true = t

  pub one_refused : (vs vs' : List (Var K)) (ps ps' : List (Pair K)) (y : ℕ) → one_at vs ps y ≡ None → OneLeft M means vs vs' ps ps' y None
  one_refused vs vs' ps ps' y at b arranged h d =
      one_unasked means vs ps y at h (sym (degree_links means b vs ps arranged.placed arranged.apart y) ∙ d)

  -- Set ------------------------------------------------------------------------------------------------------------------------------

  pub set_done : (b b' : K) (vs vs' : List (Var K)) (ps ps' : List (Pair K)) (y : ℕ) (c : Bool) (r gone : Two K) (n : Removal)
      → present_at vs y ≡ Some r → b' ≡ J b (at_two r c) → vs' ≡ handed J y c (set vs y (Left gone)) ps → ps' ≡ kept y ps → n ≡ set_note y c
      → SetLeft M means b b' vs vs' ps ps' y c (Some n)
  set_done b b' vs vs' ps ps' y c r gone n at b_is vs_is ps_is n_is arranged =
      let there = present_is vs y r at in
      let s = contents means b vs ps in
      let ls = links y ps in
      let ws = set vs y (Left gone) in
      let own_y = own_is M means b vs ps arranged y r there in
      let present = remains_is M means b vs ps arranged y r there in
      let left = leaving_arranged vs y r gone there ps arranged in
      let vs_all : vs' ≡ hand_all J c ws ls = vs_is ∙ handed_links J c y ps ws in
      let long : length vs' ≡ length vs = ap length vs_all ∙ hand_all_length J c ls ws ∙ length-set vs y (Left gone) in
      let exact_hand : JoinsExact M s → (x : ℕ) (l : Link K) (rx : Two K) → first_link x ls ≡ Some l → slice_get ws x ≡ Some (Remains rx) → (u : Bool)
      → means (J (at_two rx u) (at_four l.scores c u)) ≡ M.join (means (at_two rx u)) (link_scores means l c u)
      = λ jx x l rx first at_x u.
      let partner = partner_is M means b vs ps arranged y r there x l first in
      let apart = other_is M means b vs ps arranged y r there x partner in
      exactly (at_two rx u) (at_four l.scores c u) (means (at_two rx u)) (link_scores means l c u) refl refl
      (subst (λ t. Together M t (link_scores means l c u)) (own_is M means b vs ps arranged x rx (sym (nth_set_other vs y x (Left gone) apart) ∙ at_x) u)
      (subst (Together M (own M s x u)) (both_is M means b vs ps arranged y r there x l first c u) (jx.onto_partner y x c u partner))) in
      let one_is : JoinsExact M s → (v : ℕ) → var_says means (slice_get vs' v) ≡ cond (eqb v y) None (option_map (onto_scores M (both M s y v c)) (s.one v))
      = λ jx v.
      ap (λ xs. var_says means (slice_get xs v)) vs_all
      ∙ hand_says M laws means J c (length vs) ls ws (distinct vs ps arranged.placed arranged.apart y) (exact_hand jx) v
      ∙ ap (option_map (onto_scores M (two_score M (option_map (link_scores means) (first_link v ls)) c))) (gone_says vs y r gone there means v)
      ∙ ap (λ o. option_map (onto_scores M (two_score M o c)) (cond (eqb v y) None (var_says means (slice_get vs v)))) (sym (pair_links means b vs ps (low_first vs ps arranged.placed) y v))
      ∙ through (onto_scores M (both M s y v c)) (eqb v y) (var_says means (slice_get vs v)) in (
        present,
        record {
          arranged = subst (λ xs. Arranged xs ps') (sym vs_all) (subst (Arranged (hand_all J c ws ls)) (sym ps_is)
              (record { placed = hand_all_placed J c ls ws (kept y ps) left.placed; apart = left.apart }));
          others = λ v h.
              let d = or_parts (eqb v y) (partners s y v) h in
              ap (λ xs. slice_get xs v) vs_all
              ∙ hand_all_other J c ls ws v (none_if (first_link v ls) (both_ways (is_some (first_link v ls)) (sym (partners_links means b vs ps arranged.placed y v) ∙ d.1)))
              ∙ nth_set_other vs y v (Left gone) (eqb-false v y d.0);
          other_pairs = λ a e h. ap (found a e) ps_is ∙ found_kept y ps a e ∙ cond-false (eqb a y || eqb e y) None (found a e ps) h;
          note_is = λ _. ap note_of n_is ∙ set_means y c;
          says_is = λ jx.
              let two_is = leaving vs y r gone there means b ps in
              λ i. record {
                size = long i;
                base = (ap means b_is ∙ exactly b (at_two r c) s.base (own M s y c) refl (sym (own_y c)) (jx.onto_base y c present)) i;
                one = λ v. one_is jx v i;
                two = (ap (λ qs. (contents means b' vs' qs).two) ps_is ∙ ap (λ t. t.two) two_is) i;
              };
        },
      )
    where
      through : (f : (Bool → S) → (Bool → S)) (t : Bool) (o : Option (Bool → S)) → option_map f (cond t None o) ≡ cond t None (option_map f o)
      through f true o = refl
      through f false o = refl

  -- By two ---------------------------------------------------------------------------------------------------------------------------

  pub two_done : (vs vs' : List (Var K)) (ps ps' : List (Pair K)) (y : ℕ) (x : ByTwo K) (gone : Two K) (n : Removal) (best : Four (Choice K)) (f : Four K)
      → two_at vs ps y ≡ Some x → best ≡ two_best M means J x.var x.low x.high → f ≡ two_scores best
      → vs' ≡ set vs y (Left gone) → ps' ≡ post J x.low.partner x.high.partner f (kept y ps)
      → n ≡ two_note y x.low.partner x.high.partner best → TwoLeft M means vs vs' ps ps' y (Some n)
  two_done vs vs' ps ps' y by gone n best f at best_is f_is vs_is ps_is n_is b arranged =
      let q = two_asked vs ps y by at in
      let s = contents means b vs ps in
      let r = by.var in
      let l = by.low in
      let m = by.high in
      let x = l.partner in
      let z = m.partner in
      let ws = set vs y (Left gone) in
      let d = two_distinct (length vs) l m (links y ps) (distinct vs ps arranged.placed arranged.apart y) q.2 in
      let lt : x < z = omega (arith, q.1, d) in
      let first_x : first_link x (links y ps) ≡ Some l = two_first_low l m (links y ps) d q.2 in
      let first_z : first_link z (links y ps) ≡ Some m = two_first_high l m (links y ps) d q.2 in
      let px = partner_is M means b vs ps arranged y r q.0 x l first_x in
      let pz = partner_is M means b vs ps arranged y r q.0 z m first_z in
      let apart_x = other_is M means b vs ps arranged y r q.0 x px in
      let apart_z = other_is M means b vs ps arranged y r q.0 z pz in
      let own_y = own_is M means b vs ps arranged y r q.0 in
      let both_x = both_is M means b vs ps arranged y r q.0 x l first_x in
      let both_z = both_is M means b vs ps arranged y r q.0 z m first_z in
      let left = leaving_arranged vs y r gone q.0 ps arranged in
      let worth : JoinsExact M s → (u t w : Bool) → means (worth_two J r l m u t w) ≡ with_two M s y x z u t w
      = λ jx u t w.
      exactly _ _ _ _ (exactly _ _ _ _ (sym (own_y w)) (sym (both_x w u)) (jx.with_pair y x w u px)) (sym (both_z w t)) (jx.with_second y x z w u t px pz lt) in
      let seconds : JoinsExact M s → (u t : Bool) → cond u (cond t best.at11.second best.at10.second) (cond t best.at01.second best.at00.second) ≡ choose M banks y (with_two M s y x z u t)
      = λ jx. by_bools (λ u t. cond u (cond t best.at11.second best.at10.second) (cond t best.at01.second best.at00.second) ≡ choose M banks y (with_two M s y x z u t))
      (ap (λ e. e.at00.second) best_is ∙ bank_second M means y (with_two M s y x z false false) _ _ (worth jx false false false) (worth jx false false true))
      (ap (λ e. e.at01.second) best_is ∙ bank_second M means y (with_two M s y x z false true) _ _ (worth jx false true false) (worth jx false true true))
      (ap (λ e. e.at10.second) best_is ∙ bank_second M means y (with_two M s y x z true false) _ _ (worth jx true false false) (worth jx true false true))
      (ap (λ e. e.at11.second) best_is ∙ bank_second M means y (with_two M s y x z true true) _ _ (worth jx true true false) (worth jx true true true)) in
      let g : Bool → Bool → S = λ u t. with_two M s y x z u t (choose M banks y (with_two M s y x z u t)) in
      let scores : JoinsExact M s → (u t : Bool) → means (at_four f u t) ≡ with_two M s y x z u t (choose M banks y (with_two M s y x z u t))
      = λ jx. by_bools (λ u t. means (at_four f u t) ≡ with_two M s y x z u t (choose M banks y (with_two M s y x z u t)))
      (ap (λ e. means e.at00) f_is ∙ ap (λ e. means e.at00.score) best_is ∙ bank_score M means y (with_two M s y x z false false) _ _ (worth jx false false false) (worth jx false false true))
      (ap (λ e. means e.at01) f_is ∙ ap (λ e. means e.at01.score) best_is ∙ bank_score M means y (with_two M s y x z false true) _ _ (worth jx false true false) (worth jx false true true))
      (ap (λ e. means e.at10) f_is ∙ ap (λ e. means e.at10.score) best_is ∙ bank_score M means y (with_two M s y x z true false) _ _ (worth jx true false false) (worth jx true false true))
      (ap (λ e. means e.at11) f_is ∙ ap (λ e. means e.at11.score) best_is ∙ bank_score M means y (with_two M s y x z true true) _ _ (worth jx true true false) (worth jx true true true)) in
      let kept_xz : found x z (kept y ps) ≡ found x z ps
      = found_kept y ps x z ∙ cond-false (eqb x y || eqb z y) None (found x z ps) (or_from (eqb x y) (eqb z y) (ne_eqb x y apart_x) (ne_eqb z y apart_z)) in (
        x,
        z,
        remains_is M means b vs ps arranged y r q.0,
        two_degree (degree_is M means b vs ps arranged y r q.0 2) l m q.2,
        px,
        pz,
        lt,
        record {
          arranged = subst (λ xs. Arranged xs ps') (sym vs_is) (subst (Arranged ws) (sym ps_is)
              (record {
                placed = post_placed J x z f ws (kept y ps) lt
                    (gone_present vs y r gone q.0 x apart_x (link_present vs y ps arranged.placed x l first_x))
                    (gone_present vs y r gone q.0 z apart_z (link_present vs y ps arranged.placed z m first_z))
                    left.placed;
                apart = post_apart J x z f (kept y ps) left.apart;
              }));
          others = λ v h. ap (λ xs. slice_get xs v) vs_is ∙ nth_set_other vs y v (Left gone) (eqb-false v y h);
          other_pairs = λ a e h.
              let k = or_parts (eqb a y || eqb e y) (eqb a x && eqb e z) h in
              ap (found a e) ps_is
              ∙ found_unposted J x z f (kept y ps) a e (λ same. both_ways (eqb a x && eqb e z) k.1 (and_from (eqb a x) (eqb e z) (eq-eqb a x same.0) (eq-eqb e z same.1)))
              ∙ found_kept y ps a e ∙ cond-false (eqb a y || eqb e y) None (found a e ps) k.0;
          note_is = λ jx. ap note_of n_is ∙ two_means y x z best ∙ ap (λ h. noted y (by_two x z h)) (fun_ext (λ u. fun_ext (λ t. seconds jx u t)));
          says_is = λ jx.
              ap₂ (contents means b) vs_is ps_is
              ∙ onto_two_says M means J x z f g (kept y ps) (scores jx)
              (λ p p_is u t.
              exactly (at_four p.scores u t) (at_four f u t) (pair_scores means p u t) (g u t) refl (scores jx u t)
              (subst (λ e. Together M e (g u t))
              (ap (λ o. two_score M (option_map (pair_scores means) o) u t) (sym kept_xz ∙ p_is))
              (jx.onto_two y x z (choose M banks y (with_two M s y x z u t)) u t px pz lt)))
              b ws
              ∙ ap (onto_two M x z g) (leaving vs y r gone q.0 means b ps);
        },
      )
    where
      by_bools : (P : Bool → Bool → Type 0) → P false false → P false true → P true false → P true true → (u t : Bool) → P u t
      by_bools P a b c d false false = a
      by_bools P a b c d false true = b
      by_bools P a b c d true false = c
      by_bools P a b c d true true = d

  -- the new pair has room
  pub two_room : (vs : List (Var K)) (all gone_from : List (Pair K)) (used rest y : ℕ) (x : ByTwo K) → two_at vs (take used all) y ≡ Some x
      → take rest gone_from ≡ kept y (take used all) → rest ≤ length all → length gone_from ≡ length all → (rest < length gone_from) × (rest < used)
  two_room vs all gone_from used rest y x at kept_is within long =
      let q = two_asked vs (take used all) y x at in
      let fewer = kept_fewer y (take used all) (two_some x.low x.high (links y (take used all)) q.2) in
      let rest_is : length (take rest gone_from) ≡ length (kept y (take used all)) = ap length kept_is in
      (omega (arith, fewer, rest_is, within, long, length-take rest gone_from, length-take used all), omega (arith, fewer, rest_is, within, long, length-take rest gone_from, length-take used all))

  pub two_refused : (vs vs' : List (Var K)) (ps ps' : List (Pair K)) (y : ℕ) → two_at vs ps y ≡ None → TwoLeft M means vs vs' ps ps' y None
  two_refused vs vs' ps ps' y at b arranged h d =
      two_unasked means vs ps y at h (sym (degree_links means b vs ps arranged.placed arranged.apart y) ∙ d)
