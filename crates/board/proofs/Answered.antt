-- What the calls that change a board promise. Assumes nothing.
use Rattle.std.proofs.Common.{◌≡◌, ℕ, ◌<◌, Bool, true, false, cond, ◌||◌, eqb, ltb, List, [], ◌∷◌, length, is_ok, IsErrAnd, Some, None, Ok, Err, Option, Result, sym, refl, ap, ◌∙◌, subst, arith}
use Rattle.std.specs.List.{slice_get}
use Rattle.std.proofs.lemmas.Result.{err_from_is_err_and}
use Rattle.std.proofs.lemmas.Bool.{ltb-true, true≢false, false≢true}
use Rattle.score.specs.Model.{Model, Laws, Together}
use Rattle.calls.specs.declared.changes.Change.{Change}
use Rattle.calls.specs.declared.changes.Change.TheVariants.{One, Pair as PairPost, Pin, Free}
use Rattle.score.specs.declared.values.Four.{Four}
use Rattle.score.specs.declared.values.Two.{Two}
use Rattle.calls.specs.declared.refusals.Refusal.{Refusal}
use Rattle.calls.specs.declared.refusals.Refusal.TheVariants.{NoChange}
use Rattle.calls.specs.Entries.{TwoScored, FourScored}
use Rattle.calls.specs.Questions.{View, Question, view_of, first_no, refusal_in, change_questions, back_questions, most_pairs}
use Rattle.calls.specs.Runs.{without_last}
use Rattle.calls.specs.Standing.{Standing, more, count, kept_pairs, key, has_key}
use Rattle.score.specs.Values.{lower_first}
use Rattle.calls.proofs.Asked.{all_yes, one_passed, pair_passed}
use Rattle.records.specs.declared.variables.Var.{Var}
use Rattle.records.specs.declared.history.Was.TheVariants.{Var as WasVar, Pair as WasPair, Unkept}
use Rattle.records.specs.Pairs.{joined_pair}
use Rattle.records.specs.Variables.{joined_var, with_pin}
use Rattle.board.specs.Stands.{Stands, Answered, Changed, TakenBack}
use Rattle.board.specs.Tables.{Held, records_view, used, replace_var, replace_pair, join_one, join_pair, set_pin, take_back, undo_at, Place}
use Rattle.std.proofs.lemmas.Option.{slice_get_within}
use Rattle.records.proofs.Lists.{nth_take}
use Rattle.board.proofs.Pairs.{onto_kept, newly_kept, length_take_most}
use Rattle.board.proofs.Steps.{stands_more, back_stands}
use Rattle.board.proofs.Vars.{pinned, freed, posted}
use Rattle.board.proofs.Views.{shows, asks_same}

-- what is passed on by `?`, the refusal unchanged
pub passed_on : {T : Type 0} (P : Result T Refusal → Type 0) (r : Result T Refusal) (f : Refusal) → IsErrAnd r (λ g. g ≡ f) → P (Err f) → P r
passed_on P r f h p = let e = err_from_is_err_and r h in subst P (sym (e.1 ∙ ap Err e.2)) p

-- asks: the questions; same: they have one answer on the records and on the list
module _ {E S K : Type 0} (M : Model E S) (means : K → S) (asks : View → List Question) (next : Standing E → Standing E) (h : Held K)
    (same : (n : ℕ) (cs : Standing E) → Stands M means n h cs → first_no (asks (records_view h)) ≡ first_no (asks (view_of n cs))) where
  -- turned down: nothing changed
  refused_so : (f : Refusal) → Some f ≡ first_no (asks (records_view h)) → Answered M means h h asks next (Err f)
  refused_so f e = record {
    reply = e;
    refused = λ _. refl;
    stands = λ n cs st. (e ∙ same n cs st, λ ok. absurd (false≢true ok));
  }

  -- accepted: from every list at which the board stood it comes to the next
  accepted_so : (h' made : Held K) → None ≡ first_no (asks (records_view h)) → h' ≡ made
      → ((n : ℕ) (cs : Standing E) → Stands M means n h cs → first_no (asks (view_of n cs)) ≡ None → Stands M means n made (next cs))
      → Answered M means h h' asks next (Ok tt)
  accepted_so h' made e is stands = record {
    reply = e;
    refused = λ no'. absurd (true≢false no');
    stands = λ n cs st. (e ∙ same n cs st, λ _. subst (λ x. Stands M means n x (next cs)) (sym is) (stands n cs st (sym (e ∙ same n cs st))));
  }

module _ {E S K : Type 0} (M : Model E S) (means : K → S) (h : Held K) where
  pub turned_down : (c : Change E) (f : Refusal) → Some f ≡ first_no (change_questions M (records_view h) c) → Changed M means h h c (Err f)
  turned_down c = refused_so M means (λ w. change_questions M w c) (λ cs. more cs c) h (λ n cs st. asks_same M means n h cs st c)

  pub accepted : (h' made : Held K) (c : Change E) → None ≡ first_no (change_questions M (records_view h) c) → h' ≡ made
      → ((n : ℕ) (cs : Standing E) → Stands M means n h cs → first_no (change_questions M (view_of n cs) c) ≡ None → Stands M means n made (more cs c))
      → Changed M means h h' c (Ok tt)
  accepted h' made c = accepted_so M means (λ w. change_questions M w c) (λ cs. more cs c) h (λ n cs st. asks_same M means n h cs st c) h' made

  -- a write that is made only where the reply is `Ok`
  pub changed_when : (h' made : Held K) (c : Change E) (r : Result (Unit {0}) Refusal) → refusal_in r ≡ first_no (change_questions M (records_view h) c) → h' ≡ cond (is_ok r) made h
      → ((n : ℕ) (cs : Standing E) → Stands M means n h cs → first_no (change_questions M (view_of n cs) c) ≡ None → Stands M means n made (more cs c))
      → Changed M means h h' c r
  changed_when h' made c (Ok x) e is stands = accepted h' made c e is stands
  changed_when h' made c (Err f) e is stands = subst (λ y. Changed M means h y c (Err f)) (sym is) (turned_down c f e)

  back_same : (n : ℕ) (cs : Standing E) → Stands M means n h cs → first_no (back_questions (records_view h)) ≡ first_no (back_questions (view_of n cs))
  back_same n cs st = ap (λ m. first_no ((ltb 0 m, NoChange) ∷ [])) st.standing_is

  pub back_accepted : (h' : Held K) → None ≡ first_no (back_questions (records_view h)) → h' ≡ take_back h → TakenBack M means h h' (Ok tt)
  back_accepted h' e is = accepted_so M means back_questions without_last h back_same h' (take_back h) e is (λ n cs st pass. back_stands M means n h cs st (ltb-true 0 (count cs) (all_yes (back_questions (view_of n cs)) pass).0))

module _ {E S K : Type 0} (M : Model E S) (laws : Laws M) (means : K → S) where
  module _ (n : ℕ) (h : Held K) (cs : Standing E) (st : Stands M means n h cs) where
    -- a write at a variable's record that is there
    set_pin_is : (v : ℕ) (p : Option Bool) (old : Var K) → slice_get h.vars v ≡ Some old → replace_var h v old (with_pin old p) ≡ set_pin h v p
    set_pin_is v p old there = sym (ap (λ o. elim o [ None ↦ h | Some r ↦ replace_var h v r (with_pin r p) ]) there)

    pub pin_stands : (v x : ℕ) → first_no (change_questions M (view_of n cs) (Pin v x)) ≡ None → Stands M means n (set_pin h v (Some (eqb x 1))) (more cs (Pin v x))
    pin_stands v x pass =
        let below = ltb-true v n (all_yes (change_questions M (view_of n cs) (Pin v x)) pass).0 in
        let r = (shows M means n h cs st).vars v below in
        subst (λ h'. Stands M means n h' (more cs (Pin v x))) (set_pin_is v (Some (eqb x 1)) r.0 r.1)
        (stands_more M means n h _ cs (Pin v x) (undo_at v (WasVar r.0)) st pass (pinned M laws means n h cs st v x r.0 r.1 r.2))

    pub free_stands : (v : ℕ) → first_no (change_questions M (view_of n cs) (Free v)) ≡ None → Stands M means n (set_pin h v None) (more cs (Free v))
    free_stands v pass =
        let below = ltb-true v n (all_yes (change_questions M (view_of n cs) (Free v)) pass).0 in
        let r = (shows M means n h cs st).vars v below in
        subst (λ h'. Stands M means n h' (more cs (Free v))) (set_pin_is v None r.0 r.1)
        (stands_more M means n h _ cs (Free v) (undo_at v (WasVar r.0)) st pass (freed M laws means n h cs st v r.0 r.1 r.2))

  module _ (J : K → K → K) (exact : (a b : K) → Together M (means a) (means b) → means (J a b) ≡ M.join (means a) (means b))
      (n : ℕ) (h : Held K) (cs : Standing E) (st : Stands M means n h cs) where
    pub one_stands : (v : ℕ) (es : Two E) (t : Two K) → TwoScored M means es t
        → first_no (change_questions M (view_of n cs) (One v es)) ≡ None → Stands M means n (join_one J h v t) (more cs (One v es))
    one_stands v es t scored pass =
        let below = (one_passed M (view_of n cs) v es pass).below in
        let r = (shows M means n h cs st).vars v below in
        let is = sym (ap (λ x. elim x [ None ↦ h | Some old ↦ replace_var h v old (joined_var J old t) ]) r.1) in
        subst (λ h'. Stands M means n h' (more cs (One v es))) is
        (stands_more M means n h _ cs (One v es) (undo_at v (WasVar r.0)) st pass (posted M laws means J exact n h cs st v es t r.0 pass scored r.1 r.2))

    pub pair_stands : (a b : ℕ) (es : Four E) (f : Four K) (place : Option ℕ) → FourScored M means es f → Place (key a b) (used h) place
        → first_no (change_questions M (view_of n cs) (PairPost a b es)) ≡ None → Stands M means n (join_pair J h (key a b) (lower_first a b f) place) (more cs (PairPost a b es))
    pair_stands a b es f (Some i) scored found pass =
        let old = found.1.pair in
        let inside = slice_get_within (used h) i old found.1.there in
        let below : i < h.kept = omega (arith, inside, length_take_most h.kept h.pairs) in
        let there : slice_get h.pairs i ≡ Some old = sym (nth_take h.pairs h.kept i below) ∙ found.1.there in
        let is = sym (ap (λ x. elim x [ None ↦ h | Some r ↦ replace_pair h i r (joined_pair J r (lower_first a b f)) ]) there) in
        subst (λ h'. Stands M means n h' (more cs (PairPost a b es))) is
        (stands_more M means n h _ cs (PairPost a b es) (undo_at i (WasPair old)) st pass (onto_kept M laws means J exact n h cs st a b es f pass scored i old found.0 found.1.there found.1.key_is))
    pair_stands a b es f None scored absent pass =
        let gone : has_key (key a b) (kept_pairs cs) ≡ false = sym (ap (has_key (key a b)) (shows M means n h cs st).keys) ∙ absent in
        let few : ltb (length (kept_pairs cs)) most_pairs ≡ true = subst (λ t. (t || ltb (length (kept_pairs cs)) most_pairs) ≡ true) gone (pair_passed M (view_of n cs) a b es pass).place in
        let room : h.kept < length h.pairs = omega (arith, ltb-true (length (kept_pairs cs)) most_pairs few, st.kept_is, st.pairs_long) in
        stands_more M means n h _ cs (PairPost a b es) (undo_at h.kept Unkept) st pass (newly_kept M laws means J exact n h cs st a b es f pass scored absent room)
