-- Changes to a variable's record: one, pin and free. Assumes nothing.
use Rattle.std.proofs.Common.{◌≡◌, ℕ, ◌<◌, true, false, eqb, ◌⊎◌, length, set, Some, None, unwrap_or, sym, refl, ap, ◌∙◌, subst, inl, inr, arith}
use Rattle.std.specs.List.{slice_get}
use Rattle.std.proofs.ByRecursion.{All-weaker}
use Rattle.std.proofs.lemmas.List.{length-set}
use Rattle.std.proofs.lemmas.Bool.{cases_eq, cond-true, cond-false, eq-eqb, ne_eqb}
use Rattle.score.specs.Model.{Model, Laws, Of, Together}
use Rattle.score.proofs.Entries.{of_one}
use Rattle.calls.specs.declared.changes.Change.{Change}
use Rattle.calls.specs.declared.changes.Change.TheVariants.{One, Pin, Free}
use Rattle.calls.specs.Entries.{TwoScored}
use Rattle.calls.specs.Questions.{view_of, first_no, change_questions, most_changes}
use Rattle.calls.specs.Standing.{Standing, more, count, kept_pairs, pin_of, one_score, score_of}
use Rattle.calls.proofs.Asked.{one_passed}
use Rattle.calls.proofs.Counts.{one_of_count}
use Rattle.score.specs.declared.values.Two.{Two}
use Rattle.records.specs.declared.variables.Var.{Var}
use Rattle.records.specs.declared.history.Was.TheVariants.{Var as WasVar}
use Rattle.records.specs.Variables.{joined_var, with_pin}
use Rattle.board.specs.Stands.{VarShows, PairShows, Stands}
use Rattle.board.specs.Tables.{Held, used, replace_var, undo_at}
use Rattle.std.proofs.lemmas.Option.{slice_get_within}
use Rattle.records.proofs.Lists.{nth_set_same, nth_set_other, set_back}
use Rattle.board.proofs.Steps.{Written}
use Rattle.board.proofs.Views.{shows}

module _ {E S K : Type 0} (M : Model E S) (laws : Laws M) (means : K → S) (n : ℕ) (h : Held K) (cs : Standing E) (st : Stands M means n h cs) where
  -- a variable's record is replaced by one that shows the longer list
  replaced : (c : Change E) (v : ℕ) (old new : Var K) → slice_get h.vars v ≡ Some old
      → VarShows M means n (more cs c) v new
      → ((w : ℕ) → (w ≡ v → ⊥) → (r : Var K) → VarShows M means n cs w r → VarShows M means n (more cs c) w r)
      → kept_pairs (more cs c) ≡ kept_pairs cs
      → ((p : _) → PairShows M means n cs p → PairShows M means n (more cs c) p)
      → Written M means n h (replace_var h v old new) cs c (undo_at v (WasVar old))
  replaced c v old new there here others kept pairs =
      let before = shows M means n h cs st in
      record {
        n_same = refl;
        standing_more = refl;
        history_is = refl;
        kept_is = st.kept_is ∙ ap length (sym kept);
        vars_long = length-set h.vars v new;
        pairs_long = refl;
        shows = record {
          vars = λ w below. at w below (before.vars w below) (cases_eq w v);
          keys = before.keys ∙ sym kept;
          pairs = All-weaker (PairShows M means n cs) (PairShows M means n (more cs c)) pairs (used h) before.pairs;
        };
        leads_back = ap (λ vs. record { vars = vs; pairs = used h }) (set_back h.vars v old new there);
      }
    where
      at : (w : ℕ) → w < n → (r : Var K) × (slice_get h.vars w ≡ Some r) × VarShows M means n cs w r → (w ≡ v) ⊎ (w ≡ v → ⊥)
          → (r : Var K) × (slice_get (set h.vars v new) w ≡ Some r) × VarShows M means n (more cs c) w r
      at w below r (inl e) = (
        new,
        ap (slice_get (set h.vars v new)) e ∙ nth_set_same h.vars v new (slice_get_within h.vars v old there),
        subst (λ u. VarShows M means n (more cs c) u new) (sym e) here,
      )
      at w below r (inr e) = (r.0, nth_set_other h.vars v w new e ∙ r.1, others w e r.0 r.2)

  pub pinned : (v x : ℕ) (old : Var K) → slice_get h.vars v ≡ Some old → VarShows M means n cs v old
      → Written M means n h (replace_var h v old (with_pin old (Some (eqb x 1)))) cs (Pin v x) (undo_at v (WasVar old))
  pinned v x old there sh =
      replaced (Pin v x) v old (with_pin old (Some (eqb x 1))) there
      (record { zero = sh.zero; one = sh.one; pin = sym (cond-true (eqb v v) (Some (eqb x 1)) (pin_of cs v) (eq-eqb v v refl)) })
      (λ w e r s. record { zero = s.zero; one = s.one; pin = s.pin ∙ sym (cond-false (eqb v w) (Some (eqb x 1)) (pin_of cs w) (ne_eqb v w (λ k. e (sym k)))) })
      refl
      (λ p s. record { scores = s.scores })

  pub freed : (v : ℕ) (old : Var K) → slice_get h.vars v ≡ Some old → VarShows M means n cs v old
      → Written M means n h (replace_var h v old (with_pin old None)) cs (Free v) (undo_at v (WasVar old))
  freed v old there sh =
      replaced (Free v) v old (with_pin old None) there
      (record { zero = sh.zero; one = sh.one; pin = sym (cond-true (eqb v v) None (pin_of cs v) (eq-eqb v v refl)) })
      (λ w e r s. record { zero = s.zero; one = s.one; pin = s.pin ∙ sym (cond-false (eqb v w) None (pin_of cs w) (ne_eqb v w (λ k. e (sym k)))) })
      refl
      (λ p s. record { scores = s.scores })

-- one more entry joined on, where there is room
module _ {E S K : Type 0} (M : Model E S) (laws : Laws M) (means : K → S) (J : K → K → K)
    (exact : (a b : K) → Together M (means a) (means b) → means (J a b) ≡ M.join (means a) (means b)) where
  pub joined_exactly : (m : ℕ) (a b : K) (s : S) (e : E) → m < most_changes → means a ≡ s → Of M m s → M.score e ≡ Some (means b)
      → means (J a b) ≡ M.join s (score_of M e)
  joined_exactly m a b s e room is of scored =
      let score : means b ≡ score_of M e = sym (ap (λ o. unwrap_or o M.neutral) scored) in
      exact a b (record { left = m; right = 1; within = omega (arith, room); of_left = subst (Of M m) (sym is) of; of_right = of_one M laws e (means b) scored })
      ∙ (λ i. M.join (is i) (score i))

  module _ (n : ℕ) (h : Held K) (cs : Standing E) (st : Stands M means n h cs) where
    pub posted : (v : ℕ) (es : Two E) (t : Two K) (old : Var K) → first_no (change_questions M (view_of n cs) (One v es)) ≡ None
        → TwoScored M means es t → slice_get h.vars v ≡ Some old → VarShows M means n cs v old
        → Written M means n h (replace_var h v old (joined_var J old t)) cs (One v es) (undo_at v (WasVar old))
    posted v es t old pass scored there sh =
        let room = (one_passed M (view_of n cs) v es pass).room in
        let zero = joined_exactly (count cs) old.scores.zero t.zero _ es.zero room sh.zero (one_of_count M laws n cs st.valid v false) scored.at_zero in
        let one = joined_exactly (count cs) old.scores.one t.one _ es.one room sh.one (one_of_count M laws n cs st.valid v true) scored.at_one in
        replaced M laws means n h cs st (One v es) v old (joined_var J old t) there
        (record {
          zero = zero ∙ sym (cond-true (eqb v v) (M.join (one_score M cs v false) (score_of M es.zero)) (one_score M cs v false) (eq-eqb v v refl));
          one = one ∙ sym (cond-true (eqb v v) (M.join (one_score M cs v true) (score_of M es.one)) (one_score M cs v true) (eq-eqb v v refl));
          pin = sh.pin;
        })
        (λ w e r s. record {
          zero = s.zero ∙ sym (cond-false (eqb v w) (M.join (one_score M cs w false) (score_of M es.zero)) (one_score M cs w false) (ne_eqb v w (λ k. e (sym k))));
          one = s.one ∙ sym (cond-false (eqb v w) (M.join (one_score M cs w true) (score_of M es.one)) (one_score M cs w true) (ne_eqb v w (λ k. e (sym k))));
          pin = s.pin;
        })
        refl
        (λ p s. record { scores = s.scores })
