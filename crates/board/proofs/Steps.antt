-- A change goes on at the end of the list, and a back takes its last away. Assumes nothing.
use Rattle.std.proofs.Common.{◌≡◌, ℕ, suc, ◌-◌, ◌<◌, ◌≤◌, List, length, take, set, Some, None, sym, refl, ap, ◌∙◌, subst, arith}
use Rattle.std.specs.List.{slice_get}
use Rattle.std.proofs.lemmas.List.{length-set, length-map, length-take-le, take-take}
use Rattle.score.specs.Model.{Model}
use Rattle.calls.specs.declared.changes.Change.{Change}
use Rattle.calls.specs.Questions.{view_of, first_no, change_questions}
use Rattle.calls.specs.Runs.{without_last}
use Rattle.calls.specs.Standing.{Standing, fresh, more, count, kept_pairs}
use Rattle.calls.proofs.Asked.{change_room}
use Rattle.records.specs.declared.history.Undo.{Undo}
use Rattle.records.specs.declared.history.Was.{Was}
use Rattle.records.specs.declared.history.Was.TheVariants.{Var as WasVar, Pair as WasPair, Unkept}
use Rattle.board.specs.Stands.{Tables, tables_of, undone, Shows, Traces, Stands}
use Rattle.board.specs.Tables.{Held, used, pair_key, undo_at, put_back, take_back}
use Rattle.records.proofs.Lists.{nth_set_same, nth_set_other, take_set}
use Rattle.board.proofs.Views.{shown}

module _ {E S K : Type 0} (M : Model E S) (means : K → S) (n : ℕ) where
  -- a history record past the standing changes may be written
  traces_ahead : (history : List (Undo K)) (i : ℕ) (u : Undo K) (t : Tables K) (cs : Standing E) → count cs ≤ i
      → Traces M means n history t cs → Traces M means n (set history i u) t cs
  traces_ahead history i u t fresh h tr = tr
  traces_ahead history i u t (more cs c) h tr =
      let differ : count cs ≡ i → ⊥ = λ e. omega (arith, h, e) in (
        tr.0,
        (tr.1.0, nth_set_other history i (count cs) u differ ∙ tr.1.1, traces_ahead history i u (undone tr.1.0 t) cs (omega (arith, h)) tr.1.2),
      )

  -- what a write has to keep for its change to go on at the end of the list
  pub record Written (h h' : Held K) (cs : Standing E) (c : Change E) (u : Undo K) : Type 0 where
    pub n_same : h'.n ≡ h.n
    pub standing_more : h'.standing ≡ suc h.standing
    pub history_is : h'.history ≡ set h.history h.standing u
    pub kept_is : h'.kept ≡ length (kept_pairs (more cs c))
    pub vars_long : length h'.vars ≡ length h.vars
    pub pairs_long : length h'.pairs ≡ length h.pairs
    pub shows : Shows M means n (tables_of h') (more cs c)
    pub leads_back : undone u (tables_of h') ≡ tables_of h

  pub stands_more : (h h' : Held K) (cs : Standing E) (c : Change E) (u : Undo K) → Stands M means n h cs
      → first_no (change_questions M (view_of n cs) c) ≡ None → Written h h' cs c u → Stands M means n h' (more cs c)
  stands_more h h' cs c u st ok w =
      let room = change_room M (view_of n cs) c ok in
      let at : h.standing ≡ count cs = st.standing_is in
      let written : h'.history ≡ set h.history (count cs) u = w.history_is ∙ ap (λ i. set h.history i u) at in
      let inside : count cs < length h.history = omega (arith, room, st.history_long) in
      let before = traces_ahead h.history (count cs) u (tables_of h) cs (omega arith) st.traces in
      record {
        n_is = w.n_same ∙ st.n_is;
        standing_is = w.standing_more ∙ ap suc at;
        kept_is = w.kept_is;
        vars_long = omega (arith, w.vars_long, st.vars_long);
        pairs_long = omega (arith, w.pairs_long, st.pairs_long);
        history_long = omega (arith, ap length w.history_is, length-set h.history h.standing u, st.history_long);
        n_small = st.n_small;
        valid = (st.valid, ok);
        traces = (
          w.shows,
          (
            u,
            ap (λ l. slice_get l (count cs)) written ∙ nth_set_same h.history (count cs) u inside,
            subst (λ l. Traces M means n l (undone u (tables_of h')) cs) (sym written) (subst (λ t. Traces M means n (set h.history (count cs) u) t cs) (sym w.leads_back) before),
          ),
        );
      }

  -- the pair records in use are as many as are kept
  used_length : (h : Held K) (cs : Standing E) → Stands M means n h cs → length (used h) ≡ h.kept
  used_length h cs st =
      let keys = ap length (shown M means n h.history (tables_of h) cs st.traces).keys in
      sym (length-map (used h) pair_key) ∙ keys ∙ sym st.kept_is

  -- a record put back on the memory is put back on the tables
  put_back_tables : (h : Held K) (i : ℕ) (w : Was K) → length (used h) ≡ h.kept
      → (tables_of (put_back h (undo_at i w)) ≡ undone (undo_at i w) (tables_of h)) × ((put_back h (undo_at i w)).kept ≡ length (undone (undo_at i w) (tables_of h)).pairs)
  put_back_tables h i (WasVar old) long = (refl, sym long)
  put_back_tables h i (WasPair old) long =
      (ap (λ ps. record { vars = h.vars; pairs = ps }) (take_set h.pairs h.kept i old), sym (length-set (used h) i old ∙ long))
  put_back_tables h i Unkept long =
      let m = length (used h) in
      let fewer : m - 1 ≡ h.kept - 1 = omega (arith, long) in
      let shorter : take (m - 1) (used h) ≡ take (h.kept - 1) h.pairs = ap (λ k. take k (used h)) fewer ∙ take-take (h.kept - 1) h.kept h.pairs (omega arith) in (
        ap (λ ps. record { vars = h.vars; pairs = ps }) (sym shorter),
        sym (length-take-le (m - 1) (used h) (omega arith) ∙ fewer),
      )

  record SameSize (h h' : Held K) : Type 0 where
    vars_long : length h'.vars ≡ length h.vars
    pairs_long : length h'.pairs ≡ length h.pairs
    history_same : h'.history ≡ h.history
    n_same : h'.n ≡ h.n
    standing_less : h'.standing ≡ h.standing - 1

  put_back_size : (h : Held K) (i : ℕ) (w : Was K) → SameSize h (put_back h (undo_at i w))
  put_back_size h i (WasVar old) = record { vars_long = length-set h.vars i old; pairs_long = refl; history_same = refl; n_same = refl; standing_less = refl }
  put_back_size h i (WasPair old) = record { vars_long = refl; pairs_long = length-set h.pairs i old; history_same = refl; n_same = refl; standing_less = refl }
  put_back_size h i Unkept = record { vars_long = refl; pairs_long = refl; history_same = refl; n_same = refl; standing_less = refl }

  pub back_stands : (h : Held K) (cs : Standing E) → Stands M means n h cs → 0 < count cs → Stands M means n (take_back h) (without_last cs)
  back_stands h fresh st some = absurd (omega (arith, some))
  back_stands h (more cs c) st some =
      let u = st.traces.1.0 in
      let at : h.standing - 1 ≡ count cs = omega (arith, st.standing_is) in
      let newest : slice_get h.history (h.standing - 1) ≡ Some u = ap (slice_get h.history) at ∙ st.traces.1.1 in
      let is : put_back h u ≡ take_back h = sym (ap (λ o. elim o [ None ↦ h | Some v ↦ put_back h v ]) newest) in
      let tables = put_back_tables h u.at u.was (used_length h (more cs c) st) in
      let size = put_back_size h u.at u.was in
      let before = st.traces.1.2 in
      let keys = (shown M means n h.history (undone u (tables_of h)) cs before).keys in
      subst (λ x. Stands M means n x cs) is
      (record {
        n_is = size.n_same ∙ st.n_is;
        standing_is = size.standing_less ∙ at;
        kept_is = tables.1 ∙ sym (length-map (undone u (tables_of h)).pairs pair_key) ∙ ap length keys;
        vars_long = omega (arith, size.vars_long, st.vars_long);
        pairs_long = omega (arith, size.pairs_long, st.pairs_long);
        history_long = omega (arith, ap length size.history_same, st.history_long);
        n_small = st.n_small;
        valid = st.valid.0;
        traces = subst (λ l. Traces M means n l (tables_of (put_back h u)) cs) (sym size.history_same) (subst (λ t. Traces M means n h.history t cs) (sym tables.0) before);
      })
