-- What a layout selects on a board that stands at a list is what it selects in the list. Assumes nothing.
use Rattle.std.proofs.Common.{◌≡◌, ℕ, zero, suc, ◌+◌, ◌<◌, ◌≤◌, Bool, true, false, ◌&&◌, eqb, List, [], ◌∷◌, ◌++◌, map, length, take, Some, None, Ok, Err, sym, refl, ap, ◌∙◌, subst, add-zero, arith}
use Rattle.std.specs.List.{AllByRecursion, slice_get}
use Rattle.std.proofs.lemmas.List.{append-nil, length-take-le}
use Rattle.std.proofs.lemmas.Bool.{eqb-true}
use Rattle.score.specs.Joins.{Joining, Within}
use Rattle.score.specs.Model.{Model, Laws, joined, exact_entries}
use Rattle.score.proofs.Joins.{joining_start, joining_end}
use Rattle.calls.specs.declared.refusals.Refusal.{Refusal}
use Rattle.calls.specs.declared.refusals.Refusal.TheVariants.{LayoutLength, Value, PinBroken}
use Rattle.calls.specs.Questions.{view_of, first_no, score_questions, all_values, keeps_pin, keeps_pins}
use Rattle.calls.specs.Runs.{values}
use Rattle.calls.specs.Standing.{Standing, kept_pairs, pin_of, one_score, pair_score, variables, layout_score}
use Rattle.calls.proofs.Counts.{layout_within}
use Rattle.records.specs.declared.pairs.Pair.{Pair}
use Rattle.records.specs.declared.variables.Var.{Var}
use Rattle.score.specs.Values.{at_two}
use Rattle.board.specs.Scoring.{vars_at, pairs_at, JoinsOn}
use Rattle.board.specs.ScoringBoard.{layout_at, LayoutJoined}
use Rattle.board.specs.Stands.{VarShows, PairShows, Stands, Scored}
use Rattle.board.specs.Tables.{Held, used, pair_key, records_view}
use Rattle.records.proofs.Lists.{nth_take}
use Rattle.board.proofs.Views.{shows, pin_same}

-- the numbers from k on, as many as m
abbrev counted : ℕ → ℕ → List ℕ
counted k zero = []
counted k (suc m) = k ∷ counted (suc k) m

counted_push : (k m : ℕ) → counted k (suc m) ≡ counted k m ++ (k + m) ∷ []
counted_push k zero = ap (λ i. i ∷ []) (sym (add-zero k))
counted_push k (suc m) = ap (λ l. k ∷ l) (counted_push (suc k) m ∙ ap (λ i. counted (suc k) m ++ i ∷ []) (omega arith))

variables_counted : (n : ℕ) → variables n ≡ counted 0 n
variables_counted zero = refl
variables_counted (suc n) = ap (λ l. l ++ n ∷ []) (variables_counted n) ∙ sym (counted_push 0 n ∙ ap (λ i. counted 0 n ++ i ∷ []) (omega arith))

module _ {E S K : Type 0} (M : Model E S) (means : K → S) (n : ℕ) (cs : Standing E) (layout : List ℕ) where
  var_shown : (v : ℕ) (r : Var K) (x : Bool) → VarShows M means n cs v r → means (at_two r.scores x) ≡ one_score M cs v x
  var_shown v r true s = s.one
  var_shown v r false s = s.zero

  vars_shown : (k : ℕ) (rs : List (Var K)) → ((j : ℕ) → j < length rs → (r : Var K) × (slice_get rs j ≡ Some r) × VarShows M means n cs (k + j) r)
      → map means (vars_at layout k rs) ≡ map (λ v. one_score M cs v (values layout v)) (counted k (length rs))
  vars_shown k [] each = refl
  vars_shown k (q ∷ rs) each =
      let here = each 0 (omega arith) in
      let q_is : here.0 ≡ q = first_is q here.0 here.1 in
      let shown : VarShows M means n cs k q = subst (λ v. VarShows M means n cs v q) (add-zero k) (subst (VarShows M means n cs (k + 0)) q_is here.2) in
      let rest = vars_shown (suc k) rs (λ j below. let t = each (suc j) (omega (arith, below)) in (t.0, t.1, subst (λ v. VarShows M means n cs v t.0) (omega arith) t.2)) in
      λ i. var_shown k q (values layout k) shown i ∷ rest i
    where
      first_is : (q r : Var K) → Some q ≡ Some r → r ≡ q
      first_is q r h = cc

  pairs_shown : (ps : List (Pair K)) → AllByRecursion (PairShows M means n cs) ps
      → map means (pairs_at layout ps) ≡ map (λ p. pair_score M cs p (values layout p.0) (values layout p.1)) (map pair_key ps)
  pairs_shown [] all = refl
  pairs_shown (p ∷ ps) all = λ i. all.0.scores (values layout p.low) (values layout p.high) i ∷ pairs_shown ps all.1 i

module _ {E S K : Type 0} (M : Model E S) (laws : Laws M) (means : K → S) (h : Held K) (layout : List ℕ) where
  -- the two running joins, one after the other, from the neutral score
  pub joined_all : (start mid r : K) → means start ≡ M.neutral
      → JoinsOn M means (vars_at layout 0 (take h.n h.vars)) start [] mid → JoinsOn M means (pairs_at layout (used h)) mid [] r
      → LayoutJoined M means h layout r
  joined_all start mid r neutral ones twos within =
      let whole = joined M (layout_at means h layout) in
      let begun : Joining M (layout_at means h layout) whole (means start) = subst (Joining M (layout_at means h layout) whole) (sym neutral) (joining_start M laws (layout_at means h layout) within) in
      let half : Joining M (map means (pairs_at layout (used h))) whole (means mid) = ones (map means (pairs_at layout (used h))) whole begun in
      let done = twos [] whole (subst (λ l. Joining M l whole (means mid)) (sym (append-nil (map means (pairs_at layout (used h))))) half) in
      joining_end M laws whole (means r) done

  module _ (n : ℕ) (cs : Standing E) (st : Stands M means n h cs) where
    -- the questions put to the records are those put to the list
    keeps_same : (v : ℕ) (bytes : List ℕ) → v + length bytes ≤ n → keeps_pins (records_view h).pin v bytes ≡ keeps_pins (pin_of cs) v bytes
    keeps_same v [] few = refl
    keeps_same v (x ∷ xs) few = λ i. keeps_pin (pin_same M means n h cs st v (omega (arith, few)) i) x && keeps_same (suc v) xs (omega (arith, few)) i

    pub score_asks_same : first_no (score_questions (records_view h) layout) ≡ first_no (score_questions (view_of n cs) layout)
    score_asks_same = ap (λ m. first_no ((eqb (length layout) m, LayoutLength) ∷ (all_values layout, Value) ∷ (keeps_pins (records_view h).pin 0 layout, PinBroken) ∷ [])) st.n_is ∙ go (eqb (length layout) n) refl
      where
        go : (t : Bool) → eqb (length layout) n ≡ t
            → first_no ((t, LayoutLength) ∷ (all_values layout, Value) ∷ (keeps_pins (records_view h).pin 0 layout, PinBroken) ∷ [])
            ≡ first_no ((t, LayoutLength) ∷ (all_values layout, Value) ∷ (keeps_pins (pin_of cs) 0 layout, PinBroken) ∷ [])
        go true e = ap (λ b. first_no ((all_values layout, Value) ∷ (b, PinBroken) ∷ [])) (keeps_same 0 layout (omega (arith, eqb-true (length layout) n e)))
        go false e = refl

    -- the layout's score
    layout_is : layout_at means h layout ≡ map (λ v. one_score M cs v (values layout v)) (variables n) ++ map (λ p. pair_score M cs p (values layout p.0) (values layout p.1)) (kept_pairs cs)
    layout_is =
        let before = shows M means n h cs st in
        let long : length (take h.n h.vars) ≡ n = length-take-le h.n h.vars (omega (arith, st.n_is, st.n_small, st.vars_long)) ∙ st.n_is in
        let each : (j : ℕ) → j < length (take h.n h.vars) → (r : Var K) × (slice_get (take h.n h.vars) j ≡ Some r) × VarShows M means n cs (0 + j) r =
        λ j below.
        let r = before.vars j (omega (arith, below, long)) in
        (r.0, nth_take h.vars h.n j (omega (arith, below, long, st.n_is)) ∙ r.1, subst (λ v. VarShows M means n cs v r.0) (omega arith) r.2)
        in
        let ones = vars_shown M means n cs layout 0 (take h.n h.vars) each ∙ ap (λ m. map (λ v. one_score M cs v (values layout v)) (counted 0 m)) long ∙ ap (map (λ v. one_score M cs v (values layout v))) (sym (variables_counted n)) in
        let twos = pairs_shown M means n cs layout (used h) before.pairs ∙ ap (map (λ p. pair_score M cs p (values layout p.0) (values layout p.1))) before.keys in
        λ i. ones i ++ twos i

    pub score_is : (r : K) → LayoutJoined M means h layout r → means r ≡ layout_score M n cs (values layout)
    score_is r joins = joins (subst (Within M exact_entries) (sym layout_is) (layout_within M laws n cs st.valid (values layout))) ∙ ap (joined M) layout_is

  pub score_turned_down : (f : Refusal) → Some f ≡ first_no (score_questions (records_view h) layout) → Scored M means h layout (Err f)
  score_turned_down f e = record { reply = e; stands = λ n cs st. (e ∙ score_asks_same n cs st, tt) }

  pub score_accepted : (r : K) → None ≡ first_no (score_questions (records_view h) layout) → LayoutJoined M means h layout r → Scored M means h layout (Ok r)
  score_accepted r e joins = record { reply = e; stands = λ n cs st. (e ∙ score_asks_same n cs st, score_is n cs st r joins) }
