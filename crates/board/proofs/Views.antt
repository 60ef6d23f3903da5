-- The questions put to the records are those put to the list. Assumes nothing.
use Rattle.std.proofs.Common.{◌≡◌, ℕ, ◌<◌, Bool, true, false, not, ltb, List, [], ◌∷◌, length, is_some, Option, refl, ap, ◌∙◌}
use Rattle.std.proofs.lemmas.Bool.{ltb-true}
use Rattle.score.specs.Model.{Model}
use Rattle.calls.specs.declared.changes.Change.{Change}
use Rattle.calls.specs.declared.changes.Change.TheVariants.{One, Pair, Pin, Free}
use Rattle.calls.specs.declared.refusals.Refusal.{Refusal}
use Rattle.calls.specs.declared.refusals.Refusal.TheVariants.{NoVariable, Value, Pinned, NotPinned, HistoryFull}
use Rattle.calls.specs.Questions.{View, Question, view_of, first_no, change_questions, most_changes}
use Rattle.calls.specs.Standing.{Standing, fresh, more, count, kept_pairs, pin_of}
use Rattle.board.specs.Stands.{Tables, tables_of, Shows, Traces, Stands}
use Rattle.board.specs.Tables.{Held, var_pin, records_view}

-- under a first question that says no, the rest does not matter
under : (t : Bool) (f : Refusal) (p q : Option Bool) (rest : Option Bool → List Question) → (t ≡ true → p ≡ q)
    → first_no ((t, f) ∷ rest p) ≡ first_no ((t, f) ∷ rest q)
under true f p q rest same = ap (λ x. first_no (rest x)) (same refl)
under false f p q rest same = refl

module _ {E S K : Type 0} (M : Model E S) (means : K → S) (n : ℕ) where
  pub shown : (history : List _) (t : Tables K) (cs : Standing E) → Traces M means n history t cs → Shows M means n t cs
  shown history t fresh h = h
  shown history t (more cs c) h = h.0

  module _ (h : Held K) (cs : Standing E) (st : Stands M means n h cs) where
    pub shows : Shows M means n (tables_of h) cs
    shows = shown h.history (tables_of h) cs st.traces

    -- a variable's pin
    pub pin_same : (v : ℕ) → v < n → (records_view h).pin v ≡ pin_of cs v
    pin_same v below = let r = shows.vars v below in ap var_pin r.1 ∙ r.2.pin

    -- all but the pins
    half : View
    half = record { n = n; standing = count cs; kept = length (kept_pairs cs); keys = kept_pairs cs; pin = (records_view h).pin }

    half_is : records_view h ≡ half
    unfolding half
    half_is = λ i. record { n = st.n_is i; standing = st.standing_is i; kept = st.kept_is i; keys = shows.keys i; pin = (records_view h).pin }

    half_asks : (c : Change E) → first_no (change_questions M half c) ≡ first_no (change_questions M (view_of n cs) c)
    unfolding half
    half_asks (One v es) = refl
    half_asks (Pair a b es) = refl
    half_asks (Pin v x) =
        under (ltb v n) NoVariable _ _ (λ p. (ltb x 2, Value) ∷ (not (is_some p), Pinned) ∷ (ltb (count cs) most_changes, HistoryFull) ∷ []) (λ t. pin_same v (ltb-true v n t))
    half_asks (Free v) = under (ltb v n) NoVariable _ _ (λ p. (is_some p, NotPinned) ∷ (ltb (count cs) most_changes, HistoryFull) ∷ []) (λ t. pin_same v (ltb-true v n t))

    pub asks_same : (c : Change E) → first_no (change_questions M (records_view h) c) ≡ first_no (change_questions M (view_of n cs) c)
    asks_same c = ap (λ w. first_no (change_questions M w c)) half_is ∙ half_asks c
