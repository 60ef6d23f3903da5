-- What an accepted change passed. Assumes nothing.
use Rattle.std.proofs.Common.{◌≡◌, ℕ, ◌<◌, Bool, true, false, cond, ◌||◌, eqb, ltb, List, [], ◌∷◌, Some, None, refl}
use Rattle.std.proofs.lemmas.Bool.{and_parts, ltb-true, eqb-false, not-true}
use Rattle.score.specs.Model.{Model}
use Rattle.calls.specs.declared.changes.Change.{Change}
use Rattle.calls.specs.declared.changes.Change.TheVariants.{One, Pair, Pin, Free}
use Rattle.score.specs.declared.values.Four.{Four}
use Rattle.score.specs.declared.values.Two.{Two}
use Rattle.calls.specs.Questions.{View, Question, first_no, change_questions, takes, takes_four, most_changes, most_pairs}
use Rattle.calls.specs.Standing.{key, has_key}

abbrev AllYes : List Question → Type 0
AllYes [] = Unit {0}
AllYes (q ∷ qs) = (q.0 ≡ true) × AllYes qs

-- where no question says no, all say yes
pub all_yes : (qs : List Question) → first_no qs ≡ None → AllYes qs
all_yes [] h = tt
all_yes (q ∷ qs) h = go q.0 refl h (all_yes qs)
  where
    go : (t : Bool) → q.0 ≡ t → cond t (first_no qs) (Some q.1) ≡ None → (first_no qs ≡ None → AllYes qs) → (q.0 ≡ true) × AllYes qs
    go true e k rest = (e, rest k)
    go false e k rest = absurd cc

module _ {E S : Type 0} (M : Model E S) (w : View) where
  pub record OnePassed (v : ℕ) (es : Two E) : Type 0 where
    pub below : v < w.n
    pub zero_taken : takes M es.zero ≡ true
    pub one_taken : takes M es.one ≡ true
    pub room : w.standing < most_changes

  pub one_passed : (v : ℕ) (es : Two E) → first_no (change_questions M w (One v es)) ≡ None → OnePassed v es
  one_passed v es h =
      let yes' = all_yes (change_questions M w (One v es)) h in
      let both = and_parts (takes M es.zero) (takes M es.one) yes'.1.0 in
      record { below = ltb-true v w.n yes'.0; zero_taken = both.0; one_taken = both.1; room = ltb-true w.standing most_changes yes'.1.1.0 }

  pub record PairPassed (a b : ℕ) (es : Four E) : Type 0 where
    pub first_below : a < w.n
    pub second_below : b < w.n
    pub differ : a ≡ b → ⊥
    pub taken : takes_four M es ≡ true
    pub room : w.standing < most_changes
    pub place : (has_key (key a b) w.keys || ltb w.kept most_pairs) ≡ true

  pub pair_passed : (a b : ℕ) (es : Four E) → first_no (change_questions M w (Pair a b es)) ≡ None → PairPassed a b es
  pair_passed a b es h =
      let yes' = all_yes (change_questions M w (Pair a b es)) h in
      let below = and_parts (ltb a w.n) (ltb b w.n) yes'.0 in
      record {
        first_below = ltb-true a w.n below.0;
        second_below = ltb-true b w.n below.1;
        differ = eqb-false a b (not-true (eqb a b) yes'.1.0);
        taken = yes'.1.1.0;
        room = ltb-true w.standing most_changes yes'.1.1.1.0;
        place = yes'.1.1.1.1.0;
      }

  -- every accepted change found room in the history
  pub change_room : (c : Change E) → first_no (change_questions M w c) ≡ None → w.standing < most_changes
  change_room (One v es) h = (one_passed v es h).room
  change_room (Pair a b es) h = (pair_passed a b es h).room
  change_room (Pin v x) h = ltb-true w.standing most_changes (all_yes (change_questions M w (Pin v x)) h).1.1.1.0
  change_room (Free v) h = ltb-true w.standing most_changes (all_yes (change_questions M w (Free v)) h).1.1.0
