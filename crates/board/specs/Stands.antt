-- When a board stands at a list of standing changes, and what each call promises. Assumes nothing.
use Rattle.std.specs.Prelude.{◌≡◌, ℕ, ◌-◌, ◌<◌, ◌≤◌, Bool, true, false, List, map, length, take, is_ok, IfOk, Some, Result, slice_set}
use Rattle.std.specs.List.{AllByRecursion, slice_get}
use Rattle.score.specs.Model.{Model}
use Rattle.calls.specs.declared.changes.Change.{Change}
use Rattle.calls.specs.declared.refusals.Refusal.{Refusal}
use Rattle.calls.specs.Posts.{Valid}
use Rattle.calls.specs.Questions.{View, Question, view_of, first_no, refusal_in, change_questions, back_questions, score_questions, most_variables, most_pairs, most_changes}
use Rattle.calls.specs.Standing.{Standing, fresh, more, count, kept_pairs, pin_of, one_score, pair_score, layout_score}
use Rattle.score.specs.Values.{at_four}
use Rattle.calls.specs.Runs.{without_last, values}
use Rattle.records.specs.declared.pairs.Pair.{Pair}
use Rattle.records.specs.declared.history.Undo.{Undo}
use Rattle.records.specs.declared.variables.Var.{Var}
use Rattle.records.specs.declared.history.Was.TheVariants.{Var as WasVar, Pair as WasPair, Unkept}
use Rattle.board.specs.Tables.{Held, pair_key, used, records_view}

-- the variable records, and the pair records in use
pub record Tables (K : Type 0) : Type 0 where
  pub vars : List (Var K)
  pub pairs : List (Pair K)

abbrev pub tables_of : {K : Type 0} → Held K → Tables K
tables_of h = record { vars = h.vars; pairs = used h }

-- the tables with a history record's contents put back
abbrev pub undone : {K : Type 0} → Undo K → Tables K → Tables K
undone u t = elim u.was [
  | WasVar old ↦ record { vars = slice_set t.vars u.at old; pairs = t.pairs }
  | WasPair old ↦ record { vars = t.vars; pairs = slice_set t.pairs u.at old }
  | Unkept ↦ record { vars = t.vars; pairs = take (length t.pairs - 1) t.pairs }
]

module _ {E S K : Type 0} (M : Model E S) (means : K → S) (n : ℕ) where
  -- a variable's record holds the scores and the pin that the list gives
  pub record VarShows (cs : Standing E) (v : ℕ) (r : Var K) : Type 0 where
    pub zero : means r.scores.zero ≡ one_score M cs v false
    pub one : means r.scores.one ≡ one_score M cs v true
    pub pin : r.pin ≡ pin_of cs v

  -- a pair's record holds the scores that the list gives
  pub record PairShows (cs : Standing E) (p : Pair K) : Type 0 where
    pub scores : (x y : Bool) → means (at_four p.scores x y) ≡ pair_score M cs (pair_key p) x y

  -- scores, pins and kept pairs are those that the list gives
  pub record Shows (t : Tables K) (cs : Standing E) : Type 0 where
    pub vars : (v : ℕ) → v < n → (r : Var K) × (slice_get t.vars v ≡ Some r) × VarShows cs v r
    pub keys : map pair_key t.pairs ≡ kept_pairs cs
    pub pairs : AllByRecursion (PairShows cs) t.pairs

  -- the tables show the list, and each history record leads back to tables that show the list before its change, down to the first
  abbrev pub Traces : List (Undo K) → Tables K → Standing E → Type 0
  Traces history t fresh = Shows t fresh
  Traces history t (more cs c) = Shows t (more cs c) × ((u : Undo K) × (slice_get history (count cs) ≡ Some u) × Traces history (undone u t) cs)

  -- the board stands at this list of changes
  pub record Stands (h : Held K) (cs : Standing E) : Type 0 where
    pub n_is : h.n ≡ n
    pub standing_is : h.standing ≡ count cs
    pub kept_is : h.kept ≡ length (kept_pairs cs)
    pub vars_long : most_variables ≤ length h.vars
    pub pairs_long : most_pairs ≤ length h.pairs
    pub history_long : most_changes ≤ length h.history
    pub n_small : n ≤ most_variables
    pub valid : Valid M n cs
    pub traces : Traces h.history (tables_of h) cs

-- What a call that may change the board promises. Which refusal comes is said over the records, whatever they hold; turned down, it leaves every
-- record and count as found; and for every list at which the board stands, the refusal is that of the list, and accepted, the board stands at the next.
pub record Answered {E S K : Type 0} (M : Model E S) (means : K → S) (before after : Held K) (asks : View → List Question) (next : Standing E → Standing E) (r : Result (Unit {0}) Refusal) : Type 0 where
  pub reply : refusal_in r ≡ first_no (asks (records_view before))
  pub refused : is_ok r ≡ false → after ≡ before
  pub stands : (n : ℕ) (cs : Standing E) → Stands M means n before cs
      → (refusal_in r ≡ first_no (asks (view_of n cs))) × (is_ok r ≡ true → Stands M means n after (next cs))

-- a change goes on at the end of the list
abbrev pub Changed : {E S K : Type 0} → Model E S → (K → S) → Held K → Held K → Change E → Result (Unit {0}) Refusal → Type 0
Changed M means before after c r = Answered M means before after (λ w. change_questions M w c) (λ cs. more cs c) r

-- a back takes the last change away
abbrev pub TakenBack : {E S K : Type 0} → Model E S → (K → S) → Held K → Held K → Result (Unit {0}) Refusal → Type 0
TakenBack M means before after r = Answered M means before after back_questions without_last r

-- a score is that of the layout, and the board is asked only
pub record Scored {E S K : Type 0} (M : Model E S) (means : K → S) (h : Held K) (layout : List ℕ) (r : Result K Refusal) : Type 0 where
  pub reply : refusal_in r ≡ first_no (score_questions (records_view h) layout)
  pub stands : (n : ℕ) (cs : Standing E) → Stands M means n h cs
      → (refusal_in r ≡ first_no (score_questions (view_of n cs) layout)) × IfOk r (λ s. means s ≡ layout_score M n cs (values layout))
