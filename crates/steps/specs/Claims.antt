-- What the steps do, as statements: each is proved for every score kind. Assumes nothing.
use Rattle.std.specs.Prelude.{◌≡◌, ℕ, ◌+◌, ◌-◌, ◌*◌, ◌^◌, ◌<◌, ◌≤◌, Bool, true, cond, ◌⊎◌, List, length, is_some, Some, None, Option}
use Rattle.score.specs.Model.{Model, better, exact_entries}
use Rattle.steps.specs.Sheet.{Sheet, Sound, remains, remaining, over, two_score, value, put, degree, busy}
use Rattle.steps.specs.Change.{Values, choose, left_set}
use Rattle.steps.specs.Start.{banks, unpinned, pinned, start, start_notes, pinned_at_once, with_pins, Keeps, board_busy}
use Rattle.steps.specs.Counts.{Few, OfAll, JoinsExact}
use Rattle.steps.specs.Steps.{Note, taken, read, Removal, Held, holding, whole, Explored}

-- Removals -------------------------------------------------------------------------------------------------------------------------

-- After a removal, at any layout of the rest, the value is the greatest over the removed variable's values, and the noted
-- choice attains it.
pub record KeepsBest {E S V : Type 0} (M : Model E S) (s : Sheet V S) (m : Note V) (s' : Sheet V S) : Type 0 where
  pub attained : (l : ℕ → V) → value M s (put l m.variable (taken m.way l)) ≡ value M s' l
  pub greatest : (l : ℕ → V) (c : V) → M.at_most (value M s (put l m.variable c)) (value M s' l) ≡ true

abbrev pub RemovalsKeepBest : {E S : Type 0} → Model E S → Type 0 → Type 0
RemovalsKeepBest {S = S} M V =
    (vs : Values V) (s : Sheet V S) (m : Note V) (s' : Sheet V S) → Sound s → Removal M vs s m s' → KeepsBest M s m s' × Sound s'

-- A variable that is set: the value is that of the layout with this value put in.
abbrev pub SettingStands : {E S : Type 0} → Model E S → Type 0 → Type 0
SettingStands {S = S} M V =
    (s : Sheet V S) (y : ℕ) (c : V) → Sound s → remains s y ≡ true
    → ((l : ℕ → V) → value M (left_set M y c s) l ≡ value M s (put l y c)) × Sound (left_set M y c s)

-- Explorations ---------------------------------------------------------------------------------------------------------------------

-- A bound's law: a score that it replies with is at least the value at every layout of the remaining variables.
abbrev pub Admissible : {E S : Type 0} → Model E S → (V : Type 0) → (Sheet V S → Option S) → Type 0
Admissible {S = S} M V rule =
    (s : Sheet V S) (b : S) → Sound s → rule s ≡ Some b → (l : ℕ → V) → M.at_most (value M s l) b ≡ true

-- something is held, and c is at most its score
pub record Topped {E S V : Type 0} (M : Model E S) (h : Option (Held V S)) (c : S) : Type 0 where
  pub best : Held V S
  pub is_held : h ≡ Some best
  pub above : M.at_most c best.score ≡ true

-- What is held afterwards is the greatest of what was held and of all values of the sheet; it is what was held, or the value
-- of the sheet at a layout of its variables, held with that layout completed from the notes.
pub record Greatest {E S V : Type 0} (M : Model E S) (s : Sheet V S) (notes : List (Note V)) (old new : Option (Held V S)) : Type 0 where
  pub above_old : (h : Held V S) → old ≡ Some h → Topped M new h.score
  pub above_all : (l : ℕ → V) → Topped M new (value M s l)
  pub attained : (new ≡ old) ⊎ ((l : ℕ → V) × (new ≡ Some (holding (value M s l) (read notes l))))

abbrev pub ExploredGreatest : {E S : Type 0} → Model E S → Type 0 → Type 0
ExploredGreatest {S = S} M V =
    (vs : Values V) (rule : Sheet V S → Option S) (s : Sheet V S) (notes : List (Note V)) (old new : Option (Held V S)) (k : ℕ)
    → Admissible M V rule → Sound s → Explored M vs rule (whole s) notes old new k → Greatest M s notes old new

-- There is one outcome at most.
abbrev pub ExploredOnce : {E S : Type 0} → Model E S → Type 0 → Type 0
ExploredOnce {S = S} M V =
    (vs : Values V) (rule : Sheet V S → Option S) (s : Sheet V S) (notes : List (Note V)) (old : Option (Held V S))
    (new new' : Option (Held V S)) (k k' : ℕ) → Sound s
    → Explored M vs rule (whole s) notes old new k → Explored M vs rule (whole s) notes old new' k' → (new ≡ new') × (k ≡ k')

-- There is one outcome at least.
pub record Outcome {E S V : Type 0} (M : Model E S) (vs : Values V) (rule : Sheet V S → Option S) (s : Sheet V S) (notes : List (Note V)) (old : Option (Held V S)) : Type 0 where
  pub new : Option (Held V S)
  pub splits : ℕ
  pub explored : Explored M vs rule (whole s) notes old new splits

abbrev pub ExploredAlways : {E S : Type 0} → Model E S → Type 0 → Type 0
ExploredAlways {S = S} M V =
    (vs : Values V) (rule : Sheet V S → Option S) (s : Sheet V S) (notes : List (Note V)) (old : Option (Held V S))
    → Sound s → Outcome M vs rule s notes old

-- Every step makes the worksheet smaller: fewer variables remain after a removal and after one is set, no more have three or more
-- partners after a removal, and fewer after one of these is set.
pub record Shrinks {E S : Type 0} (M : Model E S) (V : Type 0) : Type 0 where
  pub removal_fewer : (vs : Values V) (s : Sheet V S) (m : Note V) (s' : Sheet V S) → Sound s → Removal M vs s m s' → remaining s' < remaining s
  pub removal_busy : (vs : Values V) (s : Sheet V S) (m : Note V) (s' : Sheet V S) → Sound s → Removal M vs s m s' → busy s' ≤ busy s
  pub set_fewer : (s : Sheet V S) (y : ℕ) (c : V) → Sound s → remains s y ≡ true → remaining (left_set M y c s) < remaining s
  pub set_busy : (vs : Values V) (s : Sheet V S) (y : ℕ) (c : V) → Sound s → remains s y ≡ true → 3 ≤ degree s y → busy (left_set M y c s) < busy s

-- With two values there are at most 2 ^ k - 1 splits, k the variables with three or more partners; with m values
-- (m ^ k - 1) / (m - 1).
abbrev pub SplitsBounded : {E S : Type 0} → Model E S → Type 0 → Type 0
SplitsBounded {S = S} M V =
    (vs : Values V) (rule : Sheet V S → Option S) (s : Sheet V S) (notes : List (Note V)) (old new : Option (Held V S)) (k : ℕ)
    → Sound s → Explored M vs rule (whole s) notes old new k
    → k * (length vs.each - 1) + 1 ≤ length vs.each ^ busy s

-- With the two banks, `limit` of the number of such variables.
abbrev pub BankSplitsWithin : {E S : Type 0} → Model E S → (ℕ → ℕ) → Type 0
BankSplitsWithin {S = S} M limit =
    (rule : Sheet Bool S → Option S) (s : Sheet Bool S) (notes : List (Note Bool)) (old new : Option (Held Bool S)) (k : ℕ)
    → Sound s → Explored M banks rule (whole s) notes old new k → k + 1 ≤ limit (busy s)

-- The start ------------------------------------------------------------------------------------------------------------------------

-- The sheet with the pins set is worth, at every layout, what the board is worth at the layout with the pins put in; the
-- notes put them in; and as many variables are busy as on the board.
pub record Starts {E S V : Type 0} (M : Model E S) (pins : ℕ → Option V) (s : Sheet V S) : Type 0 where
  pub sound : Sound (start M pins s)
  pub value_is : (l : ℕ → V) → value M (start M pins s) l ≡ value M s (with_pins pins s.size l)
  pub reads : (l : ℕ → V) → read (start_notes pins s) l ≡ with_pins pins s.size l
  pub busy_is : busy (start M pins s) ≡ board_busy pins s

abbrev pub StartStands : {E S : Type 0} → Model E S → Type 0 → Type 0
StartStands {S = S} M V = (pins : ℕ → Option V) (s : Sheet V S) → Sound s → Starts M pins s

-- Setting the pins in turn and working them in at once is the same.
abbrev pub StartAtOnce : {E S : Type 0} → Model E S → Type 0 → Type 0
StartAtOnce {S = S} M V =
    (pins : ℕ → Option V) (s : Sheet V S) → Sound s → ((v : ℕ) → s.size ≤ v → pins v ≡ None)
    → start M pins s ≡ pinned_at_once M pins s

-- What a solve ends with: a layout that keeps the pins, its score, and no layout that keeps them scores more.
pub record Solved {E S V : Type 0} (M : Model E S) (pins : ℕ → Option V) (s : Sheet V S) (new : Option (Held V S)) : Type 0 where
  pub best : Held V S
  pub is_held : new ≡ Some best
  pub keeps : Keeps pins s.size best.layout
  pub scores : value M s best.layout ≡ best.score
  pub greatest : (l : ℕ → V) → Keeps pins s.size l → M.at_most (value M s l) best.score ≡ true

abbrev pub SolveStands : {E S : Type 0} → Model E S → Type 0 → Type 0
SolveStands {S = S} M V =
    (vs : Values V) (rule : Sheet V S → Option S) (pins : ℕ → Option V) (s : Sheet V S) (new : Option (Held V S)) (k : ℕ)
    → Admissible M V rule → Sound s → Explored M vs rule (whole (start M pins s)) (start_notes pins s) None new k
    → Solved M pins s new × (k * (length vs.each - 1) + 1 ≤ length vs.each ^ board_busy pins s)

-- What is worked out from a board --------------------------------------------------------------------------------------------------

-- Before any pin the sheet's value is the layout's score: the scores at its values, joined over every variable and every
-- kept pair.
abbrev pub UnpinnedStands : {E S : Type 0} → Model E S → Type 0 → Type 0
UnpinnedStands {S = S} M V =
    (n : ℕ) (one : ℕ → V → S) (two : ℕ → ℕ → Option (V → V → S))
    → ((a b : ℕ) → is_some (two a b) ≡ true → (a < b) × (b < n))
    → Sound (unpinned M n one two)
    × ((l : ℕ → V) → value M (unpinned M n one two) l
    ≡ M.join (over M n (λ v. one v (l v))) (over M n (λ a. over M n (λ b. two_score M (two a b) (l a) (l b)))))

-- With the two banks the choice is the better of two, and the first if they are equal.
abbrev pub BanksChoose : {E S : Type 0} → Model E S → Bool → Bool → Type 0
BanksChoose {S = S} M first second =
    (y : ℕ) (f : Bool → S)
    → (choose M banks y f ≡ cond (M.at_most (f second) (f first)) first second)
    × (f (choose M banks y f) ≡ better M (f first) (f second))

-- Entries --------------------------------------------------------------------------------------------------------------------------

-- If a sheet is of few enough entries, every join that a step makes on it is exact, and it stays so after every step.
pub record EntriesKept {E S V : Type 0} (M : Model E S) (s : Sheet V S) : Type 0 where
  pub exact : JoinsExact M s
  pub after_removal : (vs : Values V) (m : Note V) (s' : Sheet V S) → Removal M vs s m s' → Few M s'
  pub after_setting : (y : ℕ) (c : V) → remains s y ≡ true → Few M (left_set M y c s)
  -- however many of the pins are set
  pub after_pins : (pins : ℕ → Option V) (k : ℕ) → k ≤ s.size → Few M (pinned M pins k s)

abbrev pub EntriesStand : {E S : Type 0} → Model E S → Type 0 → Type 0
EntriesStand {S = S} M V = (s : Sheet V S) → Sound s → Few M s → EntriesKept M s

-- A sheet of m entries stays one of m entries after every step: no step makes the total grow. If m is at most 1,024, every
-- join that a step makes is exact.
pub record TotalKept {E S V : Type 0} (M : Model E S) (m : ℕ) (s : Sheet V S) : Type 0 where
  pub exact : m ≤ exact_entries → JoinsExact M s
  pub after_removal : (vs : Values V) (n : Note V) (s' : Sheet V S) → Removal M vs s n s' → OfAll M m s'
  pub after_setting : (y : ℕ) (c : V) → remains s y ≡ true → OfAll M m (left_set M y c s)
  -- however many of the pins are set
  pub after_pins : (pins : ℕ → Option V) (k : ℕ) → k ≤ s.size → OfAll M m (pinned M pins k s)

abbrev pub TotalsStand : {E S : Type 0} → Model E S → Type 0 → Type 0
TotalsStand {S = S} M V = (s : Sheet V S) (m : ℕ) → Sound s → OfAll M m s → TotalKept M m s
