-- The steps by which a worksheet is explored, and what is written down on the way. Assumes nothing.
--
-- 1. Leaf: no variable remains. The base and its layout become the best held if none is held or the base is greater.
-- 2. A variable without partners takes its better value, and that score is joined to the base.
-- 3. A variable with one partner leaves: each score of the partner is joined with the better, over the variable's values, of
--    its score joined with the pair's.
-- 4. A variable with two partners leaves: for each of their values, the better over the variable's of its score and both pairs'
--    is joined onto the pair of the two, or becomes that pair if none was there.
-- 5. A best is held and the bound replies with a score at most the best: this side is dropped.
-- 6. Split: the variable with most partners takes the first value; when that side is finished it takes the next on the same
--    worksheet as before. One split, counted once for all sides.
-- The first step that applies is done, over and over. Where several variables qualify, the lowest number goes.
use Rattle.std.specs.Prelude.{◌≡◌, ℕ, suc, ◌+◌, ◌<◌, ◌≤◌, Bool, true, false, cond, List, [], ◌∷◌, Some, None, Option}
use Rattle.score.specs.Model.{Model}
use Rattle.steps.specs.Sheet.{Sheet, remains, partners, degree, put}
use Rattle.steps.specs.Change.{Values, choose, own, with_one, with_two, left_alone, left_one, left_two, left_set}

-- Notes ----------------------------------------------------------------------------------------------------------------------------

-- how a variable left, and the value that it takes
pub data Way (V : Type 0) : Type 0 where
  -- without partners
  alone : V → Way V
  -- by one partner: the value for each of the partner's
  by_one : ℕ → (V → V) → Way V
  -- by two partners: the value for each of theirs
  by_two : ℕ → ℕ → (V → V → V) → Way V
  -- set
  set_to : V → Way V

pub record Note (V : Type 0) : Type 0 where
  pub variable : ℕ
  pub way : Way V

abbrev pub noted : {V : Type 0} → ℕ → Way V → Note V
noted y w = record { variable = y; way = w }

-- the value that a variable takes, the variables removed after it standing as in the layout
abbrev pub taken : {V : Type 0} → Way V → (ℕ → V) → V
taken (alone c) l = c
taken (by_one x c) l = c (l x)
taken (by_two x z c) l = c (l x) (l z)
taken (set_to c) l = c

-- A layout read from the notes, newest first.
abbrev pub read : {V : Type 0} → List (Note V) → (ℕ → V) → (ℕ → V)
read [] l = l
read (m ∷ ms) l = read ms (put l m.variable (taken m.way l))

-- Which variable goes --------------------------------------------------------------------------------------------------------------

-- y remains with r partners; none that remains has fewer, and none with a lower number so few
pub record Least {V S : Type 0} (s : Sheet V S) (r y : ℕ) : Type 0 where
  pub there : remains s y ≡ true
  pub partners_are : degree s y ≡ r
  pub least : (x : ℕ) → remains s x ≡ true → r ≤ degree s x
  pub lowest : (x : ℕ) → remains s x ≡ true → x < y → r < degree s x

-- every variable that remains has three or more partners
abbrev pub Stuck : {V S : Type 0} → Sheet V S → Type 0
Stuck s = (x : ℕ) → remains s x ≡ true → 3 ≤ degree s x

-- y remains; none that remains has more partners, and none with a lower number so many
pub record Most {V S : Type 0} (s : Sheet V S) (y : ℕ) : Type 0 where
  pub there : remains s y ≡ true
  pub most : (x : ℕ) → remains s x ≡ true → degree s x ≤ degree s y
  pub lowest : (x : ℕ) → remains s x ≡ true → x < y → degree s x < degree s y

-- Steps 2, 3 and 4 -----------------------------------------------------------------------------------------------------------------

-- The first removal that applies, the lowest variable first: the note of it, and the sheet after it.
pub data Removal {E S V : Type 0} (M : Model E S) (vs : Values V) (s : Sheet V S) : Note V → Sheet V S → Type 0 where
  -- y without partners takes its better value
  leaves_alone : (y : ℕ) → Least s 0 y
      → Removal M vs s (noted y (alone (choose M vs y (own M s y)))) (left_alone M vs y s)
  -- y leaves by its one partner x
  leaves_by_one : (y x : ℕ) → Least s 1 y → partners s y x ≡ true
      → Removal M vs s (noted y (by_one x (λ u. choose M vs y (with_one M s y x u)))) (left_one M vs y x s)
  -- y leaves by its two partners x and z
  leaves_by_two : (y x z : ℕ) → Least s 2 y → partners s y x ≡ true → partners s y z ≡ true → x < z
      → Removal M vs s (noted y (by_two x z (λ u t. choose M vs y (with_two M s y x z u t)))) (left_two M vs y x z s)

-- Holding a best -------------------------------------------------------------------------------------------------------------------

pub record Held (V S : Type 0) : Type 0 where
  pub score : S
  pub layout : ℕ → V

abbrev pub holding : {V S : Type 0} → S → (ℕ → V) → Held V S
holding c l = record { score = c; layout = l }

-- step 1: the base and its layout become the best held if none is held or the base is greater
abbrev pub better_held : {E S V : Type 0} → Model E S → Option (Held V S) → Held V S → Option (Held V S)
better_held M None new = Some new
better_held M (Some old) new = cond (M.at_most new.score old.score) (Some old) (Some new)

-- step 5: a best is held, and the bound replied with a score at most the best
abbrev pub dropped : {E S V : Type 0} → Model E S → Option S → Option (Held V S) → Bool
dropped M None best = false
dropped M (Some b) None = false
dropped M (Some b) (Some old) = M.at_most b old.score

-- An exploration -------------------------------------------------------------------------------------------------------------------

-- What is to be explored: a whole sheet, or the sheet with the variable y at each of the values left in turn.
pub data Task (V S : Type 0) : Type 0 where
  whole : Sheet V S → Task V S
  sides : ℕ → List V → Sheet V S → Task V S

-- `Explored M vs rule task notes old new k`: after these notes, with the best `old` held, exploring the task
-- by the steps, the first that applies, over and over, ends with `new` held and has made k splits.
-- The rule is the bound's: what it replies about a sheet's contents, or that it says nothing.
pub data Explored {E S V : Type 0} (M : Model E S) (vs : Values V) (rule : Sheet V S → Option S) : Task V S → List (Note V) → Option (Held V S) → Option (Held V S) → ℕ → Type 0 where
  -- step 1: no variable remains
  leaf : (s : Sheet V S) (notes : List (Note V)) (old : Option (Held V S))
      → ((v : ℕ) → remains s v ≡ false)
      → Explored M vs rule (whole s) notes old (better_held M old (holding s.base (read notes vs.preferred))) 0
  -- steps 2, 3 and 4
  removal : (s : Sheet V S) (notes : List (Note V)) (old : Option (Held V S)) {m : Note V} {s' : Sheet V S} {new : Option (Held V S)} {k : ℕ}
      → Removal M vs s m s'
      → Explored M vs rule (whole s') (m ∷ notes) old new k
      → Explored M vs rule (whole s) notes old new k
  -- step 5: some variable remains, and no removal applies
  drop : (s : Sheet V S) (notes : List (Note V)) (old : Option (Held V S))
      → (y : ℕ) → remains s y ≡ true → Stuck s → dropped M (rule s) old ≡ true
      → Explored M vs rule (whole s) notes old old 0
  -- step 6: one split, counted once for all sides
  split : (s : Sheet V S) (notes : List (Note V)) (old : Option (Held V S)) {new : Option (Held V S)} {k : ℕ}
      → (y : ℕ) → Most s y → Stuck s → dropped M (rule s) old ≡ false
      → Explored M vs rule (sides y vs.each s) notes old new k
      → Explored M vs rule (whole s) notes old new (suc k)
  -- every value has had its turn
  finished : (y : ℕ) (s : Sheet V S) (notes : List (Note V)) (old : Option (Held V S))
      → Explored M vs rule (sides y [] s) notes old old 0
  -- y takes the next value; when that side is finished, the others follow on the same sheet
  side : (y : ℕ) (c : V) (cs : List V) (s : Sheet V S) (notes : List (Note V)) (old : Option (Held V S)) {mid new : Option (Held V S)} {j k : ℕ}
      → Explored M vs rule (whole (left_set M y c s)) (noted y (set_to c) ∷ notes) old mid j
      → Explored M vs rule (sides y cs s) notes mid new k
      → Explored M vs rule (sides y (c ∷ cs) s) notes old new (j + k)
