-- What a score kind is: its scores, the laws they keep, and how many entries a score is of. Assumes nothing.
use Rattle.std.specs.Prelude.{◌≡◌, ℕ, ◌+◌, ◌≤◌, Bool, true, false, cond, ◌⊎◌, List, [], ◌∷◌, length, Some, Option}
use Rattle.std.specs.List.{AllByRecursion}

-- E: the entries that can be posted; S: the scores.
-- `score` gives each entry that is taken its score; an entry that is not taken has none.
pub record Model (E S : Type 0) : Type 0 where
  pub neutral : S
  pub join : S → S → S
  pub at_most : S → S → Bool
  pub score : E → Option S

pub record Laws {E S : Type 0} (M : Model E S) : Type 0 where
  pub assoc : (a b c : S) → M.join (M.join a b) c ≡ M.join a (M.join b c)
  pub comm : (a b : S) → M.join a b ≡ M.join b a
  pub unit : (a : S) → M.join M.neutral a ≡ a
  -- any two scores compare
  pub compares : (a b : S) → (M.at_most a b ≡ true) ⊎ (M.at_most b a ≡ true)
  pub trans : (a b c : S) → M.at_most a b ≡ true → M.at_most b c ≡ true → M.at_most a c ≡ true
  pub antisym : (a b : S) → M.at_most a b ≡ true → M.at_most b a ≡ true → a ≡ b
  -- joining a third score to both keeps the order
  pub keeps : (a b c : S) → M.at_most a b ≡ true → M.at_most (M.join a c) (M.join b c) ≡ true

-- all of these scores joined
abbrev pub joined : {E S : Type 0} → Model E S → List S → S
joined M [] = M.neutral
joined M (s ∷ ss) = M.join s (joined M ss)

-- s is the score of an entry that is taken
pub record Entered {E S : Type 0} (M : Model E S) (s : S) : Type 0 where
  pub entry : E
  pub scored : M.score entry ≡ Some s

-- s is of m entries: the scores of m or fewer taken entries join to it
pub record Of {E S : Type 0} (M : Model E S) (m : ℕ) (s : S) : Type 0 where
  pub scores : List S
  pub few : length scores ≤ m
  pub each : AllByRecursion (Entered M) scores
  pub joins : joined M scores ≡ s

-- how many entries every kind joins exactly
abbrev pub exact_entries : ℕ
exact_entries = 1024

-- a and b are together of at most that many entries
pub record Together {E S : Type 0} (M : Model E S) (a b : S) : Type 0 where
  pub left : ℕ
  pub right : ℕ
  pub within : left + right ≤ exact_entries
  pub of_left : Of M left a
  pub of_right : Of M right b

-- the better of two scores: the greater, and the first if they are equal
abbrev pub better : {E S : Type 0} → Model E S → S → S → S
better M a b = cond (M.at_most b a) a b

-- r is the best of a and b: neither is above it, and it is b only where b is above a
pub record BestOfTwo {E S : Type 0} (M : Model E S) (a b : S) (second : Bool) (r : S) : Type 0 where
  pub is : r ≡ cond second b a
  pub first_below : M.at_most a r ≡ true
  pub second_below : M.at_most b r ≡ true
  pub second_above : second ≡ true → M.at_most b a ≡ false
