-- What each removal does to a worksheet's records, in the words of the steps. Assumes nothing.
--
-- b, vs, ps: the base, the variable records and the pair records in use before, and with a prime afterwards.
use Rattle.std.specs.Prelude.{◌≡◌, ℕ, ◌<◌, Bool, true, false, ◌&&◌, ◌||◌, List, IfNone, Option, MatchOption, ◌==◌, ◌≢◌, nat_eq}
use Rattle.std.specs.List.{slice_get}
use Rattle.score.specs.Model.{Model}
use Rattle.steps.specs.Change.{choose, own, with_one, with_two, left_alone, left_one, left_two, left_set}
use Rattle.steps.specs.Counts.{JoinsExact}
use Rattle.steps.specs.Sheet.{Sheet, remains, partners, degree}
use Rattle.steps.specs.Start.{banks}
use Rattle.steps.specs.Steps.{Note, noted, alone, by_one, by_two, set_to}
use Rattle.notes.specs.declared.removal.Removal.{Removal}
use Rattle.records.specs.declared.pairs.Pair.{Pair}
use Rattle.sheets.specs.declared.variables.Var.{Var}
use Rattle.notes.specs.Removals.{note_of}
use Rattle.worksheet.specs.Records.{found, contents, Arranged}

-- where nothing is returned
abbrev pub WhereNone : {X : Type 0} → Option X → Type 0 → Type 0
WhereNone r P = IfNone r P

-- The records are still in order, all that are not touched are as they were, and where the joins of a step are exact, the note
-- is m and the contents are s'.
pub record Leaves {E S K : Type 0} (M : Model E S) (means : K → S) (b b' : K) (vs vs' : List (Var K)) (ps ps' : List (Pair K))
    (touched : ℕ → Bool) (pair_touched : ℕ → ℕ → Bool) (n : Removal) (m : Note Bool) (s' : Sheet Bool S) : Type 0 where
  pub arranged : Arranged vs' ps'
  pub others : (v : ℕ) → touched v ≡ false → slice_get vs' v ≡ slice_get vs v
  pub other_pairs : (x z : ℕ) → pair_touched x z ≡ false → found x z ps' ≡ found x z ps
  pub note_is : JoinsExact M (contents means b vs ps) → note_of n ≡ m
  pub says_is : JoinsExact M (contents means b vs ps) → contents means b' vs' ps' ≡ s'

-- the pairs of y
abbrev pub pairs_of : ℕ → ℕ → ℕ → Bool
pairs_of y a b = a == y || b == y

module _ {E S K : Type 0} (M : Model E S) (means : K → S) where
  -- y leaves alone, or it does not remain without partners
  abbrev pub AloneLeft : K → K → List (Var K) → List (Var K) → List (Pair K) → ℕ → Option Removal → Type 0
  AloneLeft b b' vs vs' ps y r =
      let s = contents means b vs ps in
      Arranged vs ps → MatchOption r (remains s y ≡ true → degree s y ≢ 0)
      (λ n. (remains s y ≡ true) × (degree s y ≡ 0)
      × Leaves M means b b' vs vs' ps ps (λ v. nat_eq v y) (λ _ _. false) n (noted y (alone (choose M banks y (own M s y)))) (left_alone M banks y s))

  -- y leaves by its one partner x, or it does not remain with one
  abbrev pub OneLeft : List (Var K) → List (Var K) → List (Pair K) → List (Pair K) → ℕ → Option Removal → Type 0
  OneLeft vs vs' ps ps' y r =
      (b : K) → let s = contents means b vs ps in
      Arranged vs ps → MatchOption r (remains s y ≡ true → degree s y ≢ 1)
      (λ n. (x : ℕ) × (remains s y ≡ true) × (degree s y ≡ 1) × (partners s y x ≡ true)
      × Leaves M means b b vs vs' ps ps' (λ v. (v == y) || v == x) (pairs_of y) n
      (noted y (by_one x (λ u. choose M banks y (with_one M s y x u)))) (left_one M banks y x s))

  -- y leaves by its two partners x and z, or it does not remain with two
  abbrev pub TwoLeft : List (Var K) → List (Var K) → List (Pair K) → List (Pair K) → ℕ → Option Removal → Type 0
  TwoLeft vs vs' ps ps' y r =
      (b : K) → let s = contents means b vs ps in
      Arranged vs ps → MatchOption r (remains s y ≡ true → degree s y ≢ 2)
      (λ n. (x : ℕ) × (z : ℕ) × (remains s y ≡ true) × (degree s y ≡ 2) × (partners s y x ≡ true) × (partners s y z ≡ true) × (x < z)
      × Leaves M means b b vs vs' ps ps' (λ v. nat_eq v y) (λ a c. pairs_of y a c || (a == x && c == z)) n
      (noted y (by_two x z (λ u t. choose M banks y (with_two M s y x z u t)))) (left_two M banks y x z s))

  -- y is set to c, or it does not remain
  abbrev pub SetLeft : K → K → List (Var K) → List (Var K) → List (Pair K) → List (Pair K) → ℕ → Bool → Option Removal → Type 0
  SetLeft b b' vs vs' ps ps' y c r =
      let s = contents means b vs ps in
      Arranged vs ps → MatchOption r (remains s y ≡ false)
      (λ n. (remains s y ≡ true)
      × Leaves M means b b' vs vs' ps ps' (λ v. (v == y) || partners s y v) (pairs_of y) n (noted y (set_to c)) (left_set M y c s))
