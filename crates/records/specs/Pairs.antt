-- What a pair says of its two variables, and where it stands among others. Assumes nothing.
use Rattle.std.specs.Prelude.{◌≡◌, ℕ, Bool, cond, ◌&&◌, ◌||◌, List, Some, None, Option, ◌==◌, position}
use Rattle.score.specs.Model.{Model}
use Rattle.score.specs.declared.values.Four.{Four}
use Rattle.score.specs.Values.{turned_four, joined_four, NeutralFour}
use Rattle.records.specs.declared.pairs.Link.{Link}
use Rattle.records.specs.declared.pairs.Pair.{Pair}

-- p is the pair of a and b
abbrev pub is_pair : {K : Type 0} → ℕ → ℕ → Pair K → Bool
is_pair a b p = a == p.low && b == p.high

-- y is one of the pair's two
abbrev pub touches : {K : Type 0} → ℕ → Pair K → Bool
touches y p = p.low == y || p.high == y

abbrev pub link : {K : Type 0} → ℕ → Four K → Link K
link x f = record { partner = x; scores = f }

-- what a pair says of y
abbrev pub link_of : {K : Type 0} → ℕ → Pair K → Option (Link K)
link_of y p = cond (p.low == y) (Some (link p.high p.scores)) (cond (p.high == y) (Some (link p.low (turned_four p.scores))) None)

-- J: what a join of two held scores holds
abbrev pub joined_pair : {K : Type 0} → (K → K → K) → Pair K → Four K → Pair K
joined_pair J p f = record { low = p.low; high = p.high; scores = joined_four J p.scores f }

-- a record of no pair yet: neutral scores
abbrev pub UnusedPair : {E S K : Type 0} → Model E S → (K → S) → Pair K → Type 0
UnusedPair M means p = (p.low ≡ 0) × (p.high ≡ 0) × NeutralFour M means p.scores

-- where the first record of the pair of x and z stands
abbrev pub place : {K : Type 0} → ℕ → ℕ → List (Pair K) → Option ℕ
place x z ps = position (is_pair x z) ps
