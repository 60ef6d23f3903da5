-- What a worksheet says, whatever the order of its records, and what it is worth at a layout. Assumes nothing.
use Rattle.std.specs.Prelude.{◌≡◌, ℕ, zero, suc, ◌+◌, ◌<◌, Bool, true, cond, is_some, Some, None, Option, ◌==◌, nat_le, nat_lt}
use Rattle.std.specs.Option.{option_map}
use Rattle.score.specs.Model.{Model}

-- V: the values that a variable can take; S: the scores.
pub record Sheet (V S : Type 0) : Type 0 where
  -- every variable's number is below it
  pub size : ℕ
  pub base : S
  -- the variables that remain, each with its score at every value
  pub one : ℕ → Option (V → S)
  -- the pairs between them, the lower variable and its value first
  pub two : ℕ → ℕ → Option (V → V → S)

abbrev pub remains : {V S : Type 0} → Sheet V S → ℕ → Bool
remains s v = is_some (s.one v)

-- variables are below the size, and a pair is between two that remain, the lower first
pub record Sound {V S : Type 0} (s : Sheet V S) : Type 0 where
  pub below : (v : ℕ) → remains s v ≡ true → v < s.size
  pub lower_first : (a b : ℕ) → is_some (s.two a b) ≡ true → a < b
  pub left : (a b : ℕ) → is_some (s.two a b) ≡ true → remains s a ≡ true
  pub right : (a b : ℕ) → is_some (s.two a b) ≡ true → remains s b ≡ true

-- The join of f 0, f 1, .. below n.
abbrev pub over : {E S : Type 0} → Model E S → ℕ → (ℕ → S) → S
over M zero f = M.neutral
over M (suc n) f = M.join (over M n f) (f n)

-- what is not there is neutral
abbrev pub one_score : {E S V : Type 0} → Model E S → Option (V → S) → V → S
one_score M None u = M.neutral
one_score M (Some f) u = f u

abbrev pub two_score : {E S V : Type 0} → Model E S → Option (V → V → S) → V → V → S
two_score M None u w = M.neutral
two_score M (Some f) u w = f u w

-- The base, the score of every variable and the score of every pair, joined, at the values of a layout.
abbrev pub value : {E S V : Type 0} → Model E S → Sheet V S → (ℕ → V) → S
value M s l =
    M.join s.base
    (M.join (over M s.size (λ v. one_score M (s.one v) (l v)))
    (over M s.size (λ a. over M s.size (λ b. two_score M (s.two a b) (l a) (l b)))))

-- The same layout with the value u for the variable y.
abbrev pub put : {V : Type 0} → (ℕ → V) → ℕ → V → (ℕ → V)
put l y u v = cond (v == y) u (l v)

-- Partners -------------------------------------------------------------------------------------------------------------------------

abbrev pub turned : {V S : Type 0} → (V → V → S) → (V → V → S)
turned f u w = f w u

-- the pair of a and b, whichever is the lower, with a's value first
abbrev pub pair : {V S : Type 0} → Sheet V S → ℕ → ℕ → Option (V → V → S)
pair s a b = cond (nat_lt a b) (s.two a b) (cond (nat_lt b a) (option_map turned (s.two b a)) None)

abbrev pub partners : {V S : Type 0} → Sheet V S → ℕ → ℕ → Bool
partners s a b = is_some (pair s a b)

-- Numbers are a kind too: their join adds, and 0 is neutral.
abbrev pub numbers : Model ℕ ℕ
numbers = record { neutral = 0; join = ◌+◌; at_most = nat_le; score = Some }

-- how many below n pass the test
abbrev pub count : ℕ → (ℕ → Bool) → ℕ
count n p = over numbers n (λ v. cond (p v) 1 0)

-- how many partners v has
abbrev pub degree : {V S : Type 0} → Sheet V S → ℕ → ℕ
degree s v = count s.size (partners s v)

-- how many variables have three or more
abbrev pub busy : {V S : Type 0} → Sheet V S → ℕ
busy s = count s.size (λ v. nat_le 3 (degree s v))

-- how many variables remain
abbrev pub remaining : {V S : Type 0} → Sheet V S → ℕ
remaining s = count s.size (remains s)
