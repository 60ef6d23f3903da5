-- The standing changes of a board, and what they give: scores, kept pairs, pins, partners, busy variables. Assumes nothing.
use Rattle.std.specs.Prelude.{ℕ, zero, suc, ◌+◌, min, max, Bool, false, cond, not, ◌&&◌, ◌||◌, List, [], ◌∷◌, ◌++◌, map, is_some, Some, None, Option, ◌==◌, nat_le, nat_lt}
use Rattle.std.specs.Option.{unwrap_or}
use Rattle.score.specs.Model.{Model, joined}
use Rattle.calls.specs.declared.changes.Change.{Change}
use Rattle.calls.specs.declared.changes.Change.TheVariants.{One, Pair, Pin, Free}
use Rattle.score.specs.declared.values.Four.{Four}
use Rattle.score.specs.Values.{at_four, at_two}

-- The list of standing changes: empty on a fresh board, a change goes on at its end.
pub data Standing (E : Type 0) : Type 0 where
  fresh : Standing E
  more : Standing E → Change E → Standing E

abbrev pub count : {E : Type 0} → Standing E → ℕ
count fresh = 0
count (more cs c) = suc (count cs)

-- two variables, the lower first
abbrev pub key : ℕ → ℕ → ℕ × ℕ
key a b = (min a b, max a b)

abbrev pub same_key : ℕ × ℕ → ℕ × ℕ → Bool
same_key p q = p.0 == q.0 && p.1 == q.1

abbrev pub has_key : ℕ × ℕ → List (ℕ × ℕ) → Bool
has_key k [] = false
has_key k (p ∷ ps) = same_key k p || has_key k ps

-- the pairs that are kept, the lower variable first, in the order of their first posts
abbrev pub kept_pairs : {E : Type 0} → Standing E → List (ℕ × ℕ)
kept_pairs fresh = []
kept_pairs (more cs (One v es)) = kept_pairs cs
kept_pairs (more cs (Pair a b es)) = cond (has_key (key a b) (kept_pairs cs)) (kept_pairs cs) (kept_pairs cs ++ key a b ∷ [])
kept_pairs (more cs (Pin v x)) = kept_pairs cs
kept_pairs (more cs (Free v)) = kept_pairs cs

-- a variable whose last standing pin or free is a pin is pinned at its value
abbrev pub pin_of : {E : Type 0} → Standing E → ℕ → Option Bool
pin_of fresh w = None
pin_of (more cs (One v es)) w = pin_of cs w
pin_of (more cs (Pair a b es)) w = pin_of cs w
pin_of (more cs (Pin v x)) w = cond (v == w) (Some (x == 1)) (pin_of cs w)
pin_of (more cs (Free v)) w = cond (v == w) None (pin_of cs w)

-- the entry of a pair's post at the values of the lower and of the higher variable; a post the other way round is turned
abbrev pub posted_at : {T : Type 0} → ℕ → ℕ → Four T → Bool → Bool → T
posted_at a b es low high = cond (nat_lt a b) (at_four es low high) (at_four es high low)

module _ {E S : Type 0} (M : Model E S) where
  -- the score of an entry; only taken ones are ever posted
  abbrev pub score_of : E → S
  score_of e = unwrap_or (M.score e) M.neutral

  -- the score of variable w at a value: its posts joined
  abbrev pub one_score : Standing E → ℕ → Bool → S
  one_score fresh w x = M.neutral
  one_score (more cs (One v es)) w x = cond (v == w) (M.join (one_score cs w x) (score_of (at_two es x))) (one_score cs w x)
  one_score (more cs (Pair a b es)) w x = one_score cs w x
  one_score (more cs (Pin v y)) w x = one_score cs w x
  one_score (more cs (Free v)) w x = one_score cs w x

  -- the score of a pair at the values of its lower and of its higher variable: its posts joined
  abbrev pub pair_score : Standing E → ℕ × ℕ → Bool → Bool → S
  pair_score fresh p x y = M.neutral
  pair_score (more cs (One v es)) p x y = pair_score cs p x y
  pair_score (more cs (Pair a b es)) p x y = cond (same_key (key a b) p) (M.join (pair_score cs p x y) (score_of (posted_at a b es x y))) (pair_score cs p x y)
  pair_score (more cs (Pin v z)) p x y = pair_score cs p x y
  pair_score (more cs (Free v)) p x y = pair_score cs p x y

-- the variables from 0, as many as n
abbrev pub variables : ℕ → List ℕ
variables zero = []
variables (suc n) = variables n ++ n ∷ []

-- A layout gives every variable a value.
-- Its score: the scores at its values, joined over every variable and every kept pair.
abbrev pub layout_score : {E S : Type 0} → Model E S → ℕ → Standing E → (ℕ → Bool) → S
layout_score M n cs L =
    joined M (map (λ v. one_score M cs v (L v)) (variables n) ++ map (λ p. pair_score M cs p (L p.0) (L p.1)) (kept_pairs cs))

-- two variables are partners if a pair is kept between them
abbrev pub partners : {E : Type 0} → Standing E → ℕ → ℕ → Bool
partners cs a b = has_key (key a b) (kept_pairs cs)

abbrev pub unpinned : {E : Type 0} → Standing E → ℕ → Bool
unpinned cs v = not (is_some (pin_of cs v))

-- how many of these pass a test
abbrev pub how_many : {X : Type 0} → (X → Bool) → List X → ℕ
how_many t [] = 0
how_many t (x ∷ xs) = cond (t x) 1 0 + how_many t xs

-- a variable is busy if it is unpinned and has three or more different unpinned partners
abbrev pub busy : {E : Type 0} → ℕ → Standing E → ℕ → Bool
busy n cs v = unpinned cs v && nat_le 3 (how_many (λ w. partners cs v w && unpinned cs w) (variables n))
