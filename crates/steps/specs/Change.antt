-- What leaves a worksheet and what is joined onto it: the sheets that the steps make. Assumes nothing.
use Rattle.std.specs.Prelude.{◌≡◌, ℕ, cond, ◌&&◌, ◌||◌, ◌⊎◌, List, [], ◌∷◌, Some, None, Option, ◌==◌}
use Rattle.std.specs.Option.{option_map}
use Rattle.score.specs.Model.{Model}
use Rattle.steps.specs.Sheet.{Sheet, one_score, two_score, pair}

-- Choosing a value -----------------------------------------------------------------------------------------------------------------

abbrev pub Among : {V : Type 0} → V → List V → Type 0
Among v [] = ⊥
Among v (w ∷ ws) = (v ≡ w) ⊎ Among v ws

-- The values a variable can take, in order and all of them, and which one each variable prefers where two are equally good.
pub record Values (V : Type 0) : Type 0 where
  pub each : List V
  pub complete : (v : V) → Among v each
  pub preferred : ℕ → V

-- the value with the greatest score of p and those listed; an earlier one stays where they are equal
abbrev pub choice : {E S V : Type 0} → Model E S → (V → S) → V → List V → V
choice M f p [] = p
choice M f p (v ∷ vs) = choice M f (cond (M.at_most (f v) (f p)) p v) vs

-- what y takes if these are the scores of its values
abbrev pub choose : {E S V : Type 0} → Model E S → Values V → ℕ → (V → S) → V
choose M vs y f = choice M f (vs.preferred y) vs.each

-- Parts of a sheet changed ---------------------------------------------------------------------------------------------------------

-- y leaves with its score and its pairs
abbrev pub without : {V S : Type 0} → ℕ → Sheet V S → Sheet V S
without y s = record {
  size = s.size;
  base = s.base;
  one = λ v. cond (v == y) None (s.one v);
  two = λ a b. cond (a == y || b == y) None (s.two a b);
}

abbrev pub onto_base : {E S V : Type 0} → Model E S → S → Sheet V S → Sheet V S
onto_base M c s = record { size = s.size; base = M.join s.base c; one = s.one; two = s.two }

abbrev pub onto_scores : {E S V : Type 0} → Model E S → (V → S) → (V → S) → (V → S)
onto_scores M g f u = M.join (f u) (g u)

-- each score of x is joined with g
abbrev pub onto_one : {E S V : Type 0} → Model E S → ℕ → (V → S) → Sheet V S → Sheet V S
onto_one M x g s = record {
  size = s.size;
  base = s.base;
  one = λ v. cond (v == x) (option_map (onto_scores M g) (s.one x)) (s.one v);
  two = s.two;
}

-- g, joined onto what was there if anything was
abbrev pub onto_pair : {E S V : Type 0} → Model E S → (V → V → S) → Option (V → V → S) → (V → V → S)
onto_pair M g None u w = g u w
onto_pair M g (Some f) u w = M.join (f u w) (g u w)

-- each score of the pair of x and z, x the lower, is joined with g; g becomes that pair if there was none
abbrev pub onto_two : {E S V : Type 0} → Model E S → ℕ → ℕ → (V → V → S) → Sheet V S → Sheet V S
onto_two M x z g s = record {
  size = s.size;
  base = s.base;
  one = s.one;
  two = λ a b. cond (a == x && b == z) (Some (onto_pair M g (s.two x z))) (s.two a b);
}

-- What a variable y is worth -------------------------------------------------------------------------------------------------------

-- y's own score
abbrev pub own : {E S V : Type 0} → Model E S → Sheet V S → ℕ → V → S
own M s y = one_score M (s.one y)

-- the score of the pair of y and x, y's value first
abbrev pub both : {E S V : Type 0} → Model E S → Sheet V S → ℕ → ℕ → V → V → S
both M s y x = two_score M (pair s y x)

-- y's score joined with the pair's, x standing at u
abbrev pub with_one : {E S V : Type 0} → Model E S → Sheet V S → ℕ → ℕ → V → V → S
with_one M s y x u w = M.join (own M s y w) (both M s y x w u)

-- y's score joined with both pairs', x standing at u and z at t
abbrev pub with_two : {E S V : Type 0} → Model E S → Sheet V S → ℕ → ℕ → ℕ → V → V → V → S
with_two M s y x z u t w = M.join (with_one M s y x u w) (both M s y z w t)

-- The sheets after a variable y has left -------------------------------------------------------------------------------------------

-- without partners: the score of its better value is joined to the base
abbrev pub left_alone : {E S V : Type 0} → Model E S → Values V → ℕ → Sheet V S → Sheet V S
left_alone M vs y s = onto_base M (own M s y (choose M vs y (own M s y))) (without y s)

-- with the one partner x: each score of x is joined with the better, over y's values, of y's score joined with the pair's
abbrev pub left_one : {E S V : Type 0} → Model E S → Values V → ℕ → ℕ → Sheet V S → Sheet V S
left_one M vs y x s = onto_one M x (λ u. with_one M s y x u (choose M vs y (with_one M s y x u))) (without y s)

-- with the two partners x and z: for each of their values, the better over y's is joined onto their pair
abbrev pub left_two : {E S V : Type 0} → Model E S → Values V → ℕ → ℕ → ℕ → Sheet V S → Sheet V S
left_two M vs y x z s =
    onto_two M x z (λ u t. with_two M s y x z u t (choose M vs y (with_two M s y x z u t))) (without y s)

-- y is set to c: its score goes to the base, and the score of each of its pairs to the partner
abbrev pub left_set : {E S V : Type 0} → Model E S → ℕ → V → Sheet V S → Sheet V S
left_set M y c s = record {
  size = s.size;
  base = M.join s.base (own M s y c);
  one = λ v. cond (v == y) None (option_map (onto_scores M (both M s y v c)) (s.one v));
  two = (without y s).two;
}
