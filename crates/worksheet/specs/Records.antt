-- The contents that records say: the worksheet that they stand for, whatever their order. Assumes nothing.
use Rattle.std.specs.Prelude.{◌≡◌, ℕ, ◌<◌, Bool, cond, List, [], ◌∷◌, length, Some, None, Option}
use Rattle.std.specs.Option.{option_map}
use Rattle.std.specs.List.{AllByRecursion, slice_get}
use Rattle.steps.specs.Sheet.{Sheet}
use Rattle.score.specs.declared.values.Four.{Four}
use Rattle.score.specs.declared.values.Two.{Two}
use Rattle.score.specs.Values.{at_two, at_four}
use Rattle.records.specs.declared.pairs.Link.{Link}
use Rattle.records.specs.declared.pairs.Pair.{Pair}
use Rattle.records.specs.Pairs.{is_pair}
use Rattle.sheets.specs.declared.variables.Var.{Var}
use Rattle.sheets.specs.declared.variables.Var.TheVariants.{Remains, Left}

-- the first record of the pair of a and b
abbrev pub found : {K : Type 0} → ℕ → ℕ → List (Pair K) → Option (Pair K)
found a b [] = None
found a b (p ∷ ps) = cond (is_pair a b p) (Some p) (found a b ps)

-- means: the score that a held one stands for
module _ {K S : Type 0} (means : K → S) where
  abbrev pub var_scores : Two K → Bool → S
  var_scores r u = means (at_two r u)

  abbrev pub four_scores : Four K → Bool → Bool → S
  four_scores f u w = means (at_four f u w)

  abbrev pub pair_scores : Pair K → Bool → Bool → S
  pair_scores p = four_scores p.scores

  abbrev pub link_scores : Link K → Bool → Bool → S
  link_scores l = four_scores l.scores

  -- a variable that has left says nothing
  abbrev pub var_says : Option (Var K) → Option (Bool → S)
  var_says None = None
  var_says (Some (Remains r)) = Some (var_scores r)
  var_says (Some (Left r)) = None

  abbrev pub contents : K → List (Var K) → List (Pair K) → Sheet Bool S
  contents base vs ps = record {
    size = length vs;
    base = means base;
    one = λ v. var_says (slice_get vs v);
    two = λ a b. option_map pair_scores (found a b ps);
  }

-- The order that is kept among the records ---------------------------------------------------------------------------------------------

abbrev pub Present : {K : Type 0} → List (Var K) → ℕ → Type 0
Present {K} vs v = (r : Two K) × (slice_get vs v ≡ Some (Remains r))

pub record Placed {K : Type 0} (vs : List (Var K)) (p : Pair K) : Type 0 where
  pub lower_first : p.low < p.high
  pub low_present : Present vs p.low
  pub high_present : Present vs p.high

-- no two are of the same variables
abbrev pub Apart : {K : Type 0} → List (Pair K) → Type 0
Apart [] = Unit {0}
Apart (p ∷ ps) = (found p.low p.high ps ≡ None) × Apart ps

-- each pair is of two variables that remain, the lower first, and there is one record for each
pub record Arranged {K : Type 0} (vs : List (Var K)) (ps : List (Pair K)) : Type 0 where
  pub placed : AllByRecursion (Placed vs) ps
  pub apart : Apart ps
