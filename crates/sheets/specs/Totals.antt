-- Joins over all records: of the better scores, and of the better entries of each pair onto its lower variable. Assumes nothing.
use Rattle.std.specs.Prelude.{List}
use Rattle.std.specs.List.{fold}
use Rattle.score.specs.Model.{Model}
use Rattle.score.specs.declared.values.Two.{Two}
use Rattle.records.specs.declared.pairs.Pair.{Pair}
use Rattle.sheets.specs.Changed.{chosen, join_at}
use Rattle.sheets.specs.declared.variables.Var.{Var}
use Rattle.sheets.specs.declared.variables.Var.TheVariants.{Remains, Left}

module _ {E S K : Type 0} (M : Model E S) (means : K → S) where
  abbrev pub best_of_two : Two K → K
  best_of_two t = (chosen M means t.zero t.one).score

  -- the better entries of a pair, at each value of its lower variable
  abbrev pub low_bests : Pair K → Two K
  low_bests p = record { zero = (chosen M means p.scores.at00 p.scores.at01).score; one = (chosen M means p.scores.at10 p.scores.at11).score }

  abbrev pub best_pair : Pair K → K
  best_pair p = best_of_two (low_bests p)

module _ {E S K : Type 0} (M : Model E S) (means : K → S) (J : K → K → K) where
  -- a variable that remains is joined on
  abbrev pub with_var : K → Var K → K
  with_var k (Remains r) = J k (best_of_two M means r)
  with_var k (Left r) = k

  abbrev pub with_vars : K → List (Var K) → K
  with_vars k vs = fold with_var k vs

  abbrev pub with_pairs : K → List (Pair K) → K
  with_pairs k ps = fold (λ t p. J t (best_pair M means p)) k ps

  -- the better entries of a pair go to its lower variable
  abbrev pub with_arm : List (Var K) → Pair K → List (Var K)
  with_arm vs p = join_at J vs p.low (low_bests M means p)

  abbrev pub arms : List (Var K) → List (Pair K) → List (Var K)
  arms vs ps = fold with_arm vs ps
