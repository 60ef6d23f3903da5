-- What a step does to the records. Assumes nothing.
use Rattle.std.specs.Prelude.{ℕ, suc, Bool, true, false, cond, not, List, [], ◌∷◌, length, take, set, Some, None, filter, Option, nat_lt}
use Rattle.std.specs.List.{fold, slice_get}
use Rattle.score.specs.Model.{Model}
use Rattle.score.specs.declared.choice.Choice.{Choice}
use Rattle.score.specs.declared.values.Two.{Two}
use Rattle.score.specs.declared.values.Four.{Four}
use Rattle.score.specs.Values.{at_two, at_four}
use Rattle.records.specs.declared.pairs.Link.{Link}
use Rattle.records.specs.declared.pairs.Pair.{Pair}
use Rattle.records.specs.Pairs.{touches, link_of, is_pair, joined_pair, place}
use Rattle.sheets.specs.declared.variables.Var.{Var}
use Rattle.sheets.specs.Variables.{joined_var}

abbrev pub choose_held : {K : Type 0} → K → Bool → Choice K
choose_held a t = record { score = a; second = t }

-- the better of two held scores, and the first if they are equal
abbrev pub chosen : {E S K : Type 0} → Model E S → (K → S) → K → K → Choice K
chosen M means a b = cond (M.at_most (means b) (means a)) (choose_held a false) (choose_held b true)

-- the pairs without y
abbrev pub kept : {K : Type 0} → ℕ → List (Pair K) → List (Pair K)
kept y ps = filter (λ p. not (touches y p)) ps

-- the two scores of a pair, the first variable standing at c
abbrev pub row : {K : Type 0} → Bool → Four K → Two K
row c f = record { zero = at_four f c false; one = at_four f c true }

-- J: what a join of two held scores holds
module _ {K : Type 0} (J : K → K → K) where
  -- a variable's score at w joined with the pair's, the partner standing at u
  abbrev pub worth_one : Two K → Link K → Bool → Bool → K
  worth_one r l u w = J (at_two r w) (at_four l.scores w u)

  -- the same with two pairs, the partners standing at u and t
  abbrev pub worth_two : Two K → Link K → Link K → Bool → Bool → Bool → K
  worth_two r l m u t w = J (worth_one r l u w) (at_four m.scores w t)

  -- a variable's two scores joined with the pair's, the partner standing at u
  abbrev pub worth : Two K → Link K → Bool → Two K
  worth r l u = record { zero = worth_one r l u false; one = worth_one r l u true }

  abbrev pub join_at : List (Var K) → ℕ → Two K → List (Var K)
  join_at vs x t = elim (slice_get vs x) [ None ↦ vs | Some r ↦ set vs x (joined_var J r t) ]

  -- the scores of a pair, the first variable at c, go to the partner
  abbrev pub hand : Bool → List (Var K) → Option (Link K) → List (Var K)
  hand c vs None = vs
  hand c vs (Some l) = join_at vs l.partner (row c l.scores)

  abbrev pub handed : ℕ → Bool → List (Var K) → List (Pair K) → List (Var K)
  handed y c vs ps = fold (λ ws p. hand c ws (link_of y p)) vs ps

  -- the pair of x and z: joined onto the first record, or a new one
  abbrev pub post : ℕ → ℕ → Four K → List (Pair K) → List (Pair K)
  post x z f [] = record { low = x; high = z; scores = f } ∷ []
  post x z f (p ∷ ps) = cond (is_pair x z p) (joined_pair J p f ∷ ps) (p ∷ post x z f ps)

  abbrev pub join_pair_at : List (Pair K) → ℕ → Four K → List (Pair K)
  join_pair_at ps i f = elim (slice_get ps i) [ None ↦ ps | Some p ↦ set ps i (joined_pair J p f) ]

  -- the same post in a table of which the first `used` are in use; without room for a new pair nothing changes
  abbrev pub post_in : ℕ → ℕ → Four K → ℕ → List (Pair K) → List (Pair K)
  post_in x z f used ps = elim (place x z (take used ps)) [
    | None ↦ cond (nat_lt used (length ps)) (set ps used (record { low = x; high = z; scores = f })) ps
    | Some i ↦ join_pair_at ps i f
  ]

-- how many are in use after a post
abbrev pub post_used : {K : Type 0} → ℕ → ℕ → ℕ → List (Pair K) → ℕ
post_used x z used ps = elim (place x z (take used ps)) [ None ↦ cond (nat_lt used (length ps)) (suc used) used | Some i ↦ used ]

-- the choices for each values of two partners, and their scores
abbrev pub two_best : {E S K : Type 0} → Model E S → (K → S) → (K → K → K) → Two K → Link K → Link K → Four (Choice K)
two_best M means J r l m = record {
  at00 = chosen M means (worth_two J r l m false false false) (worth_two J r l m false false true);
  at01 = chosen M means (worth_two J r l m false true false) (worth_two J r l m false true true);
  at10 = chosen M means (worth_two J r l m true false false) (worth_two J r l m true false true);
  at11 = chosen M means (worth_two J r l m true true false) (worth_two J r l m true true true);
}

abbrev pub two_scores : {K : Type 0} → Four (Choice K) → Four K
two_scores f = record { at00 = f.at00.score; at01 = f.at01.score; at10 = f.at10.score; at11 = f.at11.score }
