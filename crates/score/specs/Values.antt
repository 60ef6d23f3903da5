-- One of something for each value of a variable, and for each values of two. Assumes nothing.
use Rattle.std.specs.Prelude.{◌≡◌, ℕ, Bool, true, false, cond, nat_lt}
use Rattle.score.specs.declared.values.Two.{Two}
use Rattle.score.specs.declared.values.Four.{Four}
use Rattle.score.specs.Model.{Model}

abbrev pub at_two : {T : Type 0} → Two T → Bool → T
at_two t x = cond x t.one t.zero

-- one of four, by the values of the first variable and of the second
abbrev pub at_four : {T : Type 0} → Four T → Bool → Bool → T
at_four f false false = f.at00
at_four f false true = f.at01
at_four f true false = f.at10
at_four f true true = f.at11

-- the same four with the second variable first
abbrev pub turned_four : {T : Type 0} → Four T → Four T
turned_four f = record { at00 = f.at00; at01 = f.at10; at10 = f.at01; at11 = f.at11 }

-- as posted, or turned where the higher variable was named first
abbrev pub lower_first : {T : Type 0} → ℕ → ℕ → Four T → Four T
lower_first a b f = cond (nat_lt a b) f (turned_four f)

-- two for each value of the first variable
abbrev pub four_of : {T : Type 0} → Two (Two T) → Four T
four_of t = record { at00 = t.zero.zero; at01 = t.zero.one; at10 = t.one.zero; at11 = t.one.one }

-- J: what a join of two held scores holds
module _ {K : Type 0} (J : K → K → K) where
  abbrev pub joined_two : Two K → Two K → Two K
  joined_two t u = record { zero = J t.zero u.zero; one = J t.one u.one }

  abbrev pub joined_four : Four K → Four K → Four K
  joined_four f g = record { at00 = J f.at00 g.at00; at01 = J f.at01 g.at01; at10 = J f.at10 g.at10; at11 = J f.at11 g.at11 }

-- neutral at each value
module _ {E S K : Type 0} (M : Model E S) (means : K → S) where
  abbrev pub NeutralTwo : Two K → Type 0
  NeutralTwo t = (x : Bool) → means (at_two t x) ≡ M.neutral

  abbrev pub NeutralFour : Four K → Type 0
  NeutralFour f = (x y : Bool) → means (at_four f x y) ≡ M.neutral
