-- The scores of the entries that are posted. Assumes nothing.
use Rattle.std.specs.Prelude.{◌≡◌, Bool, true, false, Some, None, Option}
use Rattle.score.specs.Model.{Model}
use Rattle.score.specs.declared.values.Four.{Four}
use Rattle.score.specs.declared.values.Two.{Two}
use Rattle.calls.specs.Questions.{takes_two, takes_four}
use Rattle.score.specs.Values.{at_four}

module _ {E S K : Type 0} (M : Model E S) (means : K → S) where
  -- two entries have these scores
  pub record TwoScored (es : Two E) (t : Two K) : Type 0 where
    pub at_zero : M.score es.zero ≡ Some (means t.zero)
    pub at_one : M.score es.one ≡ Some (means t.one)

  abbrev pub TwoTaken : Two E → Option (Two K) → Type 0
  TwoTaken es None = takes_two M es ≡ false
  TwoTaken es (Some t) = (takes_two M es ≡ true) × TwoScored es t

  -- four entries have these scores
  abbrev pub FourScored : Four E → Four K → Type 0
  FourScored es f = (x y : Bool) → M.score (at_four es x y) ≡ Some (means (at_four f x y))

  abbrev pub FourTaken : Four E → Option (Four K) → Type 0
  FourTaken es None = takes_four M es ≡ false
  FourTaken es (Some f) = (takes_four M es ≡ true) × FourScored es f
