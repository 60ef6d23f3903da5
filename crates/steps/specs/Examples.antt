-- Little boards worked out by the steps, on the definitions. Assumes nothing.
use Rattle.std.specs.Prelude.{◌≡◌, ℕ, zero, suc, Bool, true, false, cond, ◌&&◌, List, [], ◌∷◌, ◌++◌, ℤ, pos, Some, None, Option, ◌==◌, nat_lt}
use Rattle.score.specs.Examples.{Examples as Scored}
use Rattle.score.specs.Model.{Model}
use Rattle.score.specs.Total.{total_model}
use Rattle.score.specs.Worst.{worst_model}
use Rattle.score.specs.declared.margins.Worst.{Worst}
use Rattle.score.specs.declared.margins.Worst.TheVariants.{Unlimited, Margin}
use Rattle.steps.specs.Sheet.{Sheet}
use Rattle.steps.specs.Steps.{Held, whole, Explored}
use Rattle.steps.specs.Start.{banks, unpinned, start, start_notes}

-- the bound that says nothing
abbrev pub silent : {V S : Type 0} → Sheet V S → Option S
silent s = None

-- the values of the first n variables
abbrev pub digits : (ℕ → Bool) → ℕ → List Bool
digits l zero = []
digits l (suc n) = digits l n ++ (l n ∷ [])

-- With no pin and no bound, a solve of the board ends with this score, this layout and so many splits.
pub record Ends {E S : Type 0} (M : Model E S) (s : Sheet Bool S) (score : S) (layout : List Bool) (splits : ℕ) : Type 0 where
  pub best : Held Bool S
  pub explored : Explored M banks silent (whole (start M (λ _. None) s)) (start_notes (λ _. None) s) None (Some best) splits
  pub scores : best.score ≡ score
  pub reads : digits best.layout s.size ≡ layout

-- The boards -----------------------------------------------------------------------------------------------------------------------

-- no change
abbrev pub blank : {E S : Type 0} → Model E S → ℕ → Sheet Bool S
blank M n = unpinned M n (λ v u. M.neutral) (λ a b. None)

-- scores for the values 0 and 1, and for the values 00, 01, 10 and 11
abbrev pub ones : {S : Type 0} → S → S → Bool → S
ones a b false = a
ones a b true = b

abbrev pub fours : {S : Type 0} → S → S → S → S → Bool → Bool → S
fours a b c d false = ones a b
fours a b c d true = ones c d

-- n variables, every two with the pair 0, 1, 1, 0
abbrev pub differing : ℕ → Sheet Bool ℤ
differing n =
    unpinned total_model n (λ v u. pos 0)
    (λ a b. cond (nat_lt a b && nat_lt b n) (Some (fours (pos 0) (pos 1) (pos 1) (pos 0))) None)

abbrev pub margin : ℕ → Worst
margin n = Margin (pos n)

-- margins 6 and 3 on variable 0, and 4, 7, 7, 9 on the pair of 0 and 1
abbrev pub margins : Sheet Bool Worst
margins =
    unpinned worst_model 2 (λ v. cond (v == 0) (ones (margin 6) (margin 3)) (λ _. Unlimited))
    (λ a b. cond (a == 0 && b == 1) (Some (fours (margin 4) (margin 7) (margin 7) (margin 9))) None)

-- one set: the scores of entries at and beyond their limits, and the little boards
pub record Examples : Type 0 where
  pub entries : Scored
  pub one_in_total : Ends total_model (blank total_model 1) (pos 0) (false ∷ []) 0
  pub one_in_worst : Ends worst_model (blank worst_model 1) Unlimited (false ∷ []) 0
  pub three_differ : Ends total_model (differing 3) (pos 2) (true ∷ false ∷ false ∷ []) 0
  pub four_differ : Ends total_model (differing 4) (pos 4) (false ∷ true ∷ true ∷ false ∷ []) 1
  pub two_margins : Ends worst_model margins (margin 6) (false ∷ true ∷ []) 0
