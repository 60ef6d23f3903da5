-- Questions that are put from top to bottom: the first no is the fault. Assumes nothing.
use Rattle.std.specs.Prelude.{Bool, cond, List, [], ◌∷◌, Some, None, Ok, Err, Option, Result}

-- an answer, and the fault where it is no
abbrev pub Question : Type 0 → Type 0
Question F = Bool × F

abbrev pub first_no : {F : Type 0} → List (Question F) → Option F
first_no [] = None
first_no (q ∷ qs) = cond q.0 (first_no qs) (Some q.1)

abbrev pub replied : {F A : Type 0} → Option F → A → Result A F
replied None a = Ok a
replied (Some f) a = Err f

-- the value where every answer is yes, and else the fault of the first no
abbrev pub answered : {F A : Type 0} → List (Question F) → A → Result A F
answered qs a = replied (first_no qs) a
