-- Opening a board. Assumes nothing.
use Rattle.std.specs.Prelude.{◌≡◌, ℕ, List, length, Some, None, Option}
use Rattle.score.specs.Model.{Model}
use Rattle.calls.specs.declared.refusals.Refusal.{Refusal}
use Rattle.calls.specs.Questions.{first_no, opening_questions}
use Rattle.calls.specs.Runs.{none}
use Rattle.records.specs.declared.pairs.Pair.{Pair}
use Rattle.records.specs.declared.history.Undo.{Undo}
use Rattle.records.specs.declared.variables.Var.{Var}
use Rattle.board.specs.Sending.{WasSent}
use Rattle.board.specs.Tables.{Held}

-- why a board is not opened
abbrev pub not_opened : {K : Type 0} → ℕ → List (Var K) → List (Pair K) → List (Undo K) → Option Refusal
not_opened n vars pairs history = first_no (opening_questions n (length vars) (length pairs) (length history))

-- a board over these memories at which no change stands
abbrev pub no_changes : {K : Type 0} → List (Var K) → List (Pair K) → List (Undo K) → ℕ → Held K
no_changes vars pairs history n = record { vars = vars; pairs = pairs; history = history; n = n; kept = 0; standing = 0 }

-- opened, the board was sent no call yet; otherwise it has no variables, and the memories are as found
pub record Opened {E S K : Type 0} (M : Model E S) (means : K → S) (n : ℕ) (vars : List (Var K)) (pairs : List (Pair K)) (history : List (Undo K)) (h : Held K) : Type 0 where
  pub opened : not_opened n vars pairs history ≡ None → WasSent M means n none h
  pub refused : (f : Refusal) → not_opened n vars pairs history ≡ Some f → h ≡ no_changes vars pairs history 0
