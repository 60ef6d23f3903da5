-- What a line means: the first question that says no, or the command that it spells. Assumes nothing.
use Rattle.std.specs.Prelude.{◌≡◌, ℕ, suc, Bool, true, false, not, List, [], ◌∷◌, ◌++◌, length, drop, is_some, Some, None, Option, Result, MatchResult, ◌==◌, nat_le, slice_index_or}
use Rattle.fields.specs.declared.faults.FieldFault.{FieldFault}
use Rattle.fields.specs.declared.faults.LineFault.{LineFault}
use Rattle.fields.specs.declared.faults.LineFault.TheVariants.{TooLong, UnknownWord, Misplaced, FieldCount, Field}
use Rattle.fields.specs.declared.words.Word.{Word}
use Rattle.fields.specs.declared.words.Word.TheVariants.{Board, Call}
use Rattle.fields.specs.Values.{value}
use Rattle.fields.specs.Questions.{Question, first_no, answered}
use Rattle.fields.specs.Forms.{Form, natural, kind, named_kind}
use Rattle.fields.specs.Words.{word_of}
use Rattle.listing.specs.declared.commands.Command.{Command}
use Rattle.listing.specs.declared.commands.Opening.{Opening}
use Rattle.listing.specs.Text.{fields}
use Rattle.listing.specs.Lines.{field_questions}
use Rattle.listing.specs.Entries.{EntryForm}
use Rattle.listing.specs.Commands.{Said, says, said, call_forms}

-- the most bytes of a line, without its line feed
abbrev pub line_limit : ℕ
line_limit = 400

-- the word in the first field
abbrev pub word_at : List ℕ → Option Word
word_at line = word_of (slice_index_or (fields line) 0 [])

-- the questions to a line and to its word
abbrev pub word_questions : ℕ → List ℕ → List (Question LineFault)
word_questions number line = (nat_le (length line) line_limit, TooLong number) ∷ (is_some (word_at line), UnknownWord number) ∷ []

-- a field's questions, with its faults inside the line's
abbrev pub inside : List (Question FieldFault) → List (Question LineFault)
inside [] = []
inside (q ∷ qs) = (q.0, Field q.1) ∷ inside qs

-- All questions to a line, from the first. `placed`: may a line with this word stand here? `forms`: what the fields after the word hold.
abbrev pub line_questions : Bool → List Form → ℕ → List ℕ → List (Question LineFault)
line_questions placed forms number line =
    word_questions number line ++ ((placed, Misplaced number) ∷ ((length (fields line) == suc (length forms)), FieldCount number) ∷ inside (field_questions number 1 forms (fields line)))

abbrev pub opens : Option Word → Bool
opens None = false
opens (Some Board) = true
opens (Some (Call c)) = false

abbrev pub opening_forms : List Form
opening_forms = natural ∷ kind ∷ []

-- the questions to a first line
abbrev pub opening_questions : ℕ → List ℕ → List (Question LineFault)
opening_questions number line = line_questions (opens (word_at line)) opening_forms number line

-- the opening that the fields after the word spell
abbrev pub opening_of : List (List ℕ) → Opening
opening_of fs = record { variables = value (slice_index_or fs 0 []); kind = named_kind (slice_index_or fs 1 []) }

abbrev pub opening_reply : ℕ → List ℕ → Result Opening LineFault
opening_reply number line = answered (opening_questions number line) (opening_of (drop 1 (fields line)))

module _ {E : Type 0} (M : EntryForm E) where
  abbrev pub word_forms : Option Word → List Form
  word_forms None = []
  word_forms (Some Board) = []
  word_forms (Some (Call c)) = call_forms M c

  -- the questions to a later line
  abbrev pub command_questions : ℕ → List ℕ → List (Question LineFault)
  command_questions number line = line_questions (not (opens (word_at line))) (word_forms (word_at line)) number line

  abbrev pub said_by : Option Word → List (List ℕ) → Option (Said E)
  said_by None fs = None
  said_by (Some Board) fs = None
  said_by (Some (Call c)) fs = Some (said M c (drop 1 fs))

  -- the command that a line spells
  abbrev pub command_of : List ℕ → Option (Said E)
  command_of line = said_by (word_at line) (fields line)

  -- the reply to a line: its command where every answer is yes, and else the fault of the first no
  abbrev pub CommandReply : ℕ → List ℕ → Result (Command E) LineFault → Type 0
  CommandReply number line r =
      MatchResult r (λ c. (first_no (command_questions number line) ≡ None) × (command_of line ≡ Some (says c))) (λ f. first_no (command_questions number line) ≡ Some f)
