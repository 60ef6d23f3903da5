-- The commands that lines spell. Assumes nothing.
use Rattle.std.specs.Prelude.{◌≡◌, ℕ, List, [], ◌∷◌, drop, Some, None, Result, MatchResult, slice_index_or}
use Rattle.fields.specs.declared.faults.FieldFault.{FieldFault}
use Rattle.fields.specs.declared.words.Call.{Call as CallWord}
use Rattle.fields.specs.declared.words.Call.TheVariants.{One, Pair, Pin, Free, Back, Score}
use Rattle.fields.specs.Values.{value}
use Rattle.fields.specs.Questions.{first_no}
use Rattle.fields.specs.Forms.{Form, natural, layout, bytes_of}
use Rattle.listing.specs.declared.commands.Command.{Command}
use Rattle.calls.specs.declared.changes.Change.TheVariants as changes
use Rattle.listing.specs.declared.commands.Command.TheVariants as commands
use Rattle.score.specs.declared.values.Two.{Two}
use Rattle.score.specs.declared.values.Four.{Four}
use Rattle.listing.specs.Lines.{questions_from, Unread}
use Rattle.listing.specs.Entries.{EntryForm, by_value_form}

-- a command, with its layout as a list of bytes
pub data Said (E : Type 0) : Type 0 where
  one : ℕ → Two E → Said E
  pair : ℕ → ℕ → Two (Two E) → Said E
  pin : ℕ → ℕ → Said E
  free : ℕ → Said E
  back : Said E
  score : List ℕ → Said E

-- four by the values of the first variable
abbrev pub two_of : {E : Type 0} → Four E → Two (Two E)
two_of f = record { zero = record { zero = f.at00; one = f.at01 }; one = record { zero = f.at10; one = f.at11 } }

-- what a command in the program says
abbrev pub says : {E : Type 0} → Command E → Said E
says (commands.Post (changes.One v es)) = one v es
says (commands.Post (changes.Pair a b f)) = pair a b (two_of f)
says (commands.Post (changes.Pin v x)) = pin v x
says (commands.Post (changes.Free v)) = free v
says commands.Back = back
says (commands.Score p) = score (bytes_of p)

module _ {E : Type 0} (M : EntryForm E) where
  -- what the fields after the word hold
  abbrev pub call_forms : CallWord → List Form
  call_forms One = natural ∷ (by_value_form M).forms
  call_forms Pair = natural ∷ natural ∷ (by_value_form (by_value_form M)).forms
  call_forms Pin = natural ∷ natural ∷ []
  call_forms Free = natural ∷ []
  call_forms Back = []
  call_forms Score = layout ∷ []

  -- the command that the fields after the word spell
  abbrev pub said : CallWord → List (List ℕ) → Said E
  said One fs = one (value (slice_index_or fs 0 [])) ((by_value_form M).spelled (drop 1 fs))
  said Pair fs = pair (value (slice_index_or fs 0 [])) (value (slice_index_or fs 1 [])) ((by_value_form (by_value_form M)).spelled (drop 2 fs))
  said Pin fs = pin (value (slice_index_or fs 0 [])) (value (slice_index_or fs 1 []))
  said Free fs = free (value (slice_index_or fs 0 []))
  said Back fs = back
  said Score fs = score (slice_index_or fs 0 [])

  -- the reply to the fields after the word: the first no, or the command that they spell
  abbrev pub CallReply : CallWord → Unread → Result (Command E) FieldFault → Type 0
  CallReply call u r =
      MatchResult r
      (λ c. (first_no (questions_from u.place (call_forms call) u.left) ≡ None) × (says c ≡ said call u.left))
      (λ f. first_no (questions_from u.place (call_forms call) u.left) ≡ Some f)
