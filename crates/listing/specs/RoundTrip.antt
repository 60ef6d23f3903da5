-- Commands written out as lines: each is read back as itself. Assumes nothing.
use Rattle.std.specs.Prelude.{◌≡◌, ℕ, ◌≤◌, Bool, true, ◌&&◌, List, [], ◌∷◌, length, Ok, decimal, Result, MatchResult}
use Rattle.std.specs.Str.{all_ascii_digits}
use Rattle.fields.specs.declared.faults.LineFault.{LineFault}
use Rattle.fields.specs.declared.words.Call.TheVariants.{One, Pair, Pin, Free, Back, Score}
use Rattle.fields.specs.declared.words.Word.TheVariants.{Board, Call}
use Rattle.fields.specs.Values.{natural_range}
use Rattle.fields.specs.Forms.{some, letter}
use Rattle.fields.specs.Words.{spelling}
use Rattle.listing.specs.declared.commands.Command.{Command}
use Rattle.listing.specs.declared.commands.Opening.{Opening}
use Rattle.listing.specs.Text.{comma, parted_by}
use Rattle.listing.specs.Entries.{EntryForm, by_value_form}
use Rattle.listing.specs.Commands.{Said, one, pair, pin, free, back, score, says}
use Rattle.listing.specs.Reading.{line_limit}

-- a board line: the fields of an opening, with commas between them
abbrev pub opening_fields : Opening → List (List ℕ)
opening_fields o = spelling Board ∷ decimal o.variables ∷ letter o.kind ∷ []

abbrev pub written_opening : Opening → List ℕ
written_opening o = parted_by comma (opening_fields o)

-- an opening that is written out is read back as itself
abbrev pub OpeningBack : List ℕ → Result Opening LineFault → Type 0
OpeningBack line r = (o : Opening) → natural_range o.variables ≡ true → line ≡ written_opening o → r ≡ Ok o

module _ {E : Type 0} (M : EntryForm E) where
  abbrev pub command_fields : Said E → List (List ℕ)
  command_fields (one v es) = spelling (Call One) ∷ decimal v ∷ (by_value_form M).written es
  command_fields (pair a b es) = spelling (Call Pair) ∷ decimal a ∷ decimal b ∷ (by_value_form (by_value_form M)).written es
  command_fields (pin v x) = spelling (Call Pin) ∷ decimal v ∷ decimal x ∷ []
  command_fields (free v) = spelling (Call Free) ∷ decimal v ∷ []
  command_fields back = spelling (Call Back) ∷ []
  command_fields (score ds) = spelling (Call Score) ∷ ds ∷ []

  abbrev pub written_command : Said E → List ℕ
  written_command c = parted_by comma (command_fields c)

  -- each number is in its range, and a layout is one digit or more
  abbrev pub fits_command : Said E → Bool
  fits_command (one v es) = natural_range v && (by_value_form M).fits es
  fits_command (pair a b es) = natural_range a && (natural_range b && (by_value_form (by_value_form M)).fits es)
  fits_command (pin v x) = natural_range v && natural_range x
  fits_command (free v) = natural_range v
  fits_command back = true
  fits_command (score ds) = some ds && all_ascii_digits ds

  -- a command that is written out, on a line that is not too long, is read back as itself
  abbrev pub CommandBack : List ℕ → Result (Command E) LineFault → Type 0
  CommandBack line r = (c : Said E) → fits_command c ≡ true → length line ≤ line_limit → line ≡ written_command c → MatchResult r (λ x. says x ≡ c) (λ f. ⊥)
