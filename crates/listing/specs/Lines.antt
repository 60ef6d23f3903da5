-- A line of a listing, and the places of its fields. Assumes nothing.
use Rattle.std.specs.Prelude.{◌≡◌, ℕ, zero, suc, ◌+◌, ◌-◌, ◌^◌, min, List, [], ◌∷◌, ◌++◌, drop, Option, slice_index_or}
use Rattle.std.specs.Borrow.{Bor}
use Rattle.std.specs.Option.{option_map, unwrap_or}
use Rattle.fields.specs.declared.faults.Place.{Place}
use Rattle.fields.specs.declared.faults.FieldFault.{FieldFault}
use Rattle.fields.specs.declared.parts.Part.{Part}
use Rattle.fields.specs.Questions.{Question}
use Rattle.fields.specs.Forms.{Form, asked, bytes_of}
use Rattle.listing.specs.declared.lines.Line.{Line}
use Rattle.listing.specs.Text.{fields}

abbrev pub text_of : Line → List ℕ
text_of l = l.text.now

-- the place of the field with this index, from 0, in a line
abbrev pub place_at : ℕ → ℕ → Place
place_at line index = record { line = line; field = index + 1 }

-- The questions to the fields of a line from an index on, each with the form it should have: all of one field before the next.
abbrev pub field_questions : ℕ → ℕ → List Form → List (List ℕ) → List (Question FieldFault)
field_questions line index [] fs = []
field_questions line index (form ∷ forms) fs = asked form (place_at line index) (slice_index_or fs index []) ++ field_questions line (index + 1) forms fs

-- the next place, or this one where no greater number fits
abbrev pub next_place : Place → Place
next_place p = record { line = p.line; field = min (p.field + 1) (2 ^ 64 - 1) }

-- the place so many fields further on
abbrev pub place_after : ℕ → Place → Place
place_after zero p = p
place_after (suc n) p = place_after n (next_place p)

-- The same questions to fields of which the first has this place.
abbrev pub questions_from : Place → List Form → List (List ℕ) → List (Question FieldFault)
questions_from p [] fs = []
questions_from p (form ∷ forms) fs = asked form p (slice_index_or fs 0 []) ++ questions_from (next_place p) forms (drop 1 fs)

-- the fields that a cursor has yet to hand out, and the place of the first
pub record Unread : Type 0 where
  pub place : Place
  pub left : List (List ℕ)

-- the fields of a text; none where there is no text
abbrev pub fields_in : Option (Bor (List ℕ)) → List (List ℕ)
fields_in r = unwrap_or (option_map (λ t. fields t.now) r) []

-- the cursor has passed so many fields
pub record Passed (n : ℕ) (c c' : Unread) : Type 0 where
  pub left_is : c'.left ≡ drop n c.left
  pub place_is : c'.place ≡ place_after n c.place

-- it hands out the next field, empty where there is none
pub record Took (c : Unread) (part : Part) (c' : Unread) : Type 0 where
  pub bytes_are : bytes_of part ≡ slice_index_or c.left 0 []
  pub place_is : part.place ≡ c.place
  pub passed : Passed 1 c c'

-- the first field of a text, and the text of the others
abbrev pub FirstField : List ℕ → Bor (List ℕ) × Option (Bor (List ℕ)) → Type 0
FirstField text r = fields text ≡ r.0.now ∷ fields_in r.1
