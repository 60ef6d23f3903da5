-- The number of each fault, and the reply to it. Assumes nothing.
use Rattle.std.specs.Prelude.{ℕ, List, ◌++◌, codes, decimal}
use Rattle.fields.specs.declared.faults.Bad.{Bad}
use Rattle.fields.specs.declared.faults.Place.{Place}
use Rattle.fields.specs.declared.faults.FieldFault.{FieldFault}
use Rattle.fields.specs.declared.faults.FieldFault.TheVariants.{Empty, NotDigits, OutOfRange, UnknownLetter}
use Rattle.fields.specs.declared.faults.LineFault.{LineFault}
use Rattle.fields.specs.declared.faults.LineFault.TheVariants.{TooLong, UnknownWord, Misplaced, FieldCount, Field}
use Rattle.fields.specs.declared.faults.ListingFault.{ListingFault}
use Rattle.fields.specs.declared.faults.ListingFault.TheVariants.{TooLarge, Line}

abbrev pub bad_at : ℕ → ℕ → ℕ → Bad
bad_at line field question = record { line = line; field = field; question = question }

abbrev pub at_place : Place → ℕ → Bad
at_place p question = bad_at p.line p.field question

abbrev pub field_bad : FieldFault → Bad
field_bad (Empty p) = at_place p 26
field_bad (NotDigits p) = at_place p 27
field_bad (OutOfRange p) = at_place p 28
field_bad (UnknownLetter p) = at_place p 29

-- field 0 where the whole line is meant, field 1 where its word is
abbrev pub line_bad : LineFault → Bad
line_bad (TooLong line) = bad_at line 0 22
line_bad (UnknownWord line) = bad_at line 1 23
line_bad (Misplaced line) = bad_at line 1 24
line_bad (FieldCount line) = bad_at line 0 25
line_bad (Field f) = field_bad f

abbrev pub listing_bad : ListingFault → Bad
listing_bad TooLarge = bad_at 0 0 21
listing_bad (Line f) = line_bad f

abbrev pub printed : Bad → List ℕ
printed b = codes "bad," ++ (decimal b.line ++ (codes "," ++ (decimal b.field ++ (codes "," ++ decimal b.question))))
