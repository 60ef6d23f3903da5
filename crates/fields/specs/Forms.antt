-- What a field may hold, and the questions to each. Assumes nothing.
use Rattle.std.specs.Prelude.{ℕ, Bool, cond, ◌&&◌, List, [], ◌∷◌, length, is_some, Some, None, Option, ◌==◌, nat_le, nat_lt}
use Rattle.std.specs.Option.{unwrap_or}
use Rattle.std.specs.Str.{all_ascii_digits}
use Rattle.fields.specs.declared.faults.Place.{Place}
use Rattle.fields.specs.declared.faults.FieldFault.{FieldFault}
use Rattle.fields.specs.declared.faults.FieldFault.TheVariants.{Empty, NotDigits, OutOfRange, UnknownLetter}
use Rattle.fields.specs.declared.parts.BoardKind.{BoardKind}
use Rattle.fields.specs.declared.parts.BoardKind.TheVariants.{Total, Worst, TieredTotal, TieredWorst}
use Rattle.fields.specs.declared.parts.Part.{Part}
use Rattle.fields.specs.Questions.{Question}
use Rattle.fields.specs.Values.{unsigned, value, signed_value, number_limit, natural_range, integer_range}

abbrev pub bytes_of : Part → List ℕ
bytes_of p = p.bytes.now

-- A natural number takes no minus, an integer may have one.
pub data Form : Type 0 where
  natural : Form
  integer : Form
  layout : Form
  kind : Form

-- a board kind by its letter, T, W, H or V
abbrev pub letter : BoardKind → List ℕ
letter Total = 84 ∷ []
letter Worst = 87 ∷ []
letter TieredTotal = 72 ∷ []
letter TieredWorst = 86 ∷ []

abbrev pub kind_by : ℕ → Option BoardKind
kind_by b = cond (b == 84) (Some Total) (cond (b == 87) (Some Worst) (cond (b == 72) (Some TieredTotal) (cond (b == 86) (Some TieredWorst) None)))

abbrev pub kind_of : List ℕ → Option BoardKind
kind_of [] = None
kind_of (b ∷ []) = kind_by b
kind_of (b ∷ c ∷ bs) = None

abbrev pub named_kind : List ℕ → BoardKind
named_kind bs = unwrap_or (kind_of bs) Total

abbrev pub some : List ℕ → Bool
some bs = nat_lt 0 (length bs)

abbrev pub short : List ℕ → Bool
short bs = nat_le (length bs) number_limit

-- the questions to a field, from the first
abbrev pub asked : Form → Place → List ℕ → List (Question FieldFault)
asked natural p bs = (some (unsigned bs), Empty p) ∷ (all_ascii_digits bs, NotDigits p) ∷ (short bs && natural_range (value bs), OutOfRange p) ∷ []
asked integer p bs = (some (unsigned bs), Empty p) ∷ (all_ascii_digits (unsigned bs), NotDigits p) ∷ (short bs && integer_range (signed_value bs), OutOfRange p) ∷ []
asked layout p bs = (some bs, Empty p) ∷ (all_ascii_digits bs, NotDigits p) ∷ []
asked kind p bs = (is_some (kind_of bs), UnknownLetter p) ∷ []
