-- What a noted removal means. Assumes nothing.
use Rattle.std.specs.Prelude.{ℕ, Bool, cond, ◌==◌}
use Rattle.steps.specs.Steps.{Note, noted, Way as StepWay, alone, by_one, by_two, set_to}
use Rattle.notes.specs.declared.removal.Removal.{Removal}
use Rattle.notes.specs.declared.removal.Way.{Way}
use Rattle.notes.specs.declared.removal.Way.TheVariants.{Alone, ByOne, ByTwo, Set}

-- the bank that a number stands for: 1 is `true`
abbrev pub bank : ℕ → Bool
bank x = x == 1

-- the number of a bank
abbrev pub bank_number : Bool → ℕ
bank_number b = cond b 1 0

abbrev pub way_of : Way → StepWay Bool
way_of (Alone c) = alone (bank c)
way_of (ByOne x c0 c1) = by_one x (λ u. bank (cond u c1 c0))
way_of (ByTwo x z c00 c01 c10 c11) = by_two x z (λ u t. bank (cond u (cond t c11 c10) (cond t c01 c00)))
way_of (Set c) = set_to (bank c)

abbrev pub note_of : Removal → Note Bool
note_of n = noted n.variable (way_of n.way)

abbrev pub removal : ℕ → Way → Removal
removal y w = record { variable = y; way = w }
