-- The note of each removal. Assumes nothing.
use Rattle.std.specs.Prelude.{ℕ, Bool}
use Rattle.score.specs.declared.choice.Choice.{Choice}
use Rattle.score.specs.declared.values.Four.{Four}
use Rattle.notes.specs.declared.removal.Removal.{Removal}
use Rattle.notes.specs.declared.removal.Way.TheVariants.{Alone, ByOne, ByTwo, Set}
use Rattle.notes.specs.Removals.{bank_number, removal}

module _ {K : Type 0} where
  abbrev pub alone_note : ℕ → Choice K → Removal
  alone_note y a = removal y (Alone (bank_number a.second))

  abbrev pub one_note : ℕ → ℕ → Choice K → Choice K → Removal
  one_note y x a0 a1 = removal y (ByOne x (bank_number a0.second) (bank_number a1.second))

  abbrev pub two_note : ℕ → ℕ → ℕ → Four (Choice K) → Removal
  two_note y x z f = removal y (ByTwo x z (bank_number f.at00.second) (bank_number f.at01.second) (bank_number f.at10.second) (bank_number f.at11.second))

abbrev pub set_note : ℕ → Bool → Removal
set_note y c = removal y (Set (bank_number c))
