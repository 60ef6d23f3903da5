-- Kinds whose scores are whole numbers that add. Assumes nothing.
use Rattle.std.specs.Prelude.{ℤ, pos, ◌+ℤ◌, Option}
use Rattle.std.specs.Int.Signed.{le_z}
use Rattle.score.specs.Model.{Model}

abbrev pub adding : {E : Type 0} → (E → Option ℤ) → Model E ℤ
adding score = record { neutral = pos 0; join = ◌+ℤ◌; at_most = le_z; score = score }
