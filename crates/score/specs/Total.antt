-- The kind "total". Assumes nothing.
use Rattle.std.specs.Prelude.{Bool, cond, ◌&&◌, ℤ, pos, negsuc, ◌+ℤ◌, ◌*ℤ◌, Some, None, Option, int_le, nat_le}
use Rattle.std.specs.Int.{saturate_to_bits}
use Rattle.score.specs.declared.totals.Access.{Access}
use Rattle.score.specs.declared.totals.Total.{Total}
use Rattle.score.specs.Adding.{adding}
use Rattle.score.specs.Model.{Model}

-- hits from 0 to 4,294,967,295, and cycles from -65,535 to 65,535
abbrev pub total_takes : Access → Bool
total_takes e = nat_le e.hits 4294967295 && (int_le (negsuc 65534) e.cycles && int_le e.cycles (pos 65535))

-- hits times cycles, as a whole number
abbrev pub total_score : Access → Option ℤ
total_score e = cond (total_takes e) (Some (pos e.hits *ℤ e.cycles)) None

abbrev pub total_model : Model Access ℤ
total_model = adding total_score

abbrev pub holds_total : ℤ → Total
holds_total z = record { sum = z }

-- what the sum of two held totals holds, also where it passes 64 bits
abbrev pub total_held : Total → Total → Total
total_held a b = holds_total (saturate_to_bits 63 (a.sum +ℤ b.sum))
