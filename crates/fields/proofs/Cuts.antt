-- A text that is cut at the first byte of some kind. Assumes nothing.
use Rattle.std.proofs.Common.{◌≡◌, ℕ, ◌+◌, eqb, List, length, sym}
use Rattle.std.specs.List.{count_by}
use Rattle.std.proofs.lemmas.List.Splits.{length-slice_split}
use Rattle.fields.specs.Text.{pieces}

pub pieces_count : (cut : ℕ) (bs : List ℕ) → count_by (λ b. eqb b cut) bs + 1 ≡ length (pieces cut bs)
pieces_count cut bs = sym (length-slice_split (λ b. eqb b cut) bs)
