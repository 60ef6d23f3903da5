-- Scores joined one after the other, within the entries that a kind joins exactly. Assumes nothing.
use Rattle.std.specs.Prelude.{◌≡◌, ℕ, ◌-◌, ◌≤◌, List, [], ◌∷◌}
use Rattle.score.specs.Model.{Model, Of, joined, exact_entries}

-- these scores are together of m entries
abbrev pub Within : {E S : Type 0} → Model E S → ℕ → List S → Type 0
Within M m [] = Unit {0}
Within M m (s ∷ ss) = (k : ℕ) × (k ≤ m) × Of M k s × Within M (m - k) ss

-- s is what is joined so far, and with the rest it comes to the whole
pub record Joining {E S : Type 0} (M : Model E S) (rest : List S) (whole s : S) : Type 0 where
  pub entries : ℕ
  pub room : entries ≤ exact_entries
  pub so_far : Of M entries s
  pub to_come : Within M (exact_entries - entries) rest
  pub sums : M.join s (joined M rest) ≡ whole
