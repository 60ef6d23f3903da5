-- Worked examples, on the definitions. Assumes nothing.
use Rattle.std.specs.Prelude.{◌≡◌, ℕ, true, false, ℤ, pos, negsuc, Some, None}
use Rattle.score.specs.declared.margins.Slack.{Slack}
use Rattle.score.specs.declared.margins.Worst.{Worst}
use Rattle.score.specs.declared.margins.Worst.TheVariants.{Margin}
use Rattle.score.specs.declared.totals.Access.{Access}
use Rattle.score.specs.Model.{Model, Laws}
use Rattle.score.specs.Tiered.{tiers, tiered_model}
use Rattle.score.specs.Total.{total_model}
use Rattle.score.specs.Worst.{worst_model}

abbrev pub access : ℕ → ℤ → Access
access h c = record { hits = h; cycles = c }

pub record Examples : Type 0 where
  -- a product past 32 bits
  pub past_32_bits : total_model.score (access 131072 (pos 32768)) ≡ Some (pos 4294967296)
  pub largest : total_model.score (access 4294967295 (pos 65535)) ≡ Some (pos 281470681677825)
  pub most_cycles : total_model.score (access 1 (pos 65535)) ≡ Some (pos 65535)
  pub least_cycles : total_model.score (access 1 (negsuc 65534)) ≡ Some (negsuc 65534)
  pub too_many_cycles : (h : ℕ) → total_model.score (access h (pos 65536)) ≡ None
  pub too_few_cycles : (h : ℕ) → total_model.score (access h (negsuc 65535)) ≡ None
  -- tiered over total, (1, 0) is above (0, 1,000,000)
  pub weight_first : (tiered_model total_model).at_most (pos 0, pos 1000000) (pos 1, pos 0) ≡ true
  pub weight_above : (tiered_model total_model).at_most (pos 1, pos 0) (pos 0, pos 1000000) ≡ false

-- worst margin above total
abbrev pub worst_first : Model (Slack × Access) (Worst × ℤ)
worst_first = tiers (λ e. e.0) (λ e. e.1) worst_model total_model

-- (3, 9) is at most (5, 0), but joined with (2, 0) they are (2, 9) and (2, 0): the order turns, so the laws do not hold
pub record WorstFirstBreaks : Type 0 where
  pub before : worst_first.at_most (Margin (pos 3), pos 9) (Margin (pos 5), pos 0) ≡ true
  pub left : worst_first.join (Margin (pos 3), pos 9) (Margin (pos 2), pos 0) ≡ (Margin (pos 2), pos 9)
  pub right : worst_first.join (Margin (pos 5), pos 0) (Margin (pos 2), pos 0) ≡ (Margin (pos 2), pos 0)
  pub after : worst_first.at_most (Margin (pos 2), pos 9) (Margin (pos 2), pos 0) ≡ false
  pub unlawful : Laws worst_first → ⊥
