-- The kind "worst margin". Assumes nothing.
use Rattle.std.specs.Prelude.{ℕ, Bool, true, false, cond, ◌&&◌, List, pos, negsuc, Some, None, codes, Option, int_le}
use Rattle.std.specs.Int.{int_min}
use Rattle.std.specs.Fmt.{signed_decimal}
use Rattle.score.specs.declared.margins.Slack.{Slack}
use Rattle.score.specs.declared.margins.Worst.{Worst}
use Rattle.score.specs.declared.margins.Worst.TheVariants.{Unlimited, Margin}
use Rattle.score.specs.Model.{Model}

-- a margin from -1,000,000,000 to 1,000,000,000
abbrev pub worst_takes : Slack → Bool
worst_takes e = int_le (negsuc 999999999) e.margin && int_le e.margin (pos 1000000000)

abbrev pub worst_score : Slack → Option Worst
worst_score e = cond (worst_takes e) (Some (Margin e.margin)) None

-- the smaller
abbrev pub worst_join : Worst → Worst → Worst
worst_join Unlimited Unlimited = Unlimited
worst_join Unlimited (Margin b) = Margin b
worst_join (Margin a) Unlimited = Margin a
worst_join (Margin a) (Margin b) = Margin (int_min a b)

-- the neutral score is above every margin
abbrev pub worst_at_most : Worst → Worst → Bool
worst_at_most Unlimited Unlimited = true
worst_at_most Unlimited (Margin b) = false
worst_at_most (Margin a) Unlimited = true
worst_at_most (Margin a) (Margin b) = int_le a b

abbrev pub worst_model : Model Slack Worst
worst_model = record { neutral = Unlimited; join = worst_join; at_most = worst_at_most; score = worst_score }

-- a margin prints as its number, and the neutral score as `none`
abbrev pub worst_text : Worst → Option (List ℕ)
worst_text Unlimited = Some (codes "none")
worst_text (Margin m) = Some (signed_decimal m)
