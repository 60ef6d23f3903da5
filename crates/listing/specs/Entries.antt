-- How an entry is written into fields and read from them. Assumes nothing.
use Rattle.std.specs.Prelude.{ℕ, Bool, ◌&&◌, List, [], ◌∷◌, ◌++◌, length, drop, decimal, Result, slice_index_or}
use Rattle.std.specs.Fmt.{signed_decimal}
use Rattle.score.specs.declared.margins.Slack.{Slack}
use Rattle.score.specs.declared.tiers.Weighted.{Weighted}
use Rattle.score.specs.declared.totals.Access.{Access}
use Rattle.fields.specs.declared.faults.FieldFault.{FieldFault}
use Rattle.fields.specs.Questions.{answered}
use Rattle.fields.specs.Values.{value, signed_value, natural_range, integer_range}
use Rattle.fields.specs.Forms.{Form, natural, integer}
use Rattle.score.specs.declared.values.Two.{Two}
use Rattle.listing.specs.Lines.{questions_from, Unread}

pub record EntryForm (E : Type 0) : Type 0 where
  -- what the fields of an entry hold, from the left
  pub forms : List Form
  -- the entry that fields spell, from the first of them on
  pub spelled : List (List ℕ) → E
  -- the fields that an entry is written as
  pub written : E → List (List ℕ)
  -- each number is in its field's range
  pub fits : E → Bool

-- the reply to an entry in the next fields
abbrev pub entry_reply : {E : Type 0} → EntryForm E → Unread → Result E FieldFault
entry_reply M c = answered (questions_from c.place M.forms c.left) (M.spelled c.left)

-- hits, and then cycles
abbrev pub access_form : EntryForm Access
access_form = record {
  forms = natural ∷ integer ∷ [];
  spelled = λ fs. record { hits = value (slice_index_or fs 0 []); cycles = signed_value (slice_index_or fs 1 []) };
  written = λ e. decimal e.hits ∷ signed_decimal e.cycles ∷ [];
  fits = λ e. natural_range e.hits && integer_range e.cycles;
}

abbrev pub slack_form : EntryForm Slack
slack_form = record {
  forms = integer ∷ [];
  spelled = λ fs. record { margin = signed_value (slice_index_or fs 0 []) };
  written = λ e. signed_decimal e.margin ∷ [];
  fits = λ e. integer_range e.margin;
}

-- a weight, and then an entry of the second kind
abbrev pub weighted_form : {E : Type 0} → EntryForm E → EntryForm (Weighted E)
weighted_form M = record {
  forms = integer ∷ M.forms;
  spelled = λ fs. record { weight = signed_value (slice_index_or fs 0 []); second = M.spelled (drop 1 fs) };
  written = λ e. signed_decimal e.weight ∷ M.written e.second;
  fits = λ e. integer_range e.weight && M.fits e.second;
}

-- what is for value 0, and then what is for value 1
abbrev pub by_value_form : {E : Type 0} → EntryForm E → EntryForm (Two E)
by_value_form M = record {
  forms = M.forms ++ M.forms;
  spelled = λ fs. record { zero = M.spelled fs; one = M.spelled (drop (length M.forms) fs) };
  written = λ e. M.written e.zero ++ M.written e.one;
  fits = λ e. M.fits e.zero && M.fits e.one;
}
