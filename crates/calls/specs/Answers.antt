-- How an answer prints. Assumes nothing.
use Rattle.std.specs.Prelude.{ℕ, List, Some, codes, Option}
use Rattle.std.specs.Fmt.{option_append}
use Rattle.calls.specs.declared.answers.Answer.{Answer}
use Rattle.calls.specs.declared.answers.Answer.TheVariants.{Done, Is}

-- `ok`, or `is,` and the score, where the score's text is known
abbrev pub answer_text : {K : Type 0} → (K → Option (List ℕ)) → Answer K → Option (List ℕ)
answer_text text Done = Some (codes "ok")
answer_text text (Is s) = option_append (Some (codes "is,")) (text s)
