-- A reply that is the rule's is at least every value. Assumes nothing.
use Rattle.std.proofs.Common.{Bool, List, Option, sym, ap, ◌∙◌}
use Rattle.std.specs.Option.{option_map}
use Rattle.score.specs.Model.{Model}
use Rattle.steps.specs.Claims.{Admissible}
use Rattle.steps.specs.Sheet.{Sheet}
use Rattle.records.specs.declared.pairs.Pair.{Pair}
use Rattle.sheets.specs.declared.variables.Var.{Var}
use Rattle.worksheet.specs.Bounds.{Replies, Above}
use Rattle.worksheet.specs.Records.{contents}
use Rattle.worksheet.proofs.Sound.{contents_sound}

pub above_all : {E S K : Type 0} (M : Model E S) (means : K → S) (rule : Sheet Bool S → Option S) → Admissible M Bool rule
    → (b : K) (vs : List (Var K)) (ps : List (Pair K)) (work : List (Var K)) (r : Option K)
    → Replies M means rule b vs ps work r → Above M means b vs ps work r
above_all M means rule law b vs ps work r replies long arranged few k is l =
    law (contents means b vs ps) (means k) (contents_sound means b vs ps arranged) (sym (replies long arranged few) ∙ ap (option_map means) is) l
