use Rattle.std.proofs.Common.{◌≡◌, fold, ◌∙◌, rules}
use Rattle.fields.proofs.Numbers.{held, fold_held}
use Rattle.fields.proofs.parts.value_of.Goals as goal

pub returns : goal.returns
returns c = let f : c.fold.result ≡ fold held 0 c.args.digits.now = search rules in f ∙ fold_held c.args.digits.now
