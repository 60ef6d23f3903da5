use Rattle.std.proofs.Common.{refl, rules}
use Rattle.std.specs.Char.{is_ascii_digit}
use Rattle.std.specs.Str.{all_ascii_digits}
use Rattle.std.proofs.lemmas.List.Recursion.{and_is}
use Rattle.fields.proofs.parts.all_digits.Goals as goal

pub returns : goal.returns
returns c = and_is all_ascii_digits is_ascii_digit refl (λ _ _. refl) c.args.bytes.now 0 _ (search rules) (search rules)
