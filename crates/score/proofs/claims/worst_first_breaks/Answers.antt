use Rattle.std.proofs.Common.{pos, refl}
use Rattle.std.proofs.lemmas.Bool.{false≢true}
use Rattle.score.specs.declared.margins.Worst.TheVariants.{Margin}
use Rattle.score.proofs.claims.worst_first_breaks.Goals as goal

pub returns : goal.returns
returns c = record {
  before = refl;
  left = refl;
  right = refl;
  after = refl;
  unlawful = λ laws. false≢true (laws.keeps (Margin (pos 3), pos 9) (Margin (pos 5), pos 0) (Margin (pos 2), pos 0) refl);
}
