use Rattle.std.proofs.Common.{◌≡◌, codes, sym, ap, arith}
use Rattle.fields.specs.Words.{call_of}
use Rattle.fields.proofs.Spelt.{five_are}
use Rattle.fields.proofs.words.known_call.Goals as goal

pub returns-in-score : goal.returns-in-score
returns-in-score c =
    let is : c.args.bytes.now ≡ codes "score" = five_are _ _ _ _ _ _ (omega arith) (omega arith) (omega arith) (omega arith) (omega arith) (omega arith) in
    ap call_of (sym is)
