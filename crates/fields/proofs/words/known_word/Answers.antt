use Rattle.std.proofs.Common.{◌≡◌, codes, sym, ap, arith}
use Rattle.fields.specs.Words.{word_of}
use Rattle.fields.proofs.Spelt.{five_are}
use Rattle.fields.proofs.words.known_word.Goals as goal

pub returns-in-board : goal.returns-in-board
returns-in-board c =
    let is : c.args.bytes.now ≡ codes "board" = five_are _ _ _ _ _ _ (omega arith) (omega arith) (omega arith) (omega arith) (omega arith) (omega arith) in
    ap word_of (sym is)
