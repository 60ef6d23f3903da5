use Rattle.std.proofs.Common.{◌≡◌, drop}
use Rattle.calls.specs.Questions.{keeps_pins}
use Rattle.board.specs.Tables.{records_view}
use Rattle.board.proofs.boards.Board.keeps_pins.Given as goal

abbrev pub invariant-loop-v : goal.invariant-loop-v
invariant-loop-v g l = keeps_pins (records_view l.self).pin l.v (drop l.v l.layout) ≡ keeps_pins (records_view l.self).pin 0 l.layout
