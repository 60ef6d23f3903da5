use Rattle.calls.specs.declared.changes.Change.TheVariants.{Pin}
use Rattle.board.specs.Stands.{Changed}
use Rattle.board.proofs.Answered.{passed_on, turned_down, accepted, pin_stands}
use Rattle.board.proofs.boards.Board.pin.Goals as goal

pub returns-in_err-check_pin : goal.returns-in_err-check_pin
returns-in_err-check_pin g c =
    let M = g.K.Kind.model in
    let means = g.K.Kind.means in
    let change = Pin c.args.v c.args.value in
    passed_on (Changed M means c.args.self.now c.args.self.now change) _ _ c.from_residual.ensures.1 (turned_down M means c.args.self.now change _ c.in_err-check_pin.ensures)

pub returns : goal.returns
returns g c =
    let M = g.K.Kind.model in
    let means = g.K.Kind.means in
    accepted M means c.args.self.now _ _ (Pin c.args.v c.args.value) c.in_ok-check_pin.ensures c.set_pin.ensures
    (λ n cs st pass. pin_stands M g.met.K.Kind.lawful means n _ cs st c.args.v c.args.value pass)
