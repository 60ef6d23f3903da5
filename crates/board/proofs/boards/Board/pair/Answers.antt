use Rattle.std.proofs.Common.{◌∙◌}
use Rattle.calls.specs.declared.changes.Change.TheVariants.{Pair}
use Rattle.board.specs.Stands.{Changed}
use Rattle.board.specs.Tables.{join_pair}
use Rattle.board.proofs.Answered.{passed_on, turned_down, accepted, pair_stands}
use Rattle.board.proofs.boards.Board.pair.Goals as goal

pub returns-in_err-post : goal.returns-in_err-post
returns-in_err-post g c =
    let M = g.K.Kind.model in
    let means = g.K.Kind.means in
    let change = Pair c.args.a c.args.b c.args.entries in
    passed_on (Changed M means c.args.self.now c.args.self.now change) _ _ c.from_residual.ensures.1 (turned_down M means c.args.self.now change _ c.in_err-post.ensures.reply)

pub returns : goal.returns
returns g c =
    let M = g.K.Kind.model in
    let means = g.K.Kind.means in
    let J = g.K.Kind.held in
    let h = c.args.self.now in
    let written = c.join_pair.ensures ∙ (λ i. join_pair J h (c.min.ensures i, c.max.ensures i) (c.lower_first.ensures i) c.in_ok-post.post.place) in
    accepted M means h _ _ (Pair c.args.a c.args.b c.args.entries) c.in_ok-post.ensures.reply written
    (λ n cs st pass. pair_stands M g.met.K.Kind.lawful means J g.met.K.Kind.exact n h cs st c.args.a c.args.b c.args.entries _ _ c.in_ok-post.ensures.scores c.in_ok-post.ensures.place pass)
