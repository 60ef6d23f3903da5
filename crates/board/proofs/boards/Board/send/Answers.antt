use Rattle.std.proofs.Common.{◌≡◌, refl, rules}
use Rattle.board.specs.Sending.{done_or, score_or}
use Rattle.board.proofs.Sends.{sends_post, sends_back, sends_score}
use Rattle.board.proofs.boards.Board.send.Goals as goal

pub returns-in-Post : goal.returns-in-Post
returns-in-Post g c =
    let is : c.map.result ≡ done_or c.post.result = search rules in
    sends_post g.K.Kind.model g.K.Kind.means c.args.self.now _ c.args.layout.now c.args.call c.map.result
    c.in-Post.change c.post.result c.in-Post.is is c.post.ensures

pub returns-in-Back : goal.returns-in-Back
returns-in-Back g c =
    let is : c.map-in-Back.result ≡ done_or c.back.result = search rules in
    sends_back g.K.Kind.model g.K.Kind.means c.args.self.now _ c.args.layout.now c.args.call c.map-in-Back.result
    c.back.result c.in-Back.is is c.back.ensures

pub returns-in-Score : goal.returns-in-Score
returns-in-Score g c =
    let is : c.map-in-Score.result ≡ score_or c.score.result = search rules in
    sends_score g.K.Kind.model g.K.Kind.means c.args.self.now c.args.self.now c.args.layout.now c.args.call c.map-in-Score.result
    c.score.result c.in-Score.is is refl c.score.ensures
