use Rattle.worksheet.proofs.Order.{order_free}
use Rattle.worksheet.proofs.claims.order_is_free.Goals as goal

pub returns : goal.returns
returns g c = order_free g.K.Kind.means
