use Rattle.p9_conn.proofs.Orders.{replies-go-out}
use Rattle.p9_conn.proofs.laws.replies_go_out.Goals as goal

pub returns : goal.returns
returns c = replies-go-out
