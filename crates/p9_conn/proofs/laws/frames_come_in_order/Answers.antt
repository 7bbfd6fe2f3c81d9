use Rattle.p9_conn.proofs.Orders.{frames-come-in-order}
use Rattle.p9_conn.proofs.laws.frames_come_in_order.Goals as goal

pub returns : goal.returns
returns c = frames-come-in-order
