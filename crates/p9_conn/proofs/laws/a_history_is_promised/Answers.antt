use Rattle.p9_conn.proofs.Histories.{history-is-promised}
use Rattle.p9_conn.proofs.laws.a_history_is_promised.Goals as goal

pub returns : goal.returns
returns c = history-is-promised
