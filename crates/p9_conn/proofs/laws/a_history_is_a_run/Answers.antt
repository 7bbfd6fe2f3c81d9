use Rattle.p9_conn.proofs.Histories.{history-is-run}
use Rattle.p9_conn.proofs.laws.a_history_is_a_run.Goals as goal

pub returns : goal.returns
returns c = history-is-run
