use Rattle.p9_client.proofs.Exchanged.{HasFound}
use Rattle.p9_client.proofs.replies.Replies.drop_from.Given as goal

abbrev pub invariant-loop : goal.invariant-loop
invariant-loop g l = HasFound l.self l.first l.tag l.counter
