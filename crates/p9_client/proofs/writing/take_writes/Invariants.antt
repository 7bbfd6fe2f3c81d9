use Rattle.std.proofs.Common.{◌≤◌}
use Rattle.p9_client.proofs.WriteAhead.{HasTakenWrites}
use Rattle.p9_client.proofs.writing.take_writes.Given as goal

abbrev pub invariant-loop-at : goal.invariant-loop-at
invariant-loop-at g l = record {
  within : l.total ≤ l.len;
  taken : HasTakenWrites l.replies l.most l.len l.first l.tag l.at l.total;
}
