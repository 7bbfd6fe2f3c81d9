use Rattle.std.proofs.Common.{◌≡◌, ℕ, ◌≤◌, List, length}
use Rattle.std.specs.Io.KnownBytes.{Appends}
use Rattle.p9_client.proofs.ReadAhead.{HasTakenReads}
use Rattle.p9_client.proofs.reading.take_reads.Given as goal

abbrev pub invariant-loop-at : goal.invariant-loop-at
invariant-loop-at g l = record {
  within : l.total ≤ l.len;
  taken : (bytes : List ℕ) × (length bytes ≡ l.total)
      × HasTakenReads l.replies l.most l.len l.first l.tag l.at l.total bytes
      × Appends (g.W.Write.contents l.fn.out) (g.W.Write.contents l.out) bytes;
}
