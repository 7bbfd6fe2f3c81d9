use Rattle.std.proofs.Common.{◌≤◌, length, take}
use Rattle.std.specs.Io.KnownBytes.{Appends, Keeps}
use Rattle.p9_client.proofs.transfer.send_all.Given as goal

abbrev pub invariant-loop : goal.invariant-loop
invariant-loop g l = record {
  within : l.sent ≤ length l.bytes;
  written : Appends
      (g.S.Write.contents l.initial.stream) (g.S.Write.contents l.stream) (take l.sent l.bytes);
  left : Keeps (g.S.Read.remaining l.initial.stream) (g.S.Read.remaining l.stream);
}
