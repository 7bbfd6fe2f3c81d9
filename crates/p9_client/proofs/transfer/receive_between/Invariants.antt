use Rattle.std.proofs.Common.{◌≡◌, ◌≤◌, drop, take}
use Rattle.std.specs.Io.KnownBytes.{Consumes, Keeps}
use Rattle.p9_client.proofs.transfer.receive_between.Given as goal

abbrev pub invariant-loop : goal.invariant-loop
invariant-loop g l = record {
  after : l.start ≤ l.received;
  before : l.received ≤ l.end;
  read : Consumes
      (g.S.Read.remaining l.initial.stream) (g.S.Read.remaining l.stream)
      (drop l.start (take l.received l.bytes));
  kept : take l.start l.bytes ≡ take l.start l.initial.bytes;
  written : Keeps (g.S.Write.contents l.initial.stream) (g.S.Write.contents l.stream);
}
