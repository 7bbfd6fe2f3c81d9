use Rattle.std.proofs.Common.{◌≡◌, ◌-◌, ◌<◌, ◌≤◌, ◌^◌, length}
use Rattle.p9_client.specs.Files.{WritesOn}
use Rattle.p9_client.proofs.session.Session.write_whole.Given as goal

abbrev pub invariant-loop-written : goal.invariant-loop-written
invariant-loop-written g l = record {
  within : l.written ≤ length l.bytes;
  failed : l.self.failed ≡ l.fn.self.failed;
  some : 0 < l.span;
  small : l.span < 2 ^ 24;
  wrote : WritesOn
      g.S.Read.remaining g.S.Write.contents l.fid l.bytes 0 l.written l.fn.self l.self;
}

abbrev pub decreases-loop-written : goal.decreases-loop-written
decreases-loop-written g l = length l.bytes - l.written
