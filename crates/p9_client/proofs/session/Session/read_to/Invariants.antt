use Rattle.std.proofs.Common.{◌≡◌, ℕ, ◌-◌, ◌<◌, ◌^◌, List, length}
use Rattle.std.specs.Io.KnownBytes.{Appends}
use Rattle.p9_client.proofs.ReadAhead.{HasReadFile}
use Rattle.p9_client.proofs.session.Session.read_to.Given as goal

abbrev pub invariant-loop-offset : goal.invariant-loop-offset
invariant-loop-offset g l = record {
  failed : l.self.failed ≡ l.fn.self.failed;
  some : 0 < l.span;
  small : l.span < 2 ^ 24;
  msize : l.self.msize ≡ l.fn.self.msize;
  read : (bytes : List ℕ) × (length bytes ≡ l.offset)
      × HasReadFile g.S.Read.remaining g.S.Write.contents l.fid bytes l.fn.self l.self
      × Appends (g.W.Write.contents l.fn.out) (g.W.Write.contents l.out) bytes;
}

abbrev pub decreases-loop-offset : goal.decreases-loop-offset
decreases-loop-offset g l = 2 ^ 63 - l.offset
