use Rattle.std.proofs.Common.{◌≡◌, ◌+◌, ◌-◌}
use Rattle.p9_client.specs.Files.{spelled}
use Rattle.p9_client.proofs.ReadPieces.{HasRead}
use Rattle.p9_client.proofs.session.Session.list_within.Given as goal

abbrev pub invariant-loop-offset : goal.invariant-loop-offset
invariant-loop-offset g l = record {
  failed : l.self.failed ≡ l.fn.self.failed;
  read : HasRead
      g.S.Read.remaining g.S.Write.contents l.fid l.offset (spelled l.entries.items) l.fn.self l.self;
}

abbrev pub decreases-loop-offset : goal.decreases-loop-offset
decreases-loop-offset g l = l.most + 1 - l.offset
