use Rattle.std.proofs.Common.{◌≡◌, ◌-◌, ◌<◌, ◌≤◌, false}
use Rattle.p9_client.specs.Ahead.{part_size, write_part}
use Rattle.p9_client.proofs.Exchanged.{HasSent}
use Rattle.p9_client.proofs.session.Session.send_writes.Given as goal

abbrev pub invariant-loop-at : goal.invariant-loop-at
invariant-loop-at g l = record {
  within : l.at ≤ l.len;
  counted : l.count ≤ l.at;
  few : l.count ≤ 8;
  some : 0 < l.at → 0 < l.count;
  alive : 0 < l.count → l.self.failed ≡ false;
  msize : l.self.msize ≡ l.fn.self.msize;
  sent : HasSent
      g.S.Read.remaining g.S.Write.contents
      (write_part l.fid l.start (l.fn.self.msize - 24) l.len l.bytes)
      (part_size (l.fn.self.msize - 24) l.len) l.count l.at l.fn.self l.self;
}

abbrev pub decreases-loop-at : goal.decreases-loop-at
decreases-loop-at g l = l.len - l.at
