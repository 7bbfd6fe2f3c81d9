use Rattle.std.proofs.Common.{◌≡◌, ◌≤◌, ◌-◌, length, map, take}
use Rattle.p9_client.specs.Files.{WalksPath}
use Rattle.p9_client.proofs.session.Session.walk_path.Given as goal

abbrev pub invariant-loop-walked : goal.invariant-loop-walked
invariant-loop-walked g l = record {
  within : l.walked ≤ length l.path;
  failed : l.self.failed ≡ l.fn.self.failed;
  walks : WalksPath
      g.S.Read.remaining g.S.Write.contents l.fid l.newfid
      (map (λ name. name.now) (take l.walked l.path)) l.fn.self l.self;
}

abbrev pub decreases-loop-walked : goal.decreases-loop-walked
decreases-loop-walked g l = length l.path - l.walked
