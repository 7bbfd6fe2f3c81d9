use Rattle.std.proofs.Common.{◌≡◌, [], map, take}
use Rattle.p9_kept.specs.Making.{IsUntouched, Makes}
use Rattle.p9_kept.proofs.drafting.put_forest.Given as goal

abbrev pub invariant-loop-server : goal.invariant-loop-server
invariant-loop-server g l = record {
  made : Makes (g.D.Device.drafted l.initial.log.device) l.initial.noted []
      → Makes (g.D.Device.drafted l.log.device) l.noted
      (map g.T.Tree.state (take l.server l.trees));
  usable : l.log.usable ≡ l.initial.log.usable;
  log : IsUntouched g.D.Device.seen g.D.Device.moment g.D.Device.may_leave g.D.Device.left_since
      l.initial.log.device l.log.device;
}
