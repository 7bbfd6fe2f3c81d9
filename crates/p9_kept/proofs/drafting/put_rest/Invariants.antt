use Rattle.std.proofs.Common.{◌≡◌, [], ◌∷◌, ◌++◌, List, length, ◌-◌}
use Rattle.p9_tree.specs.Saved.{put_back}
use Rattle.p9_tree.specs.Server.{Server}
use Rattle.p9_kept.specs.Making.{IsNextOf, IsUntouched, Makes, with_front}
use Rattle.p9_kept.proofs.drafting.put_rest.Given as goal

abbrev pub invariant-loop-at : goal.invariant-loop-at
invariant-loop-at g l = record {
  made : (front : List Server) (made : Server) → length front ≡ l.server → IsNextOf made l.node
      → Makes (g.D.Device.drafted l.initial.log.device) l.initial.noted
      (front ++ put_back (with_front l.from l.node) made ∷ [])
      → Makes (g.D.Device.drafted l.log.device) l.noted
      (front ++ put_back (with_front l.at l.node) made ∷ []);
  usable : l.log.usable ≡ l.initial.log.usable;
  log : IsUntouched g.D.Device.seen g.D.Device.moment g.D.Device.may_leave g.D.Device.left_since
      l.initial.log.device l.log.device;
}

abbrev pub decreases-loop-at : goal.decreases-loop-at
decreases-loop-at g l = length l.bytes - l.at
