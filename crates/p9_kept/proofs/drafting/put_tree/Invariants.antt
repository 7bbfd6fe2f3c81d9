use Rattle.std.proofs.Common.{◌≡◌, [], ◌∷◌, ◌++◌, List, length, ◌-◌}
use Rattle.p9_tree.specs.Server.{Server}
use Rattle.p9_kept.specs.Making.{IsUntouched, Makes}
use Rattle.p9_kept.proofs.Making.{IsMadeTo}
use Rattle.p9_kept.proofs.drafting.put_tree.Given as goal

abbrev pub invariant-loop-node : goal.invariant-loop-node
invariant-loop-node g l = record {
  server : Server;
  so_far : IsMadeTo l.number (g.T.Tree.state l.tree) server;
  made : (front : List Server) → length front ≡ l.server
      → Makes (g.D.Device.drafted l.fn.log.device) l.fn.noted front
      → Makes (g.D.Device.drafted l.log.device) l.noted (front ++ server ∷ []);
  usable : l.log.usable ≡ l.fn.log.usable;
  log : IsUntouched g.D.Device.seen g.D.Device.moment g.D.Device.may_leave g.D.Device.left_since
      l.fn.log.device l.log.device;
}

abbrev pub decreases-loop-node : goal.decreases-loop-node
decreases-loop-node g l = (g.T.Tree.state l.tree).next - l.number
