use Rattle.std.proofs.Common.{◌≡◌, ◌≤◌, All, length, map}
use Rattle.p9_base.specs.NodeRef.{servers_max}
use Rattle.p9_kept.specs.Edits.{stood_from}
use Rattle.p9_kept.specs.Entered.{AreEntered}
use Rattle.p9_kept.proofs.Edits.{IsRead}
use Rattle.p9_kept.proofs.replaying.replay_in.Given as goal

abbrev pub invariant-loop-rest : goal.invariant-loop-rest
invariant-loop-rest g l = record {
  stood : stood_from (map g.T.Tree.state l.trees.items) l.rest
      ≡ stood_from (map g.T.Tree.state l.initial.trees.items) l.initial.rest;
  read : IsRead l.initial.rest l.rest;
  few : length l.trees.items ≤ servers_max;
  entered : All (λ t. AreEntered l.entered (g.T.Tree.state t).nodes) l.trees.items;
}

abbrev pub decreases-loop-rest : goal.decreases-loop-rest
decreases-loop-rest g l = length l.rest
