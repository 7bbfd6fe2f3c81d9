use Rattle.std.proofs.Common.{◌≡◌, ◌≤◌, ◌+◌, drop, length, map}
use Rattle.p9_space.specs.Channel.{Fits, trail_of}
use Rattle.p9_step.specs.Walk.{walked}
use Rattle.p9_walks.proofs.Walks.{so_far}
use Rattle.p9_walks.proofs.walk.walk_along.Given as goal

-- the qids so far, and the walk along the names that are left, are the whole walk
abbrev pub invariant-loop-name : goal.invariant-loop-name
invariant-loop-name g l =
    let forest = l.forest in
    let walk = walked l.setting forest l.user in
    record {
      count : length l.qids ≡ l.name-index;
      walk : walk (trail_of l.start) l.names
          ≡ so_far l.qids (walk (trail_of l.way) (map (λ n. n.now) (drop l.name-index l.name-items)));
      fits : Fits l.setting.table l.way;
      within : l.name-index ≤ length l.name-items;
      few : length (trail_of l.way) ≤ length (trail_of l.start) + l.name-index;
    }
