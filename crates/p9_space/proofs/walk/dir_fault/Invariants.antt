use Rattle.std.proofs.Common.{◌≡◌, ◌||◌, drop}
use Rattle.std.specs.List.{list_any}
use Rattle.p9_space.specs.Walk.{is_alive, is_alive_dir}
use Rattle.p9_space.proofs.walk.dir_fault.Given as goal

-- no directory was found so far, and what is alive so far or among the members that are left is
-- what is alive among all
abbrev pub invariant-loop-member : goal.invariant-loop-member
invariant-loop-member g l =
    let forest = l.forest in
    let left = drop l.member-index l.members in
    record {
      alive : (l.alive || list_any (is_alive forest) left) ≡ list_any (is_alive forest) l.members;
      dir : list_any (is_alive_dir forest) left ≡ list_any (is_alive_dir forest) l.members;
    }
