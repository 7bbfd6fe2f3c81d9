use Rattle.std.proofs.Common.{◌≡◌, length}
use Rattle.p9_fids.specs.Held.{AllFit}
use Rattle.p9_step.specs.ForestChange.{all_applied}
use Rattle.p9_step.specs.Sound.{AreWellOpen}
use Rattle.p9_step.specs.End.{on_ends}
use Rattle.p9_walks.proofs.end.end_fids.Given as goal

abbrev pub invariant-loop-fid : goal.invariant-loop-fid
invariant-loop-fid g l =
    let here = l.forest in
    let start = l.fn.forest in
    AreWellOpen l.setting.table here l.fids.fids
    × (all_applied (on_ends l.setting.table l.clock here l.fids.fids) here
    ≡ all_applied (on_ends l.fn.setting.table l.fn.clock start l.fn.fids.fids) start)
    × AllFit l.setting.table l.fids

abbrev pub decreases-loop-fid : goal.decreases-loop-fid
decreases-loop-fid g l = length l.fids.fids
