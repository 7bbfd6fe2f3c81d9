use Rattle.std.proofs.Common.{◌≡◌, filter, not, take}
use Rattle.p9_base.specs.NodeRef.{same_node}
use Rattle.p9_explain.proofs.leaks.others.Given as goal

-- those so far that are not the directory
abbrev pub invariant-loop-other : goal.invariant-loop-other
invariant-loop-other g l =
    l.kept.items ≡ filter (λ other. not (same_node other l.dir)) (take l.other-index l.dirs)
