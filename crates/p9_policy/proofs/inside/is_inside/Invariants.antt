use Rattle.std.proofs.Common.{◌≡◌, ◌+◌}
use Rattle.std.specs.Option.{option_map_or}
use Rattle.p9_tree.specs.Inside.{is_inside}
use Rattle.p9_policy.proofs.Parents.{inside_under}
use Rattle.p9_policy.proofs.inside.is_inside.Given as goal

-- a node under the parent that was come to is inside where the first one is
abbrev pub invariant-loop-above : goal.invariant-loop-above
invariant-loop-above g l =
    let forest = l.forest in
    inside_under l.hidden forest l.at l.above ≡ is_inside l.at l.hidden forest

abbrev pub decreases-loop-above : goal.decreases-loop-above
decreases-loop-above g l = option_map_or (λ p. p + 1) l.above 0
