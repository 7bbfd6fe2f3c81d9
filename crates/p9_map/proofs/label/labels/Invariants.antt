use Rattle.std.proofs.Common.{map, take}
use Rattle.std.specs.Option.{option_copied}
use Rattle.p9_map.specs.Label.{AreLabels, label_texts}
use Rattle.p9_map.specs.Walk.{walk_in}
use Rattle.p9_map.proofs.label.labels.Given as goal

-- the labels so far are those of the nodes so far
abbrev pub invariant-loop-spot : goal.invariant-loop-spot
invariant-loop-spot g l =
    AreLabels l.scene.world.now (walk_in (option_copied l.scene.breach))
    (map (λ s. s.node) (take l.spot-index l.spots)) (map label_texts l.labels.items)
