use Rattle.std.proofs.Common.{◌≡◌, ◌++◌, drop, map}
use Rattle.std.specs.Option.{option_copied}
use Rattle.std.specs.String.{string_bytes}
use Rattle.p9_map.specs.Label.{label_texts}
use Rattle.p9_map.specs.Mark.{rows_of}
use Rattle.p9_map.specs.Picture.{boxes_text}
use Rattle.p9_map.specs.Walk.{walk_in}
use Rattle.p9_map.proofs.picture.boxes.Given as goal

-- the boxes so far, and those that are left
abbrev pub invariant-loop-i : goal.invariant-loop-i
invariant-loop-i g l =
    string_bytes l.svg.text
    ++ boxes_text l.scene.world.now (rows_of (option_copied l.scene.reached))
    (walk_in (option_copied l.scene.breach)) (drop l.i l.boxes)
    (map label_texts (drop l.i l.labels))
    ≡ boxes_text l.scene.world.now (rows_of (option_copied l.scene.reached))
    (walk_in (option_copied l.scene.breach)) l.boxes (map label_texts l.labels)
