use Rattle.std.proofs.Common.{◌≡◌, take}
use Rattle.p9_map.proofs.Laid.{AreLaid}
use Rattle.p9_map.proofs.boxes.place_all.Given as goal

-- the boxes so far are laid
abbrev pub invariant-loop-item : goal.invariant-loop-item
invariant-loop-item g l =
    (l.pen.count ≡ l.item-index) × AreLaid (take l.item-index l.items) l.boxes.items l.pen
