-- The boxes that lie before the next one.
use Rattle.std.specs.Prelude.{◌<◌, ◌≤◌, ◌⊎◌}
use Rattle.p9_map.specs.declared.rect.Rect.{Rect}
use Rattle.p9_map.specs.declared.pen.Corner.{Corner}
use Rattle.p9_map.specs.declared.pen.Pen.{Pen}

-- above what begins at the corner, or to the left of all of its column
abbrev pub IsClear : Rect → Corner → Type 0
IsClear r corner = (r.bottom < corner.top) ⊎ (r.right < corner.left)

-- a rectangle lies within what all boxes lie within, and out of the way of the next one
pub record IsBefore (r : Rect) (pen : Pen) : Type 0 where
  pub within_right : r.right ≤ pen.right
  pub within_bottom : r.bottom ≤ pen.bottom
  pub passed : IsClear r pen.corner
