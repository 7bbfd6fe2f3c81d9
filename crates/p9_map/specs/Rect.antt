-- Points and rectangles. `x` counts from the left, `y` from the top.
use Rattle.std.specs.Prelude.{◌≡◌, ℕ, ◌<◌, ◌≤◌, ◌⊎◌}
use Rattle.p9_map.specs.declared.rect.Point.{Point}
use Rattle.p9_map.specs.declared.rect.Rect.{Rect}

-- the point is on one of the four sides
pub record IsOnBorder (r : Rect) (p : Point) : Type 0 where
  pub from_left : r.left ≤ p.x
  pub to_right : p.x ≤ r.right
  pub from_top : r.top ≤ p.y
  pub to_bottom : p.y ≤ r.bottom
  pub side : (p.x ≡ r.left) ⊎ (p.x ≡ r.right) ⊎ (p.y ≡ r.top) ⊎ (p.y ≡ r.bottom)

-- no point is in both
abbrev pub AreApart : Rect → Rect → Type 0
AreApart a b = (a.right < b.left) ⊎ (b.right < a.left) ⊎ (a.bottom < b.top) ⊎ (b.bottom < a.top)

-- it lies on a page of this width and height
abbrev pub IsWithin : (width height : ℕ) → Rect → Type 0
IsWithin width height r = (r.right ≤ width) × (r.bottom ≤ height)
