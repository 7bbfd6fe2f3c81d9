-- Lines between boxes.
use Rattle.std.specs.Prelude.{◌<◌, Bool, List, length, slice_get}
use Rattle.std.specs.Option.{IsSomeAnd}
use Rattle.p9_base.specs.declared.node_ref.NodeRef.{NodeRef}
use Rattle.p9_base.specs.NodeRef.{same_node}
use Rattle.p9_map.specs.declared.item.Link.{Link}
use Rattle.p9_map.specs.declared.item.Placed.{Placed}
use Rattle.p9_map.specs.declared.line.Line.{Line}
use Rattle.p9_map.specs.declared.order.Spot.{Spot}
use Rattle.p9_map.specs.Rect.{IsOnBorder}

-- both ends of the link are positions in the list
pub record IsBetween {X : Type 0} (boxes : List X) (link : Link) : Type 0 where
  pub from : link.from < length boxes
  pub to : link.to < length boxes

-- the line begins on the border of its first box, and ends on that of its second
pub record IsJoined (boxes : List Placed) (line : Line) : Type 0 where
  pub starts : IsSomeAnd (slice_get boxes line.link.from) (λ b. IsOnBorder b.rect line.start)
  pub ends : IsSomeAnd (slice_get boxes line.link.to) (λ b. IsOnBorder b.rect line.end)

-- the box is that of the node
abbrev pub is_at : NodeRef → Spot → Bool
is_at node spot = same_node spot.node node
