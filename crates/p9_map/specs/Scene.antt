-- The nodes that are marked in a picture.
use Rattle.std.specs.Prelude.{◌≡◌, ◌||◌, Bool, List}
use Rattle.std.specs.List.{list_any}
use Rattle.p9_base.specs.declared.node_ref.NodeRef.{NodeRef}
use Rattle.p9_base.specs.NodeRef.{same_node}
use Rattle.p9_space.specs.Table.{MountRow}
use Rattle.p9_cert.specs.Rows.{is_row}
use Rattle.p9_map.specs.declared.walk.Hop.{Hop}

-- the keys of a set are exactly the nodes that pass the test
abbrev pub AreThose : (keys : List NodeRef) → (NodeRef → Bool) → Type 0
AreThose keys test = (at : NodeRef) → is_row keys at ≡ test at

-- those that pass the test joined the keys of a set
abbrev pub AreJoinedBy : (old new : List NodeRef) → (NodeRef → Bool) → Type 0
AreJoinedBy old new test = AreThose new (λ at. is_row old at || test at)

-- a hop comes to the node
abbrev pub is_come_to : List Hop → NodeRef → Bool
is_come_to hops at = list_any (λ h. same_node h.to at) hops

-- the node is the key of a row of the mount table, or one of its members
abbrev pub is_in_row : NodeRef → MountRow → Bool
is_in_row at row = same_node row.0 at || list_any (λ m. same_node m.node at) row.1

-- the node is in some row
abbrev pub is_in_table : List MountRow → NodeRef → Bool
is_in_table table at = list_any (is_in_row at) table

-- the node is a hidden directory, the walk comes to it, or it is in the mount table
abbrev pub is_marked : (hidden : List NodeRef) → List Hop → List MountRow → NodeRef → Bool
is_marked hidden hops table at = is_row hidden at || is_come_to hops at || is_in_table table at
