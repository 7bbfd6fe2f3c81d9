-- The rows of a certificate: directories, by rising server and number.
use Rattle.std.specs.Prelude.{◌-◌, ◌<◌, ◌==◌, ◌&&◌, ◌||◌, Bool, true, nat_lt, List, IsTrue}
use Rattle.std.specs.Prelude.{length}
use Rattle.std.specs.Prelude.{slice_get, All, AllPairs}
use Rattle.std.specs.List.{list_any}
use Rattle.std.specs.Option.{option_map_or}
use Rattle.p9_base.specs.declared.node_ref.NodeRef.{NodeRef}
use Rattle.p9_base.specs.NodeRef.{same_node, servers_max}
use Rattle.p9_tree.specs.Server.{next_max}

-- it comes before the other: by server, then by number
abbrev pub is_below : NodeRef → NodeRef → Bool
is_below a b = nat_lt a.server b.server || (a.server == b.server && nat_lt a.number b.number)

-- it is greater than the last row, if there is one
abbrev pub may_follow : List NodeRef → NodeRef → Bool
may_follow rows row =
    option_map_or (λ last. is_below last row) (slice_get rows (length rows - 1)) true

-- a server's number has 16 bits, and a node's is one that a server may give
abbrev pub IsRow : NodeRef → Type 0
IsRow row = (row.server < servers_max) × (row.number < next_max)

-- each row is a node's, and comes before those after it
pub record IsCertificate (rows : List NodeRef) : Type 0 where
  pub rising : AllPairs (λ a b. IsTrue (is_below a b)) rows
  pub sound : All IsRow rows

-- the node is a row
abbrev pub is_row : List NodeRef → NodeRef → Bool
is_row rows at = list_any (λ row. same_node row at) rows
