-- Which entries a tour goes on from, by the nodes of their members.
use Rattle.std.specs.Prelude.{ℕ, List, Option, map}
use Rattle.std.specs.BTreeMap.{get_by}
use Rattle.std.specs.Cmp.Lexicographic.{slice_cmp}
use Rattle.std.specs.Ordering.{nat_cmp, ordering_then}
use Rattle.std.specs.declared.cmp.Ordering.{Ordering}
use Rattle.p9_base.specs.declared.node_ref.NodeRef.{NodeRef}
use Rattle.p9_table.specs.declared.row.Member.{Member}
use Rattle.p9_space.specs.Table.{MountRow, members_of}
use Rattle.p9_view.specs.declared.met.Met.{Met}

-- the nodes of members
abbrev pub nodes_of : List Member → List NodeRef
nodes_of ms = map (λ m. m.node) ms

-- those of the members of a place
abbrev pub nodes_at : NodeRef → List MountRow → List NodeRef
nodes_at place table = nodes_of (members_of place table)

-- by server, then by number
abbrev pub node_cmp : NodeRef → NodeRef → Ordering
node_cmp a b = ordering_then (nat_cmp a.server b.server) (nat_cmp a.number b.number)

-- the index of the entry that was gone on from with these nodes
abbrev pub met_at : {Z : Type 0} → Met Z → List NodeRef → Option ℕ
met_at met nodes = get_by (λ key. slice_cmp node_cmp nodes key.items) met.by_nodes
