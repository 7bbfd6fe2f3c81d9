-- The members of a row, as bind(1).
use Rattle.std.specs.Prelude.{Bool, false, List, [], ◌∷◌, ◌++◌, map}
use Rattle.p9_base.specs.declared.node_ref.NodeRef.{NodeRef}
use Rattle.p9_base.specs.NodeRef.{same_node}
use Rattle.p9_table.specs.declared.row.Member.{Member}
use Rattle.p9_table.specs.declared.row.Order.{Order}
use Rattle.p9_table.specs.declared.row.Order.TheVariants.{Replace, Before, After}

-- the node as a member, which permits creation or not
abbrev pub member : Bool → NodeRef → Member
member create node = record { node = node; create = create }

-- the member is the node
abbrev pub is_of : NodeRef → Member → Bool
is_of node m = same_node m.node node

-- what a bind brings: the first member takes the bind's permission to create, the others have none
abbrev pub brought : List NodeRef → Bool → List Member
brought [] create = []
brought (node ∷ nodes) create = member create node ∷ map (member false) nodes

-- what a bind makes of its new members and those that were there
abbrev pub joined : Order → (new old : List Member) → List Member
joined Replace new old = new
joined Before new old = new ++ old
joined After new old = old ++ new
