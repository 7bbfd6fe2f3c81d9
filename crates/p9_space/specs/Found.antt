-- What the functions that walk find.
use Rattle.std.specs.Prelude.{◌≡◌, List, Some}
use Rattle.p9_base.specs.declared.node_ref.NodeRef.{NodeRef}
use Rattle.p9_tree.specs.Server.{Server}
use Rattle.p9_tree.specs.Forest.{node_of}
use Rattle.p9_space.specs.declared.walk.Child.{Child}

-- the place of a child
abbrev pub place_of : {A : Type 0} → Child A → NodeRef
place_of child = child.place

-- its node is the one there
abbrev pub IsThere : {A : Type 0} → List Server → Child A → Type 0
IsThere forest child = node_of child.place forest ≡ Some child.node.now
