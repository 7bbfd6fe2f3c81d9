-- When a node may join a tree in ordered maps.
use Rattle.std.specs.Prelude.{◌≡◌, ◌≤◌, ℕ, IsTrue, List, Some}
use Rattle.p9_base.specs.Name.{is_name}
use Rattle.p9_tree.specs.declared.node.Entry.{Entry}
use Rattle.p9_tree.specs.Node.{IsTellable, Node}
use Rattle.p9_tree.specs.Server.{CanAdd}
use Rattle.p9_index.specs.Tree.{server_of}

-- the node may join under this number, which was never given, and this entry
pub record CanJoin (nodes : List (ℕ × Node)) (next : ℕ) (e : Entry) (number : ℕ) (n : Node)
    : Type 0 where
  pub not_given : next ≤ number
  pub can_add : CanAdd (server_of nodes number) e.parent n
  pub own : n.number ≡ number
  pub parent : n.parent ≡ Some e.parent
  pub name : n.name ≡ e.name
  pub valid : IsTrue (is_name n.name)
  pub tellable : IsTellable n
