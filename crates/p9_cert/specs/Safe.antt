-- Places that may be given to listed users: none of their members leads into a hidden directory.
use Rattle.std.specs.Prelude.{◌≡◌, ℕ, Bool, List, Some, IsTrue, IsFalse}
use Rattle.std.specs.List.{AllByRecursion}
use Rattle.p9_base.specs.declared.node_ref.NodeRef.{NodeRef}
use Rattle.p9_base.specs.NodeRef.{beside}
use Rattle.p9_tree.specs.Node.{Node}
use Rattle.p9_tree.specs.Server.{Server}
use Rattle.p9_tree.specs.Forest.{node_of}
use Rattle.p9_tree.specs.Inside.{is_hidden, is_inside}
use Rattle.p9_space.specs.Table.{MountRow, members_of}
use Rattle.p9_policy.specs.Policy.{Policy}
use Rattle.p9_policy.specs.Listed.{is_alterable, is_open, is_owned, is_passable}

-- a set of directories, by a test
abbrev pub Set : Type 0
Set = NodeRef → Bool

-- no listed user may read, write or search the node, or rules it
pub record IsShut (policy : Policy) (n : Node) : Type 0 where
  pub unused : IsFalse (is_open policy.users policy.groups n)
  pub unruled : IsFalse (is_owned policy.users policy.groups n)

module _ (policy : Policy) (forest : List Server) where
  -- the node is a root, or no listed user may alter the directory that it is in
  abbrev pub IsGuarded : NodeRef → Node → Type 0
  IsGuarded at n = (p : ℕ) (d : Node) → n.parent ≡ Some p → node_of (beside at p) forest ≡ Some d
      → IsFalse (is_alterable policy.users policy.groups d)

  -- a member is not inside a hidden directory; if it is hidden, it is shut and guarded; if listed
  -- users may pass it, it is in the certificate. A member that is gone is safe
  pub record IsSafeMember (certified : Set) (at : NodeRef) : Type 0 where
    pub outside : IsFalse (is_inside at policy.hidden forest)
    pub shut : IsTrue (is_hidden at policy.hidden)
        → (n : Node) → node_of at forest ≡ Some n → IsShut policy n
    pub guarded : IsTrue (is_hidden at policy.hidden)
        → (n : Node) → node_of at forest ≡ Some n → IsGuarded at n
    pub covered : (n : Node) → node_of at forest ≡ Some n
        → IsTrue (is_passable policy.users policy.groups n) → IsTrue (certified at)

  -- a place is safe if each of its members is
  abbrev pub IsSafe : List MountRow → Set → NodeRef → Type 0
  IsSafe table certified place =
      AllByRecursion (λ m. IsSafeMember certified m.node) (members_of place table)
