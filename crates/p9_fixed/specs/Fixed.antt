-- Name spaces in which no listed user can change anything that he can come to.
use Rattle.std.specs.Prelude.{◌≡◌, ℕ, List, Some, IsTrue, IsFalse}
use Rattle.std.specs.List.{AllByRecursion}
use Rattle.p9_base.specs.declared.node_ref.NodeRef.{NodeRef}
use Rattle.p9_base.specs.NodeRef.{beside}
use Rattle.p9_tree.specs.Node.{Node}
use Rattle.p9_tree.specs.Server.{Server}
use Rattle.p9_tree.specs.Forest.{node_of}
use Rattle.p9_space.specs.Place.{root_place}
use Rattle.p9_space.specs.Table.{MountRow, members_of}
use Rattle.p9_step.specs.Open.{is_exclusive}
use Rattle.p9_cert.specs.Listed.{is_alterable, is_open}
use Rattle.p9_cert.specs.Policy.{Policy}
use Rattle.p9_cert.specs.Safe.{IsGuarded, Set}

module _ (policy : Policy) (forest : List Server) where
  -- no listed user may write the node or rules it, and none may write the directory that it is in or
  -- rules that. None may use a file of exclusive use, which tells who opens it whether another has
  -- it open
  pub record IsFixedNode (at : NodeRef) (n : Node) : Type 0 where
    pub unaltered : IsFalse (is_alterable policy.users policy.groups n)
    pub kept : IsGuarded policy forest at n
    pub shared : IsTrue (is_exclusive n) → IsFalse (is_open policy.users policy.groups n)

  -- each member of the place that exists is so
  abbrev pub IsFixedPlace : List MountRow → NodeRef → Type 0
  IsFixedPlace table place =
      AllByRecursion (λ m. (n : Node) → node_of m.node forest ≡ Some n → IsFixedNode m.node n)
      (members_of place table)

  -- the root place is fixed, and so is each child of a row of the certificate, taken as a place:
  -- listed users come to no other place
  pub record IsFixed (table : List MountRow) (certified : Set) : Type 0 where
    pub root : IsFixedPlace table root_place
    pub children : (at : NodeRef) (k : ℕ) (n : Node) → IsTrue (certified at)
        → node_of (beside at k) forest ≡ Some n → n.parent ≡ Some at.number
        → IsFixedPlace table (beside at k)
