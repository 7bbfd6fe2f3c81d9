-- Certificates beyond which no listed user comes.
use Rattle.std.specs.Prelude.{◌≡◌, ℕ, List, Some, IsTrue, IsFalse}
use Rattle.p9_base.specs.declared.node_ref.NodeRef.{NodeRef}
use Rattle.p9_base.specs.NodeRef.{beside}
use Rattle.p9_tree.specs.Node.{Node}
use Rattle.p9_tree.specs.Server.{Server}
use Rattle.p9_tree.specs.Forest.{is_dir_of, node_of}
use Rattle.p9_tree.specs.Inside.{is_hidden, is_inside}
use Rattle.p9_space.specs.Given.{is_table_given}
use Rattle.p9_space.specs.Place.{root_place}
use Rattle.p9_space.specs.Table.{MountRow}
use Rattle.p9_policy.specs.Policy.{Policy}
use Rattle.p9_cert.specs.Safe.{IsSafe, Set}

module _ (policy : Policy) (forest : List Server) where
  -- a directory that exists, neither hidden nor inside a hidden one
  pub record IsShown (at : NodeRef) : Type 0 where
    pub dir : IsTrue (is_dir_of at forest)
    pub not_hidden : IsFalse (is_hidden at policy.hidden)
    pub outside : IsFalse (is_inside at policy.hidden forest)

  -- the mount table names only nodes that were made; each row is shown; the root place is safe, and
  -- so is each child of a row, taken as a place
  pub record IsClosed (table : List MountRow) (certified : Set) : Type 0 where
    pub given : IsTrue (is_table_given forest table)
    pub rows : (at : NodeRef) → IsTrue (certified at) → IsShown at
    pub root : IsSafe policy forest table certified root_place
    pub children : (at : NodeRef) (k : ℕ) (n : Node) → IsTrue (certified at)
        → node_of (beside at k) forest ≡ Some n → n.parent ≡ Some at.number
        → IsSafe policy forest table certified (beside at k)
