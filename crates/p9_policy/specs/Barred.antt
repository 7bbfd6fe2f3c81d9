-- Rows that listed users may be shown.
use Rattle.std.specs.Prelude.{List, IsTrue, IsFalse}
use Rattle.p9_base.specs.declared.node_ref.NodeRef.{NodeRef}
use Rattle.p9_tree.specs.Server.{Server}
use Rattle.p9_tree.specs.Inside.{is_barred}
use Rattle.p9_policy.specs.Rows.{is_row}

-- none of the rows is hidden or inside a hidden directory
pub record AreNotBarred (hidden : List NodeRef) (forest : List Server) (rows : List NodeRef) :
    Type 0 where
  pub each : (at : NodeRef) → IsTrue (is_row rows at) → IsFalse (is_barred at hidden forest)
