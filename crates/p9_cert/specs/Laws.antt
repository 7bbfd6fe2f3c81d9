-- Laws of certificates.
use Rattle.std.specs.Prelude.{◌≡◌, ◌↔◌, List, None}
use Rattle.p9_base.specs.declared.node_ref.NodeRef.{NodeRef}
use Rattle.p9_tree.specs.Server.{Server}
use Rattle.p9_tree.specs.Forest.{IsForest}
use Rattle.p9_space.specs.Table.{MountRow}
use Rattle.p9_policy.specs.Policy.{Policy}
use Rattle.p9_policy.specs.Rows.{is_row}
pub use Rattle.p9_policy.specs.Laws.{WrittenReadsBack}
use Rattle.p9_cert.specs.Closed.{IsClosed}
use Rattle.p9_cert.specs.Gap.{first_gap}

-- there is no gap exactly where the rows are closed
abbrev pub NoGapIsClosed : Type 0
NoGapIsClosed =
    (policy : Policy) (forest : List Server) (table : List MountRow) (rows : List NodeRef)
    → IsForest forest
    → (first_gap policy forest table rows ≡ None) ↔ IsClosed policy forest table (is_row rows)
