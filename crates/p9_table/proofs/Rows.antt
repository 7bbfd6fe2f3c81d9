-- Rows of a mount table by their positions.
use Rattle.std.proofs.Common.{◌≡◌, ℕ, List, Some, None, sym, ◌∙◌}
use Rattle.std.specs.Prelude.{slice_get}
use Rattle.std.specs.Option.{option_map}
use Rattle.std.proofs.lemmas.Option.{slice_get-map}
use Rattle.indexmap.proofs.MapLemmas.{Found-position, Missing-position}
use Rattle.p9_base.specs.declared.node_ref.NodeRef.{NodeRef}
use Rattle.p9_base.specs.NodeRef.{same_node}
use Rattle.p9_table.specs.Table.{MountRow, row_of, row_position}

-- the row at the key's position is the key's
pub row_at-position : (key : NodeRef) (table : List MountRow) (i : ℕ)
    → row_position key table ≡ Some i
    → option_map (λ row. row.1) (slice_get table i) ≡ row_of key table
row_at-position key table i at =
    sym (slice_get-map (λ (row : MountRow). row.1) table i) ∙ sym (Found-position (same_node key) table i at).value

-- without a position the key has no row
pub row_of-none : (key : NodeRef) (table : List MountRow) → row_position key table ≡ None
    → row_of key table ≡ None
row_of-none key table at = (Missing-position (same_node key) table at).value
