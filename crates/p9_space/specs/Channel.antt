-- Channels: a trail, and where the rows of its places are in a mount table.
use Rattle.std.specs.Prelude.{◌≡◌, ℕ, List, Option, map}
use Rattle.p9_base.specs.declared.node_ref.NodeRef.{NodeRef}
use Rattle.p9_table.specs.Table.{MountRow}
pub use Rattle.p9_table.specs.Table.{row_position}

-- the places, and for each the position of its row, if it has one
pub record Channels : Type 0 where
  pub trail : List NodeRef
  pub rows : List (Option ℕ)

-- the places alone
abbrev pub trail_of : Channels → List NodeRef
trail_of channels = channels.trail

-- those of the places
abbrev pub rows_of : List MountRow → List NodeRef → List (Option ℕ)
rows_of table trail = map (λ key. row_position key table) trail

-- each row is its key's position in the table
abbrev pub Fits : List MountRow → Channels → Type 0
Fits table channels = channels.rows ≡ rows_of table channels.trail
