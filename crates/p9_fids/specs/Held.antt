-- Fids that know where the rows of their places are in a mount table.
use Rattle.std.specs.Prelude.{◌≡◌, ℕ, List, [], Option, map}
use Rattle.p9_space.specs.Channel.{Channels, Fits, rows_of}
use Rattle.p9_space.specs.Table.{MountRow}
use Rattle.p9_fids.specs.Fid.{Fid, FidRow}

-- a fid, and for each of its places the position of its row, if it has one
pub record Held : Type 0 where
  pub fid : Fid
  pub rows : List (Option ℕ)

-- fids by rising number, and beside each number the rows of its fid
pub record HeldFids : Type 0 where
  pub fids : List FidRow
  pub rows : List (ℕ × List (Option ℕ))

-- entries of the same keys, each with what is made of its value
abbrev pub map_values : {X Y : Type 0} → (X → Y) → List (ℕ × X) → List (ℕ × Y)
map_values f entries = map (λ entry. (entry.0, f entry.1)) entries

-- the fid alone
abbrev pub fid_of : Held → Fid
fid_of held = held.fid

-- the rows alone
abbrev pub rows_in : Held → List (Option ℕ)
rows_in held = held.rows

-- fids as they are seen
abbrev pub held_fids : List (ℕ × Held) → HeldFids
held_fids entries = record { fids = map_values fid_of entries; rows = map_values rows_in entries }

-- no fids
abbrev pub no_fids : HeldFids
no_fids = record { fids = []; rows = [] }

-- the places of a fid, with their rows
abbrev pub channels_of : Held → Channels
channels_of held = record { trail = held.fid.trail; rows = held.rows }

-- the rows of a fid are those of its places in the table
abbrev pub HeldFits : List MountRow → Held → Type 0
HeldFits table held = Fits table (channels_of held)

-- the same of each fid
abbrev pub AllFit : List MountRow → HeldFids → Type 0
AllFit table held = held.rows ≡ map_values (λ fid. rows_of table fid.trail) held.fids

-- the rows of fids and of channels are those of their places in one table
pub record FitTogether (held : HeldFids) (channels : Channels) : Type 0 where
  pub table : List MountRow
  pub fids : AllFit table held
  pub fits : Fits table channels
