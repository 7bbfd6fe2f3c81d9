-- The fids of a session: a finite map from numbers to users, trails and what is open.
use Rattle.std.specs.Prelude.{ℕ, ◌-◌, ◌^◌, ◌==◌, ◌&&◌, Bool, count_by, nat_le, List}
use Rattle.std.specs.Prelude.{Option, None}
use Rattle.std.specs.Prelude.{Some, length, is_some, if◌then◌else◌}
use Rattle.std.specs.Option.{option_map_or}
use Rattle.std.specs.Ordering.{nat_cmp}
use Rattle.std.specs.Map.{lookup, remove_entry, set_value, values_of}
use Rattle.std.specs.BTreeMap.{insert_entry, is_at}
use Rattle.p9_base.specs.declared.fault.Fault.{Fault}
use Rattle.p9_base.specs.declared.fault.Fault.TheVariants.{FidInUse, TooManyFids, UnknownFid}
use Rattle.p9_base.specs.declared.node_ref.NodeRef.{NodeRef}
use Rattle.p9_base.specs.NodeRef.{same_node}
use Rattle.p9_space.specs.Place.{file_ref}
use Rattle.p9_space.specs.Table.{MountRow}
use Rattle.p9_space.specs.Trail.{here}
use Rattle.p9_fids.specs.declared.opened.Opened.{Opened}

-- what a client holds on to: who attached it, how its file was reached, and what it is open for
pub record Fid : Type 0 where
  pub user : List ℕ
  pub trail : List NodeRef
  pub opened : Option Opened

-- a fid, after its number
abbrev pub FidRow : Type 0
FidRow = ℕ × Fid

-- the fid of the number
abbrev pub fid_at : ℕ → List FidRow → Option Fid
fid_at fid fids = lookup (is_at (nat_cmp fid)) fids

-- with a new fid in its place among the rising numbers
abbrev pub with_fid : ℕ → Fid → List FidRow → List FidRow
with_fid fid v fids = insert_entry nat_cmp fids fid v

-- without the fid of the number
abbrev pub without_fid : ℕ → List FidRow → List FidRow
without_fid fid fids = remove_entry (is_at (nat_cmp fid)) fids

-- with a change of one fid, if it is there
abbrev pub changed_fid : ℕ → (Fid → Fid) → List FidRow → List FidRow
changed_fid fid f fids =
    option_map_or (λ v. set_value (is_at (nat_cmp fid)) fids (f v)) (fid_at fid fids) fids

-- the fid is where the trail leads
abbrev pub trailed : List NodeRef → Fid → Fid
trailed trail v = record v { trail = trail }

-- the fid is open for this
abbrev pub opened_as : Opened → Fid → Fid
opened_as opened v = record v { opened = Some opened }

-- the number that is no fid: the greatest of 32 bits
abbrev pub nofid : ℕ
nofid = 2 ^ 32 - 1

-- the most fids of a session
abbrev pub fids_max : ℕ
fids_max = 1024

-- why the fid can't be added
abbrev pub put_fault : ℕ → List FidRow → Option Fault
put_fault fid fids =
    if fid == nofid then Some UnknownFid
    else if is_some (fid_at fid fids) then Some FidInUse
    else if nat_le fids_max (length fids) then Some TooManyFids
    else None

-- the fid is open, and has the node as its file
abbrev pub is_open_on : List MountRow → NodeRef → Fid → Bool
is_open_on table node v = is_some v.opened && same_node (file_ref (here v.trail) table) node

-- how many open fids have the node as their file
abbrev pub open_count : List MountRow → NodeRef → List FidRow → ℕ
open_count table node fids = count_by (is_open_on table node) (values_of fids)
