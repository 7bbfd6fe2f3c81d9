-- The state of the exporter: what stays fixed while it serves, the trees, and the sessions.
use Rattle.std.specs.Prelude.{ℕ, ◌-◌, List, [], Option, None}
use Rattle.std.specs.Map.{lookup, remove_entry, set_value}
use Rattle.std.specs.Ordering.{nat_cmp}
use Rattle.std.specs.BTreeMap.{insert_entry, is_at}
use Rattle.std.specs.Option.{option_map_or}
use Rattle.p9_base.specs.Group.{GroupRow}
use Rattle.p9_base.specs.declared.node_ref.NodeRef.{NodeRef}
use Rattle.p9_tree.specs.Node.{Node}
use Rattle.p9_tree.specs.Server.{Server}
use Rattle.p9_space.specs.Place.{file_of, file_ref}
use Rattle.p9_space.specs.Rights.{Who}
use Rattle.p9_space.specs.Table.{MountRow}
use Rattle.p9_space.specs.Trail.{here}
use Rattle.p9_fids.specs.Fid.{Fid, FidRow}

-- what no event changes
pub record Setting : Type 0 where
  pub users : List (List ℕ)
  pub groups : List GroupRow
  pub table : List MountRow

-- a user, with the groups
abbrev pub who_of : Setting → List ℕ → Who
who_of setting user = record { user = user; groups = setting.groups }

-- a session has an msize once its version is set, and its fids by rising number
pub record Session : Type 0 where
  pub msize : Option ℕ
  pub fids : List FidRow

-- a session by its name
abbrev pub SessionRow : Type 0
SessionRow = ℕ × Session

-- the sessions are by rising name
pub record State : Type 0 where
  pub setting : Setting
  pub forest : List Server
  pub sessions : List SessionRow

-- a session whose version isn't set
abbrev pub fresh : Session
fresh = record { msize = None; fids = [] }

-- the session of the name
abbrev pub session_at : ℕ → List SessionRow → Option Session
session_at name sessions = lookup (is_at (nat_cmp name)) sessions

-- with a new session in its place among the rising names
abbrev pub with_session : ℕ → Session → List SessionRow → List SessionRow
with_session name session sessions = insert_entry nat_cmp sessions name session

-- with another session in the place of the one of that name
abbrev pub changed_session : ℕ → Session → List SessionRow → List SessionRow
changed_session name session sessions = set_value (is_at (nat_cmp name)) sessions session

-- without the session of the name
abbrev pub without_session : ℕ → List SessionRow → List SessionRow
without_session name sessions = remove_entry (is_at (nat_cmp name)) sessions

-- what is around the data of a read or a write takes so many bytes at most
abbrev pub io_header : ℕ
io_header = 24

-- what a read or a write of a session may carry, its iounit; nothing before a version
abbrev pub iounit_of : Session → ℕ
iounit_of session = option_map_or (λ msize. msize - io_header) session.msize 0

-- the file of a fid, whether it exists or not: the first member of the place where its trail ends
abbrev pub fid_ref : List MountRow → Fid → NodeRef
fid_ref table v = file_ref (here v.trail) table

-- its node, while it exists
abbrev pub fid_file : List MountRow → List Server → Fid → Option Node
fid_file table forest v = file_of (here v.trail) table forest
