-- What holds of every state that the exporter comes to.
use Rattle.std.specs.Prelude.{◌≡◌, ℕ, ◌<◌, ◌≤◌, false, List, Option, Some, None, IsTrue}
use Rattle.std.specs.List.{AllByRecursion, list_all}
use Rattle.p9_base.specs.Group.{are_groups}
use Rattle.p9_base.specs.Rising.{IsRising}
use Rattle.p9_base.specs.User.{is_listed_user, is_user}
use Rattle.p9_tree.specs.Node.{Node, is_dir}
use Rattle.p9_tree.specs.Server.{Server}
use Rattle.p9_tree.specs.Forest.{IsForest, next_of}
use Rattle.p9_space.specs.Given.{is_given, is_table_given}
use Rattle.p9_space.specs.Table.{IsTable, MountRow}
use Rattle.p9_space.specs.Trail.{IsTrail}
use Rattle.p9_wire.specs.Frame.{msize_max}
use Rattle.p9_fids.specs.declared.opened.OpenMode.TheVariants.{Read}
use Rattle.p9_fids.specs.declared.opened.Opened.{Opened}
use Rattle.p9_fids.specs.Fid.{Fid, FidRow}
use Rattle.p9_fids.specs.Fids.{IsFids}
use Rattle.p9_step.specs.State.{Session, SessionRow, Setting, State, fid_file, fid_ref}
use Rattle.p9_step.specs.Version.{msize_min}

-- of a fid that is open: the number of its file was given to a node, and a directory is open for
-- reading alone, and is not removed on close
pub record IsOpenOn (table : List MountRow) (forest : List Server) (v : Fid) (opened : Opened)
    : Type 0 where
  pub given : (fid_ref table v).number < next_of (fid_ref table v).server forest
  pub mode : (n : Node) → fid_file table forest v ≡ Some n → IsTrue (is_dir n) → opened.mode ≡ Read
  pub stays : (n : Node) → fid_file table forest v ≡ Some n → IsTrue (is_dir n)
      → opened.remove_on_close ≡ false

-- the same of a fid, if it is open
abbrev pub IsWellOpen : List MountRow → List Server → Fid → Type 0
IsWellOpen table forest v = (opened : Opened) → v.opened ≡ Some opened
    → IsOpenOn table forest v opened

-- the same of each fid of a session
abbrev pub AreWellOpen : List MountRow → List Server → List FidRow → Type 0
AreWellOpen table forest fids = AllByRecursion (λ row. IsWellOpen table forest row.1) fids

-- of a fid: a listed user holds it, its trail has 1 to 64 places, whose numbers were given to nodes
pub record IsFid (setting : Setting) (forest : List Server) (v : Fid) : Type 0 where
  pub listed : IsTrue (is_listed_user setting.users v.user)
  pub trail : IsTrail v.trail
  pub given : IsTrue (list_all (is_given forest) v.trail)
  pub opened : IsWellOpen setting.table forest v

-- an msize that a version can set
abbrev pub IsMsize : Option ℕ → Type 0
IsMsize None = Unit {0}
IsMsize (Some msize) = (msize_min ≤ msize) × (msize ≤ msize_max)

-- of a session: its msize, and its fids, which are a finite map
pub record IsSession (setting : Setting) (forest : List Server) (session : Session) : Type 0 where
  pub msize : IsMsize session.msize
  pub fids : IsFids session.fids
  pub each : AllByRecursion (λ row. IsFid setting forest row.1) session.fids

-- of what no event changes: whom it lists are users, each group has a name that a user may have,
-- and no row of the mount table is empty, and no key has two rows
pub record IsSetting (setting : Setting) : Type 0 where
  pub users : IsTrue (list_all is_user setting.users)
  pub groups : IsTrue (are_groups setting.groups)
  pub table : IsTable setting.table

-- of the sessions by a setting and a forest: the table names only nodes that were made, and the
-- sessions are a finite map
pub record IsServed (setting : Setting) (forest : List Server) (rows : List SessionRow) : Type 0
  where
    pub fixed : IsSetting setting
    pub given : IsTrue (is_table_given forest setting.table)
    pub rising : IsRising rows
    pub sessions : AllByRecursion (λ row. IsSession setting forest row.1) rows

-- a state that the exporter can come to: its forest is well-formed, and the rest holds by it
pub record IsState (state : State) : Type 0 where
  pub forest : IsForest state.forest
  pub served : IsServed state.setting state.forest state.sessions
