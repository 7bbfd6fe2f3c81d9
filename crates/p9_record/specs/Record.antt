-- How a change is spelled in bytes.
use Rattle.std.specs.Prelude.{◌≡◌, ℕ, ◌<◌, ◌^◌, IsTrue, List, [], ◌++◌, Option, Some, None, length}
use Rattle.std.specs.Prelude.{option_map}
use Rattle.p9_base.specs.declared.mode.Kind.TheVariants.{Directory}
use Rattle.p9_base.specs.declared.mode.Mode.{Mode}
use Rattle.p9_base.specs.declared.mode.Permissions.{Permissions}
use Rattle.p9_base.specs.Mode.{mode_bits}
use Rattle.p9_base.specs.Name.{is_name}
use Rattle.p9_base.specs.User.{is_user}
use Rattle.std.specs.Option.{ForSome}
use Rattle.p9_tree.specs.declared.change.Change.{Change}
use Rattle.p9_tree.specs.Edit.{Edit, NewFields, SetRoot, Create, Remove, Wstat, Mark, Write, Truncate}
use Rattle.p9_tree.specs.Edit.{PutBack, Skip}
use Rattle.p9_tree.specs.ForestEdit.{ForestEdit, AddServer, OnServer}
use Rattle.p9_tree.specs.Node.{Node, root_name}
use Rattle.p9_wire.specs.Fields.{number, text, counted}

-- a mode in four bytes
abbrev pub mode_bytes : Mode → List ℕ
mode_bytes mode = number 4 (mode_bits mode)

-- a directory's permissions as its mode
abbrev pub permissions_bytes : Permissions → List ℕ
permissions_bytes permissions = mode_bytes (record { kind = Directory; permissions = permissions })

-- 0, or 1 and the value
abbrev pub optional : {A : Type 0} → (A → List ℕ) → Option A → List ℕ
optional f None = number 1 0
optional f (Some x) = number 1 1 ++ f x

-- what a wstat changes, field by field
abbrev pub change_bytes : Change → List ℕ
change_bytes c =
    optional text c.name ++ optional mode_bytes c.mode ++ optional text c.gid
    ++ optional (number 8) c.length ++ optional (number 4) c.mtime ++ text c.user ++ number 4 c.clock

-- a node's directory and its name there; the root has none
abbrev pub entry_of : Node → Option (ℕ × List ℕ)
entry_of n = option_map (λ dir. (dir, n.name)) n.parent

-- a directory and a name
abbrev pub entry_bytes : (ℕ × List ℕ) → List ℕ
entry_bytes entry = number 8 entry.0 ++ text entry.1

-- a node with all its fields
abbrev pub node_bytes : Node → List ℕ
node_bytes n =
    number 8 n.number ++ optional entry_bytes (entry_of n) ++ mode_bytes n.mode ++ text n.uid
    ++ text n.gid ++ text n.muid ++ number 4 n.version ++ number 4 n.atime ++ number 4 n.mtime
    ++ counted n.bytes

-- the number of a change's kind
abbrev pub kind_of : Edit → ℕ
kind_of (SetRoot permissions uid gid) = 0
kind_of (Create dir new) = 1
kind_of (Remove number) = 2
kind_of (Wstat number change) = 3
kind_of (Mark number user clock) = 4
kind_of (Write number offset bytes) = 5
kind_of (Truncate number size) = 6
kind_of (PutBack node) = 7
kind_of (Skip next) = 8

-- its fields in order
abbrev pub body : Edit → List ℕ
body (SetRoot permissions uid gid) = permissions_bytes permissions ++ text uid ++ text gid
body (Create dir new) =
    number 8 dir ++ text new.name ++ mode_bytes new.mode ++ text new.uid ++ text new.gid
    ++ text new.muid ++ number 4 new.atime ++ number 4 new.mtime ++ counted new.bytes
body (Remove at) = number 8 at
body (Wstat at change) = number 8 at ++ change_bytes change
body (Mark at user clock) = number 8 at ++ text user ++ number 4 clock
body (Write at offset bytes) = number 8 at ++ number 8 offset ++ counted bytes
body (Truncate at size) = number 8 at ++ number 8 size
body (PutBack node) = node_bytes node
body (Skip next) = number 8 next

-- the bytes of a change of a tree
unfoldable pub spelling : Edit → List ℕ
spelling edit = number 1 (kind_of edit) ++ body edit

-- the bytes of a change of a forest: 0, or 1, the server and the change of its tree
unfoldable pub forest_spelling : ForestEdit → List ℕ
forest_spelling AddServer = number 1 0
forest_spelling (OnServer server edit) = number 1 1 ++ (number 2 server ++ spelling edit)

-- What has a spelling.

-- the fields of a new node
pub record FitsNew (new : NewFields) : Type 0 where
  pub name : IsTrue (is_name new.name)
  pub uid : IsTrue (is_user new.uid)
  pub gid : IsTrue (is_user new.gid)
  pub muid : IsTrue (is_user new.muid)
  pub atime : new.atime < 2 ^ 32
  pub mtime : new.mtime < 2 ^ 32
  pub short : length new.bytes < 2 ^ 32

-- what a wstat changes
pub record FitsChange (c : Change) : Type 0 where
  pub name : ForSome c.name (λ name. IsTrue (is_name name))
  pub gid : ForSome c.gid (λ gid. IsTrue (is_user gid))
  pub length : ForSome c.length (λ size. size < 2 ^ 64)
  pub mtime : ForSome c.mtime (λ mtime. mtime < 2 ^ 32)
  pub user : IsTrue (is_user c.user)
  pub clock : c.clock < 2 ^ 32

-- a directory and a name
pub record FitsEntry (entry : ℕ × List ℕ) : Type 0 where
  pub dir : entry.0 < 2 ^ 64
  pub name : IsTrue (is_name entry.1)

-- the fields of a node
pub record FitsNode (n : Node) : Type 0 where
  pub number : n.number < 2 ^ 64
  pub entry : ForSome (entry_of n) FitsEntry
  pub root : n.parent ≡ None → n.name ≡ root_name
  pub uid : IsTrue (is_user n.uid)
  pub gid : IsTrue (is_user n.gid)
  pub muid : IsTrue (is_user n.muid)
  pub version : n.version < 2 ^ 32
  pub atime : n.atime < 2 ^ 32
  pub mtime : n.mtime < 2 ^ 32
  pub short : length n.bytes < 2 ^ 32

-- each field is in its range, as the types of the code ensure but for the number of bytes
abbrev pub FitsEdit : Edit → Type 0
FitsEdit (SetRoot permissions uid gid) = IsTrue (is_user uid) × IsTrue (is_user gid)
FitsEdit (Create dir new) = (dir < 2 ^ 64) × FitsNew new
FitsEdit (Remove at) = at < 2 ^ 64
FitsEdit (Wstat at change) = (at < 2 ^ 64) × FitsChange change
FitsEdit (Mark at user clock) = (at < 2 ^ 64) × IsTrue (is_user user) × (clock < 2 ^ 32)
FitsEdit (Write at offset bytes) = (at < 2 ^ 64) × (offset < 2 ^ 64) × (length bytes < 2 ^ 32)
FitsEdit (Truncate at size) = (at < 2 ^ 64) × (size < 2 ^ 64)
FitsEdit (PutBack node) = FitsNode node
FitsEdit (Skip next) = next < 2 ^ 64

abbrev pub FitsForestEdit : ForestEdit → Type 0
FitsForestEdit AddServer = Unit {0}
FitsForestEdit (OnServer server edit) = (server < 2 ^ 16) × FitsEdit edit

-- the bytes of files that a change carries
abbrev pub data_of : Edit → List ℕ
data_of (SetRoot permissions uid gid) = []
data_of (Create dir new) = new.bytes
data_of (Remove at) = []
data_of (Wstat at change) = []
data_of (Mark at user clock) = []
data_of (Write at offset bytes) = bytes
data_of (Truncate at size) = []
data_of (PutBack node) = node.bytes
data_of (Skip next) = []

abbrev pub forest_data_of : ForestEdit → List ℕ
forest_data_of AddServer = []
forest_data_of (OnServer server edit) = data_of edit

-- all else of a change of a tree takes no more bytes
abbrev pub fixed_max : ℕ
fixed_max = 512

-- and of a change of a forest
abbrev pub forest_fixed_max : ℕ
forest_fixed_max = 515
