-- What a change of a tree says, apart from where its texts and bytes are, and what it does.
use Rattle.std.specs.Prelude.{ℕ, List, [], ◌∷◌, Some}
use Rattle.p9_base.specs.declared.mode.Mode.{Mode}
use Rattle.p9_base.specs.declared.mode.Permissions.{Permissions}
use Rattle.p9_tree.specs.declared.change.Change.{Change}
use Rattle.p9_tree.specs.Bytes.{cut_to, overwritten}
use Rattle.p9_tree.specs.Change.{changed}
use Rattle.p9_tree.specs.Node.{Node, marked, with_bytes, with_owner}
use Rattle.p9_tree.specs.Saved.{put_back, skipped_to}
use Rattle.p9_tree.specs.Server.{Server, added, with_changed, with_dropped}

-- what a new node is made of
pub record NewFields : Type 0 where
  pub name : List ℕ
  pub mode : Mode
  pub uid : List ℕ
  pub gid : List ℕ
  pub muid : List ℕ
  pub atime : ℕ
  pub mtime : ℕ
  pub bytes : List ℕ

-- a change of a tree
pub data Edit : Type 0 where
  SetRoot : (permissions : Permissions) (uid gid : List ℕ) → Edit
  Create : (dir : ℕ) (new : NewFields) → Edit
  Remove : (number : ℕ) → Edit
  Wstat : (number : ℕ) (change : Change) → Edit
  Mark : (number : ℕ) (user : List ℕ) (clock : ℕ) → Edit
  Write : (number offset : ℕ) (bytes : List ℕ) → Edit
  Truncate : (number size : ℕ) → Edit
  PutBack : (node : Node) → Edit
  Skip : (next : ℕ) → Edit

-- the node of this number in the directory
abbrev pub created_node : (number dir : ℕ) → NewFields → Node
created_node number dir new = record {
  number = number;
  parent = Some dir;
  name = new.name;
  mode = new.mode;
  uid = new.uid;
  gid = new.gid;
  muid = new.muid;
  version = 0;
  atime = new.atime;
  mtime = new.mtime;
  bytes = new.bytes;
}

-- the server after a change
abbrev pub edited : Edit → Server → Server
edited (SetRoot permissions uid gid) s = with_changed 0 (with_owner permissions uid gid) s
edited (Create dir new) s = added s (created_node s.next dir new)
edited (Remove number) s = with_dropped number s
edited (Wstat number change) s = with_changed number (changed change) s
edited (Mark number user clock) s = with_changed number (marked user clock) s
edited (Write number offset bytes) s =
    with_changed number (with_bytes (overwritten offset bytes)) s
edited (Truncate number size) s = with_changed number (with_bytes (cut_to size)) s
edited (PutBack node) s = put_back node s
edited (Skip next) s = skipped_to next s

-- one change after another
abbrev pub all_edited : List Edit → Server → Server
all_edited [] s = s
all_edited (edit ∷ edits) s = all_edited edits (edited edit s)
