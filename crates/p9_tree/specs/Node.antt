-- A file or directory of a server, as stat(5), and what a request changes in it.
use Rattle.std.specs.Prelude.{ℕ, ◌+◌, ◌<◌, ◌^◌, ◌%◌, ◌==◌, ◌&&◌, Bool, true, false, nat_lt, IsTrue}
use Rattle.std.specs.Prelude.{List, Option, codes}
use Rattle.std.specs.Option.{option_map_or}
use Rattle.std.specs.Str.{bytes_eq}
use Rattle.p9_base.specs.declared.mode.Mode.{Mode}
use Rattle.p9_base.specs.declared.mode.Permissions.{Permissions}
use Rattle.p9_base.specs.declared.mode.Kind.TheVariants.{Directory}
use Rattle.p9_base.specs.Mode.{is_dir as is_dir_mode}
use Rattle.p9_base.specs.User.{is_user}

-- the root has no parent; a directory has no bytes
pub record Node : Type 0 where
  pub number : ℕ
  pub parent : Option ℕ
  pub name : List ℕ
  pub mode : Mode
  pub uid : List ℕ
  pub gid : List ℕ
  pub muid : List ℕ
  pub version : ℕ
  pub atime : ℕ
  pub mtime : ℕ
  pub bytes : List ℕ

-- the name of a server's root
abbrev pub root_name : List ℕ
root_name = codes "/"

-- whether it is a directory
abbrev pub is_dir : Node → Bool
is_dir n = is_dir_mode n.mode

-- its number is this one
abbrev pub has_number : ℕ → Node → Bool
has_number number n = n.number == number

-- it is in the directory
abbrev pub is_in : ℕ → Node → Bool
is_in dir n = option_map_or (λ parent. parent == dir) n.parent false

-- it is in the directory under the name
abbrev pub is_child : ℕ → List ℕ → Node → Bool
is_child dir name n = is_in dir n && bytes_eq n.name name

-- its number is greater than the floor, if there is one
abbrev pub is_above : Option ℕ → Node → Bool
is_above floor n = option_map_or (λ k. nat_lt k n.number) floor true

-- What of a node fits the fields of a stat.

-- its owner, its group and who changed it last are users
abbrev pub HasUsers : Node → Type 0
HasUsers n = IsTrue (is_user n.uid) × IsTrue (is_user n.gid) × IsTrue (is_user n.muid)

-- its version and its times have 32 bits
abbrev pub HasNumbers : Node → Type 0
HasNumbers n = (n.version < 2 ^ 32) × (n.atime < 2 ^ 32) × (n.mtime < 2 ^ 32)

-- a stat can tell them all
abbrev pub IsTellable : Node → Type 0
IsTellable n = HasUsers n × HasNumbers n

-- Changes of a node.

-- marked as changed by the user now, a file's bytes or a directory's entries
abbrev pub marked : List ℕ → ℕ → Node → Node
marked user clock n = record n {
  muid = user;
  version = (n.version + 1) % 2 ^ 32;
  atime = clock;
  mtime = clock;
}

-- after the file was read
abbrev pub touched : ℕ → Node → Node
touched clock n = record n { atime = clock }

-- a directory with these permissions, owner and group, changed last by the owner
abbrev pub with_owner : Permissions → (uid gid : List ℕ) → Node → Node
with_owner permissions uid gid n = record n {
  mode = record { kind = Directory; permissions = permissions };
  uid = uid;
  gid = gid;
  muid = uid;
}

-- with what the function makes of its bytes
abbrev pub with_bytes : (List ℕ → List ℕ) → Node → Node
with_bytes f n = record n { bytes = f n.bytes }
