-- Lines 'dir PATH MODE UID GID' and 'file PATH MODE UID GID HEX', which belong to the last server.
use Rattle.std.specs.Prelude.{ℕ, ◌-◌, ◌&&◌, Bool, not, nat_le, nat_lt, List, []}
use Rattle.std.specs.Prelude.{Option, Some, None, Result, Ok, is_some, length, codes, if◌then◌else◌}
use Rattle.std.specs.Result.{result_ok}
use Rattle.std.specs.Str.{bytes_eq}
use Rattle.hex.specs.Hex.{decode_of}
use Rattle.p9_base.specs.declared.mode.Mode.{Mode}
use Rattle.p9_base.specs.declared.mode.Permissions.{Permissions}
use Rattle.p9_base.specs.Results.{and_then, obtain, need}
use Rattle.p9_base.specs.User.{is_user}
use Rattle.p9_clean.specs.Path.{Component}
use Rattle.p9_tree.specs.Bytes.{file_max}
use Rattle.p9_tree.specs.Node.{Node, with_owner}
use Rattle.p9_tree.specs.Server.{Server, added, child_of, next_max, with_changed}
use Rattle.p9_tree.specs.Forest.{server_at, tree_changed_at}
use Rattle.p9_world.specs.declared.error.LineFault.{LineFault}
use Rattle.p9_world.specs.declared.error.LineFault.TheVariants.{NoServer, BadPath, BadMode, BadUser}
use Rattle.p9_world.specs.declared.error.LineFault.TheVariants.{BadHex, TooLarge, NoParent}
use Rattle.p9_world.specs.declared.error.LineFault.TheVariants.{Duplicate, TooMany}
use Rattle.p9_world.specs.Mode.{dir_mode, file_mode_in, permissions_in}
use Rattle.p9_world.specs.Path.{dir_of, last_and_rest, names_of}
use Rattle.p9_world.specs.World.{World}

-- The last server.

-- its number
abbrev pub last_number : World → ℕ
last_number w = length w.forest - 1

-- the change that a line makes of the last server
abbrev pub in_last_server : (Server → Result Server LineFault) → World → Result World LineFault
in_last_server change w =
    need (nat_lt 0 (length w.forest)) NoServer (
    and_then (change (server_at (last_number w) w.forest)) (λ server.
    Ok (record w { forest = tree_changed_at (last_number w) (λ old. server) w.forest })))

-- New nodes.

-- what a line says of a node: its owner is its last changer too
pub record NewNode : Type 0 where
  pub mode : Mode
  pub uid : List ℕ
  pub gid : List ℕ
  pub bytes : List ℕ

-- the node of the server's next number in the directory, never changed since the time 0
abbrev pub node_of_line : (number dir : ℕ) → Component → NewNode → Node
node_of_line number dir name entry = record {
  number = number;
  parent = Some dir;
  name = name;
  mode = entry.mode;
  uid = entry.uid;
  gid = entry.gid;
  muid = entry.uid;
  version = 0;
  atime = 0;
  mtime = 0;
  bytes = entry.bytes;
}

-- the server with a new node, of this name in the directory that the other names lead to
abbrev pub with_entry : Component → List Component → NewNode → Server → Result Server LineFault
with_entry name names entry server =
    obtain (dir_of names server) NoParent (λ dir.
    need (not (is_some (child_of dir name server.nodes))) Duplicate (
    need (nat_lt server.next next_max) TooMany (
    Ok (added server (node_of_line server.next dir name entry)))))

-- Lines.

-- the owner and the group have names of users
abbrev pub are_users : (uid gid : List ℕ) → Bool
are_users uid gid = is_user uid && is_user gid

-- '/' is the root, which is changed; any other path is a new directory's
abbrev pub with_dir : Option (Component × List Component) → Permissions → (uid gid : List ℕ)
    → Server → Result Server LineFault
with_dir None permissions uid gid server =
    Ok (with_changed 0 (with_owner permissions uid gid) server)
with_dir (Some place) permissions uid gid server =
    with_entry place.0 place.1 (record {
      mode = dir_mode permissions;
      uid = uid;
      gid = gid;
      bytes = [];
    }) server

-- what comes of the last server by 'dir PATH MODE UID GID'
abbrev pub dir_line : (path mode uid gid : List ℕ) → Server → Result Server LineFault
dir_line path mode uid gid server =
    obtain (names_of path) BadPath (λ names.
    obtain (permissions_in mode) BadMode (λ permissions.
    need (are_users uid gid) BadUser (
    with_dir (last_and_rest names) permissions uid gid server)))

-- the bytes that a word writes in hexadecimal; '-' writes none
abbrev pub bytes_in : List ℕ → Option (List ℕ)
bytes_in word = if bytes_eq word (codes "-") then Some [] else result_ok (decode_of word)

-- the server with a new file, whose bytes a word writes
abbrev pub with_bytes : Component → List Component → Mode → (uid gid hex : List ℕ) → Server
    → Result Server LineFault
with_bytes name names mode uid gid hex server =
    obtain (bytes_in hex) BadHex (λ bytes.
    need (nat_le (length bytes) file_max) TooLarge (
    with_entry name names (record { mode = mode; uid = uid; gid = gid; bytes = bytes }) server))

-- what comes of it by 'file PATH MODE UID GID HEX'
abbrev pub file_line : (path mode uid gid hex : List ℕ) → Server → Result Server LineFault
file_line path mode uid gid hex server =
    obtain (names_of path) BadPath (λ names.
    obtain (last_and_rest names) BadPath (λ place.
    obtain (file_mode_in mode) BadMode (λ mode.
    need (are_users uid gid) BadUser (
    with_bytes place.0 place.1 mode uid gid hex server))))
