-- A node with all its fields, as it is kept outside a tree, and how it comes back.
use Rattle.std.specs.Prelude.{ℕ, ◌≤◌, option_map}
use Rattle.std.specs.Option.{ForSome, option_map_or}
use Rattle.p9_tree.specs.declared.saved.Saved.{Saved}
use Rattle.p9_tree.specs.Node.{Node, root_name}
use Rattle.p9_tree.specs.Server.{CanAdd, Server, added, with_changed}

-- the node that is saved
abbrev pub saved_node : Saved → Node
saved_node saved = record {
  number = saved.number;
  parent = option_map (λ e. e.parent) saved.entry;
  name = option_map_or (λ e. e.name) saved.entry root_name;
  mode = saved.mode;
  uid = saved.uid;
  gid = saved.gid;
  muid = saved.muid;
  version = saved.version;
  atime = saved.atime;
  mtime = saved.mtime;
  bytes = saved.bytes.now;
}

-- with the fields of the first node, but for its place, its kind and its bytes
abbrev pub with_fields : Node → Node → Node
with_fields from n = record n {
  mode = record n.mode { permissions = from.mode.permissions };
  uid = from.uid;
  gid = from.gid;
  muid = from.muid;
  version = from.version;
  atime = from.atime;
  mtime = from.mtime;
}

-- the next number is this one
abbrev pub skipped_to : ℕ → Server → Server
skipped_to next s = record { nodes = s.nodes; next = next }

-- the node joins under its own number; one that is in no directory gives the root its fields
abbrev pub put_back : Node → Server → Server
put_back n s =
    option_map_or (λ dir. added (skipped_to n.number s) n) n.parent
    (with_changed 0 (with_fields n) s)

-- the node may be put back: its number wasn't given, and it may join under it
pub record CanPutBack (s : Server) (n : Node) : Type 0 where
  pub not_given : ForSome n.parent (λ dir. s.next ≤ n.number)
  pub can_add : ForSome n.parent (λ dir. CanAdd (skipped_to n.number s) dir n)
