-- What a wstat changes in a node, as stat(5).
use Rattle.std.specs.Prelude.{◌≡◌, ◌≢◌, ℕ, ◌≤◌, IsFalse, is_some, unwrap_or, if◌then◌else◌}
use Rattle.std.specs.Option.{ForSome, option_map_or}
use Rattle.p9_base.specs.Mode.{is_dir as is_dir_mode}
use Rattle.p9_tree.specs.declared.change.Change.{Change}
use Rattle.p9_tree.specs.Bytes.{resized, file_max}
use Rattle.p9_tree.specs.Node.{Node, is_dir, marked, with_bytes}
use Rattle.p9_tree.specs.Server.{Server, node_at, child_of}

-- a new length cuts the file or adds zeros to it, and marks it
abbrev pub with_length : Change → Node → Node
with_length change n =
    option_map_or (λ size. marked change.user change.clock (with_bytes (resized size) n))
    change.length n

-- a new mtime is the user's
abbrev pub with_mtime : Change → Node → Node
with_mtime change n = record n {
  mtime = unwrap_or change.mtime n.mtime;
  muid = if is_some change.mtime then change.user else n.muid;
}

-- the node after all of the change: a new mtime wins over that of the mark
abbrev pub changed : Change → Node → Node
changed change n =
    let m = with_mtime change (with_length change n) in
    record n {
      name = unwrap_or change.name n.name;
      mode = unwrap_or change.mode n.mode;
      gid = unwrap_or change.gid n.gid;
      muid = m.muid;
      version = m.version;
      atime = m.atime;
      mtime = m.mtime;
      bytes = m.bytes;
    }

-- the server's node may be changed so: only the node itself may have the name already
pub record CanChangeNode (s : Server) (n : Node) (change : Change) : Type 0 where
  pub same_kind : ForSome change.mode (λ mode. is_dir_mode mode ≡ is_dir n)
  pub not_root : ForSome change.name (λ name. n.number ≢ 0)
  pub free : ForSome change.name (λ name. ForSome n.parent (λ dir.
      ForSome (child_of dir name s.nodes) (λ m. m.number ≡ n.number)))
  pub file : ForSome change.length (λ size. IsFalse (is_dir n))
  pub small : ForSome change.length (λ size. size ≤ file_max)

-- so may the node of the number, if it exists
abbrev pub CanChange : Server → ℕ → Change → Type 0
CanChange s number change = ForSome (node_at number s.nodes) (λ n. CanChangeNode s n change)
