-- What a new node is made of.
use Rattle.std.specs.Prelude.{ℕ, Some}
use Rattle.p9_tree.specs.declared.new.New.{New}
use Rattle.p9_tree.specs.Node.{Node}
use Rattle.p9_tree.specs.Server.{CanAdd, Server, added}

-- the node of this number in the directory
abbrev pub new_node : (number dir : ℕ) → New → Node
new_node number dir new = record {
  number = number;
  parent = Some dir;
  name = new.name;
  mode = new.mode;
  uid = new.uid;
  gid = new.gid;
  muid = new.muid;
  version = 0;
  atime = new.atime;
  mtime = new.mtime;
  bytes = new.bytes.now;
}

-- a new node may join the server, in the directory
abbrev pub CanAddNew : Server → ℕ → New → Type 0
CanAddNew s dir new = CanAdd s dir (new_node s.next dir new)

-- it joins in the directory
abbrev pub added_new : ℕ → New → Server → Server
added_new dir new s = added s (new_node s.next dir new)
