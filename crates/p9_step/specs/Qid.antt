-- The qids of files, and what is told of them: intro(5), stat(5).
use Rattle.std.specs.Prelude.{ℕ, ◌+◌, ◌*◌, ◌^◌, List, Option, length}
use Rattle.std.specs.Option.{option_map}
use Rattle.p9_base.specs.declared.node_ref.NodeRef.{NodeRef}
use Rattle.p9_base.specs.declared.qid.Qid.{Qid}
use Rattle.p9_base.specs.Mode.{mode_bits, qid_kind}
use Rattle.p9_base.specs.Name.{name_max}
use Rattle.p9_base.specs.User.{user_max}
use Rattle.p9_tree.specs.Node.{Node}
use Rattle.p9_tree.specs.Server.{Server}
use Rattle.p9_space.specs.Place.{file_of, file_ref}
use Rattle.p9_space.specs.Table.{MountRow}
use Rattle.p9_wire.specs.Fields.{stat_fixed}
use Rattle.p9_wire.specs.Stat.{StatFields}

-- a file's identity among those of all servers, and its version
abbrev pub qid_of : NodeRef → Node → Qid
qid_of at n = record {
  kind = qid_kind n.mode;
  version = n.version;
  path = at.server * 2 ^ 48 + at.number;
}

-- the qid of a place's file, while that exists
abbrev pub qid_at : List MountRow → List Server → NodeRef → Option Qid
qid_at table forest place = option_map (qid_of (file_ref place table)) (file_of place table forest)

-- the most bytes of a file's stat: a name, and the names of an owner, a group and a last changer
abbrev pub stat_max : ℕ
stat_max = stat_fixed + name_max + 3 * user_max

-- what is told of a file; a directory has no bytes
abbrev pub stat_of : NodeRef → Node → StatFields
stat_of at n = record {
  kind = 0;
  dev = at.server;
  qid = qid_of at n;
  mode = mode_bits n.mode;
  atime = n.atime;
  mtime = n.mtime;
  length = length n.bytes;
  name = n.name;
  uid = n.uid;
  gid = n.gid;
  muid = n.muid;
}
