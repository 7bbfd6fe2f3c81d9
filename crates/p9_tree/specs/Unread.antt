-- Servers apart from when their files were last read or changed.
use Rattle.std.specs.Prelude.{List, map}
use Rattle.p9_tree.specs.Node.{touched}
use Rattle.p9_tree.specs.Server.{Server, with_nodes}

-- the server with all times of last access 0: two servers for which it is the same differ in nothing
-- else
unfoldable pub unread : Server → Server
unread s = with_nodes s (map (touched 0) s.nodes)

-- the same of each server
abbrev pub all_unread : List Server → List Server
all_unread forest = map unread forest
