-- Rights in the directory that a file is in.
use Rattle.std.specs.Prelude.{Bool, false, List}
use Rattle.std.specs.Option.{option_map_or}
use Rattle.p9_base.specs.declared.node_ref.NodeRef.{NodeRef}
use Rattle.p9_base.specs.NodeRef.{beside}
use Rattle.p9_tree.specs.Node.{Node}
use Rattle.p9_tree.specs.Server.{Server}
use Rattle.p9_tree.specs.Forest.{node_of}
use Rattle.p9_space.specs.Rights.{Who, may, to_write}

-- the user may write the node, which exists
abbrev pub may_write : Who → List Server → NodeRef → Bool
may_write who forest at = option_map_or (λ n. may who n to_write) (node_of at forest) false

-- the user may change the entries of the directory that the file is in; a root is in none
abbrev pub may_write_parent : Who → List Server → NodeRef → Node → Bool
may_write_parent who forest at n =
    option_map_or (λ parent. may_write who forest (beside at parent)) n.parent false
