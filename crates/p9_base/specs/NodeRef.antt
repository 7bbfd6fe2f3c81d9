-- Nodes of several servers, by number.
use Rattle.std.specs.Prelude.{ℕ, ◌^◌, ◌==◌, ◌&&◌, Bool}
use Rattle.p9_base.specs.declared.node_ref.NodeRef.{NodeRef}

-- the most servers: a server's number has 16 bits
abbrev pub servers_max : ℕ
servers_max = 2 ^ 16

-- one node of one server
abbrev pub same_node : NodeRef → NodeRef → Bool
same_node a b = a.server == b.server && a.number == b.number

-- the number at the same server
abbrev pub beside : NodeRef → ℕ → NodeRef
beside r k = record { server = r.server; number = k }
