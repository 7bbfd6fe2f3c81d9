-- Nodes from a number on.
use Rattle.std.specs.Prelude.{ℕ, Bool, nat_le, List, Option}
use Rattle.std.specs.List.{find}
use Rattle.p9_tree.specs.Node.{Node}

-- its number is at least this one
abbrev pub is_from : ℕ → Node → Bool
is_from number n = nat_le number n.number

-- the node of least number that is at least this one
abbrev pub node_from : ℕ → List Node → Option Node
node_from number nodes = find (is_from number) nodes
