-- Which line of a world's text makes which node.
use Rattle.std.specs.Prelude.{ℕ, Bool, false, nat_lt, List, [], ◌∷◌, ◌++◌, Option, Some, None}
use Rattle.std.specs.Prelude.{Result, Ok, Err, codes, fold, length, if◌then◌else◌}
use Rattle.std.specs.Option.{option_map}
use Rattle.std.specs.Str.{bytes_eq}
use Rattle.p9_base.specs.declared.node_ref.NodeRef.{NodeRef}
use Rattle.p9_base.specs.Statement.{statements_of}
use Rattle.p9_tree.specs.Forest.{next_of}
use Rattle.p9_world.specs.declared.error.LineFault.{LineFault}
use Rattle.p9_world.specs.declared.node_line.NodeLine.{NodeLine}
use Rattle.p9_world.specs.Entry.{last_number}
use Rattle.p9_world.specs.Read.{line_meaning}
use Rattle.p9_world.specs.World.{World, empty_world}

-- a line of these words is a directory's
abbrev pub is_dir_line : List (List ℕ) → Bool
is_dir_line [] = false
is_dir_line (word ∷ words) = bytes_eq word (codes "dir")

-- the number of the last server, if there is one
abbrev pub last_of : World → Option ℕ
last_of w = if nat_lt 0 (length w.servers) then Some (last_number w) else None

-- the node of this number at the last server
abbrev pub at_last : World → ℕ → Option NodeRef
at_last w number =
    option_map (λ server. record { server = server; number = number }) (last_of w)

-- the node that a line of these words made of a world that had so many servers, and this next number
-- of the last one: the root of a server that joined, or the node that now has that number. A
-- directory's line that made no node changed the root of the last server.
abbrev pub made_by : List (List ℕ) → (servers next : ℕ) → World → Option NodeRef
made_by words servers next w =
    if nat_lt servers (length w.servers) then at_last w 0
    else if nat_lt next (next_of (last_number w) w.forest) then at_last w next
    else if is_dir_line words then at_last w 0
    else None

-- a world as far as its text is read, and the lines that made its nodes
pub record Noted : Type 0 where
  pub world : World
  pub lines : List NodeLine

-- one line more, where it made a node
abbrev pub with_made : ℕ → Option NodeRef → List NodeLine → List NodeLine
with_made line None lines = lines
with_made line (Some at) lines = lines ++ record { at = at; line = line } ∷ []

-- a line of this number and these words made a world; a bad one made nothing
abbrev pub noted : ℕ × List (List ℕ) → Noted → Result World LineFault → Noted
noted statement n (Ok w) = record {
  world = w;
  lines =
      with_made statement.0
      (made_by statement.1 (length n.world.servers) (next_of (last_number n.world) n.world.forest) w)
      n.lines;
}
noted statement n (Err fault) = n

-- a statement is read
abbrev pub with_node_line : Noted → ℕ × List (List ℕ) → Noted
with_node_line n statement = noted statement n (line_meaning statement.1 n.world)

-- the lines of a text that make nodes or change roots, in order
unfoldable pub node_lines_of : List ℕ → List NodeLine
node_lines_of text =
    (fold with_node_line (record { world = empty_world; lines = [] }) (statements_of text)).lines
