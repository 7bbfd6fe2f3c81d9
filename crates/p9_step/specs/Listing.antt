-- The entries of a directory, over a union: read(5).
use Rattle.std.specs.Prelude.{ℕ, suc, ◌==◌, ◌&&◌, ◌||◌, Bool, true, false, nat_lt, List, [], ◌∷◌}
use Rattle.std.specs.Prelude.{◌++◌, Option, filter, map, if◌then◌else◌}
use Rattle.std.specs.Option.{option_map_or}
use Rattle.p9_base.specs.declared.node_ref.NodeRef.{NodeRef}
use Rattle.p9_tree.specs.Node.{Node, is_dir}
use Rattle.p9_tree.specs.Server.{Server}
use Rattle.p9_tree.specs.Forest.{children_of, node_of}
use Rattle.p9_table.specs.declared.row.Member.{Member}
use Rattle.p9_space.specs.Rights.{Who, may, to_read}
use Rattle.p9_space.specs.Table.{MountRow, members_of}
use Rattle.p9_fids.specs.declared.opened.Cursor.{Cursor}

-- an entry: the position of the member in the union, the member, and the node that is in it
pub record UnionEntry : Type 0 where
  pub position : ℕ
  pub member : NodeRef
  pub node : Node

-- the node as an entry of the member at the position
abbrev pub entry_at : ℕ → NodeRef → Node → UnionEntry
entry_at position member n = record { position = position; member = member; node = n }

module _ (forest : List Server) (who : Who) where
  -- an alive directory that the user may read; the first member without this test
  abbrev pub is_listed : ℕ → Member → Bool
  is_listed position m =
      option_map_or (λ n. is_dir n && (position == 0 || may who n to_read)) (node_of m.node forest)
      false

  -- the entries of the member at the position
  abbrev pub entries_of : ℕ → Member → List UnionEntry
  entries_of position m =
      if is_listed position m then map (entry_at position m.node) (children_of m.node forest)
      else []

  -- the entries of the members from a position on, in order of member, then number
  abbrev pub entries_from : ℕ → List Member → List UnionEntry
  entries_from position [] = []
  entries_from position (m ∷ ms) = entries_of position m ++ entries_from (suc position) ms

-- all entries of a place; repeated names stay
abbrev pub listing : List MountRow → List Server → Who → NodeRef → List UnionEntry
listing table forest who place = entries_from forest who 0 (members_of place table)

-- the entry is after the last one that was given
abbrev pub is_behind : Option Cursor → UnionEntry → Bool
is_behind cursor e =
    option_map_or
    (λ c. nat_lt c.member e.position || (c.member == e.position && nat_lt c.number e.node.number))
    cursor true

-- the entries of a place that are after it, which are still to be given
abbrev pub listing_behind : Option Cursor → List MountRow → List Server → Who → NodeRef
    → List UnionEntry
listing_behind cursor table forest who place =
    filter (is_behind cursor) (listing table forest who place)

-- the same of these members
abbrev pub left_of : List Server → Who → Option Cursor → List Member → List UnionEntry
left_of forest who cursor members = filter (is_behind cursor) (entries_from forest who 0 members)

-- where the entry is
abbrev pub cursor_of : UnionEntry → Cursor
cursor_of e = record { member = e.position; number = e.node.number }
