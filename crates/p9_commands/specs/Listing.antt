-- The mount table, printed as binds.
use Rattle.std.specs.Prelude.{ℕ, Bool, List, [], ◌∷◌, ◌++◌, codes, if◌then◌else◌}
use Rattle.std.specs.List.{flat_map}
use Rattle.p9_base.specs.declared.node_ref.NodeRef.{NodeRef}
use Rattle.p9_table.specs.declared.row.Member.{Member}
use Rattle.p9_space.specs.Table.{MountRow}
use Rattle.p9_world.specs.World.{World}
use Rattle.p9_prepared.specs.Path.{node_path}

-- the first member replaces what was there; `c` permits creation
abbrev pub first_flags : Bool → List ℕ
first_flags create = if create then codes " -c" else codes ""

-- the others go after those before them
abbrev pub later_flags : Bool → List ℕ
later_flags create = if create then codes " -ac" else codes " -a"

module _ (world : World) where
  -- `bind`, its flags, the node of a member and the key
  abbrev pub bind_line : (key : NodeRef) (flags : List ℕ) (node : NodeRef) → List ℕ
  bind_line key flags node =
      codes "bind" ++ flags ++ codes " " ++ node_path world node ++ codes " " ++ node_path world key
      ++ 10 ∷ []

  -- the line of a member after the first
  abbrev pub later_line : NodeRef → Member → List ℕ
  later_line key m = bind_line key (later_flags m.create) m.node

  -- a line for each member of a row
  abbrev pub members_text : NodeRef → List Member → List ℕ
  members_text key [] = []
  members_text key (m ∷ ms) =
      bind_line key (first_flags m.create) m.node ++ flat_map (later_line key) ms

  -- a line for each member of a row, as the table has it
  abbrev pub row_text : MountRow → List ℕ
  row_text row = members_text row.0 row.1

  -- a line for each member, row by row
  abbrev pub table_text : List MountRow → List ℕ
  table_text table = flat_map row_text table
