-- Where names lead from a place.
use Rattle.std.specs.Prelude.{ℕ, Bool, List, [], ◌∷◌, ◌++◌, Option, filter, is_some, map}
use Rattle.std.specs.Prelude.{if◌then◌else◌}
use Rattle.p9_base.specs.declared.node_ref.NodeRef.{NodeRef}
use Rattle.p9_base.specs.NodeRef.{beside}
use Rattle.p9_tree.specs.Node.{Node}
use Rattle.p9_tree.specs.Server.{Server}
use Rattle.p9_tree.specs.Forest.{children_of}
use Rattle.p9_table.specs.declared.row.Member.{Member}
use Rattle.p9_space.specs.Place.{file_of}
use Rattle.p9_space.specs.Rights.{Who}
use Rattle.p9_space.specs.Table.{MountRow, members_of}
use Rattle.p9_space.specs.Walk.{child_among, is_searched}
use Rattle.p9_view.specs.declared.way.Access.{Access}
use Rattle.p9_view.specs.declared.way.Access.TheVariants.{AfterMode, Behind, Now}
use Rattle.p9_view.specs.declared.way.Way.{Way}
use Rattle.p9_view.specs.Passing.{is_passed}

-- where a walk by a child's name goes: to another of that name in an earlier member, or to the child,
-- now or once its directory may be searched
abbrev pub access_by : (behind searched : Bool) → Access
access_by behind searched = if behind then Behind else if searched then Now else AfterMode

-- the way to a child of a directory, where some names lead elsewhere
abbrev pub way_by : (behind : List ℕ → Bool) (searched : Bool) → NodeRef → Node → Way
way_by behind searched dir child = record {
  name = child.name;
  place = beside dir child.number;
  access = access_by (behind child.name) searched;
}

module _ (forest : List Server) (table : List MountRow) where
  -- the place has a file
  abbrev pub arrives : Way → Bool
  arrives way = is_some (file_of way.place table forest)

  -- the ways to the children of a directory by rising number
  abbrev pub ways_into : (behind : List ℕ → Bool) (searched : Bool) → NodeRef → List Way
  ways_into behind searched dir =
      filter arrives (map (way_by behind searched dir) (children_of dir forest))

  module _ (who : Option Who) where
    -- those through a member that is passed, with these members before it
    abbrev pub ways_through : (earlier : List Member) → Member → List Way
    ways_through earlier m =
        if is_passed forest who m
        then ways_into (λ name. is_some (child_among forest who name earlier))
        (is_searched forest who m) m.node
        else []

    -- through each of some members, with others before them
    abbrev pub ways_among : (earlier ms : List Member) → List Way
    ways_among earlier [] = []
    ways_among earlier (m ∷ ms) =
        ways_through earlier m ++ ways_among (earlier ++ m ∷ []) ms

    -- all ways that lead on from a place: member by member to its children
    abbrev pub ways_from : NodeRef → List Way
    ways_from place = ways_among [] (members_of place table)
