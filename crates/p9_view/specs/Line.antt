-- The line of an entry of a tour.
use Rattle.std.specs.Prelude.{ℕ, List, [], ◌∷◌, ◌++◌, Option, Some, None, codes, is_none}
use Rattle.std.specs.Prelude.{is_some, length, if◌then◌else◌}
use Rattle.std.specs.Fmt.{decimal}
use Rattle.std.specs.List.{flat_map, list_any}
use Rattle.p9_shown.specs.Text.{shown_text}
use Rattle.p9_tree.specs.Inside.{is_hidden}
use Rattle.p9_tree.specs.Node.{Node}
use Rattle.p9_table.specs.declared.row.Member.{Member}
use Rattle.p9_space.specs.Channel.{row_position}
use Rattle.p9_space.specs.Place.{file_of}
use Rattle.p9_space.specs.Rights.{Who}
use Rattle.p9_space.specs.Table.{members_of}
use Rattle.p9_space.specs.Walk.{dir_fault}
use Rattle.p9_world.specs.World.{World}
use Rattle.p9_prepared.specs.NameSpace.{NameSpace}
use Rattle.p9_prepared.specs.Path.{path_of}
use Rattle.p9_view.specs.declared.tour.Entry.{Entry}
use Rattle.p9_view.specs.declared.way.Access.{Access}
use Rattle.p9_view.specs.declared.way.Access.TheVariants.{AfterMode, Behind, Now}
use Rattle.p9_view.specs.Mode.{mode_text}
use Rattle.p9_view.specs.Passing.{passing_text}

-- The file of a place.

-- its mode, owner, group and length
abbrev pub node_text : Node → List ℕ
node_text n =
    codes " " ++ mode_text n.mode ++ codes " " ++ shown_text n.uid ++ codes " " ++ shown_text n.gid
    ++ (codes " " ++ decimal (length n.bytes))

-- those of the file, where it exists
abbrev pub file_text : Option Node → List ℕ
file_text None = codes " (gone)"
file_text (Some n) = node_text n

-- What is mounted at a place.

-- a member, which may permit creation
abbrev pub member_text : World → Member → List ℕ
member_text world m = shown_text (path_of world m.node) ++ (if m.create then codes " -c" else codes "")

-- the members in order
abbrev pub members_text : World → List Member → List ℕ
members_text world [] = []
members_text world (m ∷ ms) =
    codes " -> " ++ member_text world m ++ flat_map (λ n. codes " + " ++ member_text world n) ms

-- Notes.

-- the path under which the same members were met before
abbrev pub same_text : Option (List ℕ) → List ℕ
same_text None = []
same_text (Some path) = codes " as " ++ shown_text path

-- what a walk by the path meets, where that is not the entry
abbrev pub access_text : Access → List ℕ
access_text Now = codes ""
access_text AfterMode = codes " (after a change of mode)"
access_text Behind = codes " (behind another of its name)"

-- one of the members is hidden
abbrev pub hidden_text : World → List Member → List ℕ
hidden_text world ms =
    if list_any (λ m. is_hidden m.node world.hidden) ms then codes " (hidden)" else codes ""

-- of a place with these members, if one is a directory that exists
abbrev pub dir_text : World → Option Who → List Member → (same : Option (List ℕ)) → List ℕ
dir_text world who ms same =
    if is_none (dir_fault world.forest ms) then same_text same ++ passing_text world who ms else []

-- The whole line: the path, the file, what is mounted there, and notes.
abbrev pub line_text : NameSpace → Option Who → (path : List ℕ) (same : Option (List ℕ)) → Entry
    → List ℕ
line_text space who path same e =
    let world = space.world in
    let ms = members_of e.place space.table in
    shown_text path ++ file_text (file_of e.place space.table world.forest)
    ++ (if is_some (row_position e.place space.table) then members_text world ms else [])
    ++ (hidden_text world ms ++ dir_text world who ms same ++ access_text e.access ++ 10 ∷ [])
