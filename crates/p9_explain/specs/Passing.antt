-- Rights to nodes, and those to pass directories in words.
use Rattle.std.specs.Prelude.{ℕ, ◌||◌, Bool, false, List, [], ◌++◌, codes}
use Rattle.std.specs.Option.{option_map_or}
use Rattle.p9_base.specs.declared.mode.Rights.{Rights}
use Rattle.p9_base.specs.declared.node_ref.NodeRef.{NodeRef}
use Rattle.p9_right.specs.Class.{may_one}
use Rattle.p9_right.specs.Right.{right_of, right_words}
use Rattle.p9_right.specs.declared.right.Right.{Right}
use Rattle.p9_shown.specs.Text.{shown_text}
use Rattle.p9_space.specs.Rights.{Who, rules}
use Rattle.p9_tree.specs.Forest.{node_of}
use Rattle.p9_world.specs.World.{World}

-- a right to a node of this group, after a colon
abbrev pub right_text : Right → (group : List ℕ) → List ℕ
right_text right group = codes ": " ++ right_words right (shown_text group)

-- the first right by which the user passes the directory; nothing where there is none
abbrev pub passing_text : World → (user : List ℕ) → NodeRef → List ℕ
passing_text world user at =
    option_map_or
    (λ n. option_map_or (λ right. right_text right n.gid)
    (right_of (record { user = user; groups = world.groups }) n) [])
    (node_of at world.forest) []

-- the node exists, and the user may do one of what is wanted, or rules it
abbrev pub holds : World → (user : List ℕ) → NodeRef → (wanted : Rights) → Bool
holds world user at wanted =
    let who : Who = record { user = user; groups = world.groups } in
    option_map_or (λ n. may_one who n wanted || rules who n) (node_of at world.forest) false
