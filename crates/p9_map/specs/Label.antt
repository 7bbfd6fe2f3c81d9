-- What boxes say.
use Rattle.std.specs.Prelude.{◌≡◌, ℕ, ◌-◌, ◌==◌, Bool, List, [], ◌++◌, Option, codes}
use Rattle.std.specs.Prelude.{encode_utf8, encode_utf8_all, find, length, nat_le, take, if◌then◌else◌}
use Rattle.std.specs.Fmt.{decimal}
use Rattle.std.specs.List.{AllZip}
use Rattle.std.specs.Option.{option_and_then, option_map_or}
use Rattle.std.specs.Str.{chars}
use Rattle.std.specs.String.{string_bytes}
use Rattle.p9_base.specs.declared.node_ref.NodeRef.{NodeRef}
use Rattle.p9_base.specs.NodeRef.{same_node}
use Rattle.p9_tree.specs.Forest.{node_of}
use Rattle.p9_tree.specs.Node.{Node, is_dir}
use Rattle.p9_world.specs.World.{World}
use Rattle.p9_judge.specs.declared.breach.Step.{Step}
use Rattle.p9_prepared.specs.Path.{server_name}
use Rattle.p9_shown.specs.Text.{shown_text}
use Rattle.p9_map.specs.Fault.{fault_note}
use Rattle.p9_right.specs.Right.{right_of, right_words}
use Rattle.p9_right.specs.declared.right.Right.{Right}
use Rattle.p9_map.specs.Walk.{Walk}
use Rattle.p9_map.specs.declared.label.Label.{Label}

-- the most characters of a name, and of a note
abbrev pub name_max : ℕ
name_max = 40

abbrev pub note_max : ℕ
note_max = 60

-- the first characters of a text, and `…` for the rest where it has more than so many
abbrev pub cut_text : ℕ → List ℕ → List ℕ
cut_text most text =
    if nat_le (length (chars text)) most then text
    else encode_utf8_all (take (most - 1) (chars text)) ++ encode_utf8 0x2026

-- a name as it is shown
abbrev pub shown_name : List ℕ → List ℕ
shown_name name = cut_text name_max (shown_text name)

-- `SERVER:/` for a root, and a slash after the name of another directory
abbrev pub node_name : World → NodeRef → Node → List ℕ
node_name world at n =
    if at.number == 0 then shown_name (server_name at.server world) ++ codes ":/"
    else if is_dir n then shown_name n.name ++ codes "/"
    else shown_name n.name

-- the name of a node; none where it does not exist
abbrev pub name_text : World → NodeRef → List ℕ
name_text world at = option_map_or (node_name world at) (node_of at world.forest) []

-- how many entries of a directory have no box, and whether one of them is a directory
abbrev pub left_out_text : ℕ → Bool → List ℕ
left_out_text count has_dirs =
    if count == 0 then []
    else if has_dirs then codes " (" ++ decimal count ++ codes " more)"
    else if count == 1 then codes " (1 file)"
    else codes " (" ++ decimal count ++ codes " files)"

-- by which right a step is made
abbrev pub step_right : World → Step → Option Right
step_right world step =
    option_and_then (right_of (record { user = step.user; groups = world.groups }))
    (node_of step.member world.forest)

-- who makes a step, and by which right
abbrev pub right_note : World → Step → List ℕ
right_note world step =
    shown_text step.user ++ codes ": "
    ++ option_map_or (λ right. right_words right (codes "its group")) (step_right world step) []

-- what is said of a node on the walk of a breach: who passes it, and by which right; or what is wrong
-- with it
abbrev pub walk_note : World → Walk → NodeRef → List ℕ
walk_note world walk at =
    option_map_or (right_note world) (find (λ s. same_node s.member at) walk.steps)
    (if same_node walk.member at then fault_note world at walk.kind else [])

-- nothing is said where there is no walk
abbrev pub note_text : World → Option Walk → NodeRef → List ℕ
note_text world walk at = option_map_or (λ w. walk_note world w at) walk []

-- the texts of a label: its name and its note
abbrev pub label_texts : {B : Type 0} → Label B → List ℕ × List ℕ
label_texts label = (string_bytes label.name, string_bytes label.note)

-- the name of a node with how many of its entries have no box, and what is said of it on the walk
pub record IsLabel (world : World) (walk : Option Walk) (at : NodeRef) (label : List ℕ × List ℕ) :
    Type 0 where
  pub count : ℕ
  pub has_dirs : Bool
  pub named : label.0 ≡ name_text world at ++ left_out_text count has_dirs
  pub noted : label.1 ≡ cut_text note_max (note_text world walk at)

-- the labels of nodes, in order
abbrev pub AreLabels : World → Option Walk → List NodeRef → List (List ℕ × List ℕ) → Type 0
AreLabels world walk nodes labels = AllZip (IsLabel world walk) nodes labels
