-- How a box is marked.
use Rattle.std.specs.Prelude.{ℕ, List, [], Option, codes, if◌then◌else◌, unwrap_or}
use Rattle.std.specs.Option.{option_and_then}
use Rattle.p9_base.specs.declared.node_ref.NodeRef.{NodeRef}
use Rattle.p9_tree.specs.Forest.{is_dir_of}
use Rattle.p9_tree.specs.Inside.{is_hidden, is_inside}
use Rattle.p9_world.specs.World.{World}
use Rattle.p9_cert.specs.Rows.{is_row}
use Rattle.p9_map.specs.Walk.{Walk, number_on}
use Rattle.p9_map.specs.declared.mark.Look.{Look}
use Rattle.p9_map.specs.declared.mark.Look.TheVariants.{Inside, Hidden, Reached, Plain}
use Rattle.p9_map.specs.declared.mark.Mark.{Mark}

-- the rows that are drawn, of a certificate if there is one
abbrev pub rows_of : Option (List NodeRef) → List NodeRef
rows_of certificate = unwrap_or certificate []

-- what a node is: inside a hidden directory, hidden, one that clients can reach as these rows say, or
-- another
abbrev pub look_of : World → (rows : List NodeRef) → NodeRef → Look
look_of world rows at =
    if is_inside at world.hidden world.forest then Inside
    else if is_hidden at world.hidden then Hidden
    else if is_row rows at then Reached
    else Plain

-- the name of the style by which it is drawn
abbrev pub class_of : Look → List ℕ
class_of Inside = codes "inside"
class_of Hidden = codes "hidden"
class_of Reached = codes "reached"
class_of Plain = codes "plain"

-- the number of a node on the walk, where there is one
abbrev pub walk_number : Option Walk → NodeRef → Option ℕ
walk_number walk at = option_and_then (λ w. number_on w.steps w.member at) walk

-- the mark of a node
abbrev pub mark_of : World → (rows : List NodeRef) → Option Walk → NodeRef → Mark
mark_of world rows walk at = record {
  look = look_of world rows at;
  is_dir = is_dir_of at world.forest;
  number = walk_number walk at;
}
