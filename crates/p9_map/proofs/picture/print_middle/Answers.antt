use Rattle.std.proofs.Common.{◌++◌, ap, map, ◌∙◌}
use Rattle.std.specs.Option.{option_copied}
use Rattle.std.specs.String.{string_bytes}
use Rattle.p9_map.specs.Label.{label_texts}
use Rattle.p9_map.specs.Mark.{rows_of}
use Rattle.p9_map.specs.Picture.{boxes_text}
use Rattle.p9_map.specs.Walk.{walk_in}
use Rattle.p9_map.proofs.Drawn.{two}
use Rattle.p9_map.proofs.picture.print_middle.Goals as goal

pub returns : goal.returns
returns g c =
    let o = c.args.out.now.items in
    let l = string_bytes c.in_ok-lines.lines.text in
    let b = string_bytes c.in_ok-boxes.boxes.text in
    let scene = c.args.scene.now in
    let labels = map label_texts c.args.labels.now in (
      l,
      two o l b c.print_text.new.out.items c.print_text-2.new.out.items c.in_ok-print_text.ensures
          c.in_ok-print_text-2.ensures
          ∙ ap (λ b. o ++ (l ++ b)) c.in_ok-boxes.ensures
          ∙ ap (λ bs. o ++ (l ++ boxes_text scene.world.now (rows_of (option_copied scene.reached))
          (walk_in (option_copied scene.breach)) bs labels)) c.as_slice.ensures.value,
    )
