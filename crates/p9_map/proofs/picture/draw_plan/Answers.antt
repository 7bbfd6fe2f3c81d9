use Rattle.std.proofs.Common.{◌≡◌, ◌++◌, List, length, map, ap, subst, refl, ◌∙◌, arith}
use Rattle.std.specs.Option.{option_copied}
use Rattle.std.proofs.lemmas.List.{length-map}
use Rattle.std.proofs.lemmas.Slice.Zip.{AllZip-long}
use Rattle.p9_map.specs.Label.{AreLabels, IsLabel, label_texts}
use Rattle.p9_map.specs.Mark.{rows_of}
use Rattle.p9_map.specs.Picture.{boxes_text, last_text, title_text}
use Rattle.p9_map.specs.Standing.{standing_text}
use Rattle.p9_map.specs.Walk.{walk_in}
use Rattle.p9_map.specs.declared.item.Placed.{Placed}
use Rattle.p9_map.specs.declared.order.Spot.{Spot}
use Rattle.p9_map.proofs.Drawn.{printed}
use Rattle.p9_map.proofs.picture.draw_plan.Goals as goal

pub print_middle-requires : goal.print_middle-requires
print_middle-requires g c =
    let world = c.args.scene.now.world.now in
    let walk = walk_in (option_copied c.args.scene.now.breach) in
    let spots = c.as_slice-spots.result.now in
    let boxes = c.in_ok-layout.layout.boxes.items in
    let labels = c.in_ok-labels.labels.items in
    let zipped =
    AllZip-long (IsLabel world walk) (map (λ (s : Spot). s.node) spots) (map label_texts labels)
    c.in_ok-labels.ensures in
    omega (
      arith,
      ap length c.as_slice-2.ensures.value,
      zipped,
      ap length c.in_ok-layout.ensures.nodes,
      length-map boxes (λ (b : Placed). b.node),
      length-map labels label_texts,
    )

pub returns : goal.returns
returns g c =
    let scene = c.args.scene.now in
    let world = scene.world.now in
    let rows = rows_of (option_copied scene.reached) in
    let walk = walk_in (option_copied scene.breach) in
    let plan = c.args.plan.now in
    let boxes = c.in_ok-layout.layout.boxes.items in
    let labels = map label_texts c.in_ok-labels.labels.items in
    let top = c.in_ok-print_top.ensures in
    let middle = c.in_ok-print_middle.ensures in
    let last = c.in_ok-print_end.ensures in
    let v = c.args.verdict.now in
    let t = title_text world (standing_text c.args.standing) in
    let b = boxes_text world rows walk boxes labels in
    let z = last_text last.1 plan.left_out plan.marked_left_out in
    let is_middle : c.print_middle.new.out.items ≡ c.print_top.new.out.items ++ (middle.0 ++ b) =
    middle.1
    ∙ ap (λ ls. c.print_top.new.out.items
    ++ (middle.0 ++ boxes_text world rows walk boxes (map label_texts ls))) c.as_slice-2.ensures.value in (
      top.0 ++ v ++ t ++ middle.0 ++ b ++ last.0 ++ z,
      record {
        boxes = boxes;
        nodes =
            c.in_ok-layout.ensures.nodes ∙ ap (map (λ (s : Spot). s.node)) c.as_slice-spots.ensures.value;
        apart = c.in_ok-layout.ensures.apart;
        labels = labels;
        labelled =
            subst (λ (ss : List Spot). AreLabels world walk (map (λ s. s.node) ss) labels)
            c.as_slice-spots.ensures.value c.in_ok-labels.ensures;
        head = top.0;
        lines = middle.0;
        legend = last.0;
        left_out_at = last.1;
        is = refl;
      },
      printed c.args.out.now.items top.0 v t middle.0 b last.0 z c.print_top.new.out.items
          c.print_middle.new.out.items c.print_end.new.out.items top.1 is_middle last.2,
    )
