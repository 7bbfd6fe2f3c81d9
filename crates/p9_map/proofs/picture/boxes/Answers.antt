use Rattle.std.proofs.Common.{◌<◌, length, arith}
use Rattle.std.specs.Option.{option_copied}
use Rattle.std.specs.String.{string_bytes}
use Rattle.p9_map.specs.Mark.{rows_of}
use Rattle.p9_map.specs.Walk.{walk_in}
use Rattle.p9_map.proofs.Drawn.{drawn-more}
use Rattle.p9_map.proofs.picture.boxes.Goals as goal

pub loop-i-preserved : goal.loop-i-preserved
loop-i-preserved g c =
    let boxes = c.args.boxes.now in
    let labels = c.args.labels.now in
    let i = c.loop-i.i in
    let box = c.index-boxes-i.result in
    let label = c.index-labels-i.result in
    let l : i < length boxes = c.loop-i-test.true in
    let m : i < length labels = omega (arith, c.requires) in
    drawn-more c.args.scene.now.world.now (rows_of (option_copied c.args.scene.now.reached))
    (walk_in (option_copied c.args.scene.now.breach)) boxes labels i (string_bytes c.loop-i.svg.text)
    (string_bytes c.draw_node.new.svg.text) _ box box label label l m c.index-boxes-i.is
    c.index-labels-i.is c.in_ok-draw_node.ensures c.loop-i.invariant
