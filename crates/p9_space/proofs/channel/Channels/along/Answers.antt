use Rattle.std.proofs.Common.{arith, ap, length}
use Rattle.std.proofs.lemmas.List.{length-map, length-replicate}
use Rattle.p9_base.specs.declared.node_ref.NodeRef.{NodeRef}
use Rattle.p9_table.specs.Table.{row_position}
use Rattle.p9_table.specs.Place.{root_place}
use Rattle.p9_space.proofs.channel.Channels.along.Goals as goal

-- there are as many rows as places on both sides
pub follow-requires-clause-rows : goal.follow-requires-clause-rows
follow-requires-clause-rows g c =
    let row = λ (key : NodeRef). row_position key c.args.table.now in
    let filled = c.in_ok-channels.channels in
    omega (
      arith,
      ap length c.requires,
      length-map c.args.way.now.trail row,
      ap length c.in_ok-channels.ensures.fits,
      length-map filled.trail row,
      ap length c.in_ok-channels.ensures.trail,
      length-replicate (length c.places.result.now) root_place,
      ap length c.places.ensures,
    )
