use Rattle.std.proofs.Common.{arith, length, sym}
use Rattle.p9_walks.proofs.Listings.{dir-end, dir-full, dir-next, dir-smaller}
use Rattle.p9_walks.proofs.Places.{child_in_after-below}
use Rattle.p9_walks.proofs.listing.fill_dir.Goals as goal

pub put_stat-requires : goal.put_stat-requires
put_stat-requires g c =
    child_in_after-below c.args.forest.now c.args.dir
    c.floor_in.result c.in-Some.node.now c.well_formed-2.ensures (sym c.in-Some.ensures)

pub returns-in_default-put_stat : goal.returns-in_default-put_stat
returns-in_default-put_stat g c =
    dir-full c.args.forest.now c.args.position c.args.dir
    c.args.cursor (length c.args.buffer.now) c.loop-node.buffer c.loop-node.filled.size
    c.loop-node.filled.cursor c.loop-node.auto.buffer c.loop-node.invariant.0 c.floor_in.result
    c.in-Some.node.now c.floor_in.ensures (sym c.in-Some.ensures) c.put_stat.new.buffer
    c.in_default-put_stat.ensures

pub loop-node-smaller : goal.loop-node-smaller
loop-node-smaller g c =
    dir-smaller c.args.forest.now c.args.position c.args.dir
    c.args.cursor (length c.args.buffer.now) c.loop-node.buffer c.loop-node.filled.size
    c.loop-node.filled.cursor c.loop-node.auto.buffer c.loop-node.invariant.0 c.floor_in.result
    c.in-Some.node.now c.floor_in.ensures (sym c.in-Some.ensures) c.in-Some-put_stat.size
    c.put_stat.new.buffer c.in-Some-put_stat.ensures

pub loop-node-preserved : goal.loop-node-preserved
loop-node-preserved g c = (
  dir-next c.args.forest.now c.args.position c.args.dir
      c.args.cursor (length c.args.buffer.now) c.loop-node.buffer c.loop-node.filled.size
      c.loop-node.filled.cursor c.loop-node.auto.buffer c.loop-node.invariant.0 c.floor_in.result
      c.in-Some.node.now c.floor_in.ensures (sym c.in-Some.ensures) c.in-Some-put_stat.size
      c.put_stat.new.buffer c.in-Some-put_stat.ensures c.well_formed-2.ensures
      c.put_stat.auto.buffer c.number.result c.number.ensures,
  omega arith,
  c.loop-node.invariant.2,
)

pub returns : goal.returns
returns g c =
    let forest = c.args.forest.now in
    rw (c.loop-node.invariant.2) (dir-end forest c.args.position c.args.dir c.args.cursor
    (length c.args.buffer.now) c.loop-node.buffer c.loop-node.filled.size c.loop-node.filled.cursor
    c.loop-node.auto.buffer c.loop-node.invariant.0 c.floor_in.result c.floor_in.ensures
    (sym c.in_default.ensures))
