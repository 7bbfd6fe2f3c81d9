use Rattle.std.proofs.Common.{◌<◌, ◌≤◌, [], length, get_or, refl, arith}
use Rattle.std.proofs.lemmas.Option.{slice_get-get_or}
use Rattle.p9_space.specs.Table.{MountRow}
use Rattle.p9_map.specs.Scene.{is_in_row}
use Rattle.p9_map.proofs.Sets.{joined-all, joined-one}
use Rattle.p9_map.proofs.scene.mark_rows.Goals as goal

pub loop-row-preserved : goal.loop-row-preserved
loop-row-preserved g c =
    let table = c.args.table.now in
    let i = c.loop-row.row in
    let d : MountRow = (record { server = 0; number = 0 }, []) in
    let l : i < length table = omega (arith, c.loop-row-test.true, c.len-row-end.ensures) in
    joined-one is_in_row table i c.args.marked.now.keys c.loop-row.marked.keys
    c.mark_row_at.new.marked.keys (get_or table i d) d l refl
    (c.in_ok-mark_row_at.ensures (get_or table i d) (slice_get-get_or table i d l))
    c.loop-row.invariant

pub returns : goal.returns
returns g c =
    let table = c.args.table.now in
    let i = c.loop-row.row in
    let l : length table ≤ i = omega (arith, c.loop-row-test.false, c.len-row-end.ensures) in
    joined-all is_in_row table i c.args.marked.now.keys c.loop-row.marked.keys
    c.loop-row.marked.keys l c.loop-row.invariant
