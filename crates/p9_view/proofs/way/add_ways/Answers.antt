use Rattle.std.proofs.Common.{◌∙◌, ◌+◌, ◌-◌, ◌<◌, is_some, sym, ap, subst}
use Rattle.std.specs.Map.{lookup}
use Rattle.std.specs.Option.{option_copied}
use Rattle.std.specs.Str.{bytes_eq}
use Rattle.p9_tree.specs.Forest.{next_of}
use Rattle.p9_cert.proofs.Children.{children-smaller, passed}
use Rattle.p9_judge.proofs.Discovered.{after-child}
use Rattle.p9_judge.proofs.Found.{child-name}
use Rattle.p9_view.specs.Way.{arrives, way_by}
use Rattle.p9_view.proofs.Finds.{images-all, images-end, images-more}
use Rattle.p9_view.proofs.way.add_ways.Goals as goal

pub way_to-requires : goal.way_to-requires
way_to-requires g c =
    let forest = c.args.forest.now in
    let child =
    after-child forest c.well_formed-2.ensures c.args.dir c.loop-child.floor c.in-Some.child.now
    (sym c.in-Some.ensures) in
    child-name forest c.well_formed-2.ensures c.args.dir c.in-Some.child.now child.0 child.1

pub loop-child-smaller : goal.loop-child-smaller
loop-child-smaller g c =
    let forest = c.args.forest.now in
    subst (λ n. next_of c.args.dir.server forest - (n + 1)
    < next_of c.args.dir.server forest - passed c.loop-child.floor)
    (sym c.number.ensures)
    (children-smaller c.args.dir c.loop-child.floor forest c.in-Some.child.now
    c.well_formed-2.ensures (sym c.in-Some.ensures))

pub loop-child-init : goal.loop-child-init
loop-child-init g c =
    let forest = c.args.forest.now in
    let table = c.args.table.now in
    images-all (arrives forest table)
    (way_by (λ name. is_some (lookup (bytes_eq name) c.args.earlier.now.entries)) c.args.searched
    c.args.dir)
    forest c.args.dir c.args.ways.now.items

pub loop-child-preserved : goal.loop-child-preserved
loop-child-preserved g c =
    let forest = c.args.forest.now in
    let table = c.args.table.now in
    images-more (arrives forest table)
    (way_by (λ name. is_some (lookup (bytes_eq name) c.args.earlier.now.entries)) c.args.searched
    c.args.dir)
    forest c.args.dir c.well_formed-2.ensures c.loop-child.floor c.loop-child.ways.items _
    c.loop-child.invariant c.add_way.new.ways.items c.way_to.result c.in-Some.child.now
    c.number.result c.in_ok-add_way.ensures c.way_to.ensures c.number.ensures
    (sym c.in-Some.ensures)

pub returns : goal.returns
returns g c =
    let forest = c.args.forest.now in
    let table = c.args.table.now in
    images-end (arrives forest table)
    (way_by (λ name. is_some (lookup (bytes_eq name) c.args.earlier.now.entries)) c.args.searched
    c.args.dir)
    forest c.args.dir c.well_formed-2.ensures c.loop-child.floor c.loop-child.ways.items _
    c.loop-child.invariant (sym c.after.ensures ∙ ap option_copied c.in_default.is)
