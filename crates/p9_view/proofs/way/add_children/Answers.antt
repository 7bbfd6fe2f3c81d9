use Rattle.std.proofs.Common.{◌∙◌, ◌+◌, ◌-◌, ◌<◌, Some, sym, ap, subst}
use Rattle.std.specs.Map.{lookup}
use Rattle.std.specs.Option.{option_copied, option_or}
use Rattle.std.specs.Str.{bytes_eq}
use Rattle.p9_tree.specs.Forest.{next_of}
use Rattle.p9_space.specs.Walk.{child_ref}
use Rattle.p9_cert.proofs.Children.{children-smaller, left_of, passed}
use Rattle.p9_judge.proofs.Discovered.{after-child}
use Rattle.p9_judge.proofs.Found.{child-name}
use Rattle.p9_view.proofs.Finds.{children-end, children-more, named, named-all}
use Rattle.p9_view.proofs.way.add_children.Goals as goal

pub add_child-requires : goal.add_child-requires
add_child-requires g c =
    let forest = c.args.forest.now in
    let child =
    after-child forest c.well_formed-2.ensures c.args.dir c.loop-child.floor c.in-Some.child.now
    (sym c.in-Some.ensures) in
    child-name forest c.well_formed-2.ensures c.args.dir c.in-Some.child.now child.0 child.1

pub loop-child-smaller : goal.loop-child-smaller
loop-child-smaller g c =
    let forest = c.args.forest.now in
    subst (λ n. next_of c.args.dir.server forest - (n + 1)
    < next_of c.args.dir.server forest - passed c.loop-child.floor)
    (sym c.number.ensures)
    (children-smaller c.args.dir c.loop-child.floor forest c.in-Some.child.now
    c.well_formed-2.ensures (sym c.in-Some.ensures))

pub loop-child-init : goal.loop-child-init
loop-child-init g c =
    λ name. ap (λ o. option_or (lookup (bytes_eq name) c.args.children.now.entries) o)
    (named-all c.args.forest.now c.args.dir name)

pub loop-child-preserved : goal.loop-child-preserved
loop-child-preserved g c =
    let forest = c.args.forest.now in
    let dir = c.args.dir in
    λ name. ap (λ k. option_or (lookup (bytes_eq name) c.add_child.new.children.entries)
    (named forest dir name (left_of dir (Some k) forest))) c.number.ensures
    ∙ children-more forest dir name c.well_formed-2.ensures c.loop-child.floor
    (lookup (bytes_eq name) c.loop-child.children.entries)
    (option_or (lookup (bytes_eq name) c.args.children.now.entries) (child_ref forest dir name))
    (lookup (bytes_eq name) c.add_child.new.children.entries) c.in-Some.child.now
    (c.in_ok-add_child.ensures name) (sym c.in-Some.ensures) (c.loop-child.invariant name)

pub returns : goal.returns
returns g c =
    let forest = c.args.forest.now in
    let dir = c.args.dir in
    λ name. children-end forest dir name c.well_formed-2.ensures c.loop-child.floor
    (lookup (bytes_eq name) c.loop-child.children.entries)
    (option_or (lookup (bytes_eq name) c.args.children.now.entries) (child_ref forest dir name))
    (sym c.after.ensures ∙ ap option_copied c.in_default.is) (c.loop-child.invariant name)
