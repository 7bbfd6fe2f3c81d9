use Rattle.std.proofs.Common.{◌∙◌, ◌+◌, ◌-◌, ◌<◌, ◌++◌, sym, ap, subst}
use Rattle.std.specs.Option.{option_copied}
use Rattle.p9_tree.specs.Forest.{next_of}
use Rattle.p9_cert.proofs.Children.{children-smaller, passed}
use Rattle.p9_judge.specs.Search.{child_place, child_places}
use Rattle.p9_judge.proofs.Discovered.{after-child, discovered-end, discovered-next}
use Rattle.p9_judge.proofs.Found.{child-name}
use Rattle.p9_judge.proofs.search.Search.discover_children.Goals as goal

pub child_place-requires : goal.child_place-requires
child_place-requires g c =
    let forest = c.args.forest.now in
    let child =
    after-child forest c.well_formed-2.ensures c.args.dir c.loop-child.floor c.in-Some.child.now
    (sym c.in-Some.ensures) in
    child-name forest c.well_formed-2.ensures c.args.dir c.in-Some.child.now child.0 child.1

pub loop-child-smaller : goal.loop-child-smaller
loop-child-smaller g c =
    let forest = c.args.forest.now in
    subst (λ n. next_of c.args.dir.server forest - (n + 1)
    < next_of c.args.dir.server forest - passed c.loop-child.floor)
    (sym c.number.ensures)
    (children-smaller c.args.dir c.loop-child.floor forest c.in-Some.child.now
    c.well_formed-2.ensures (sym c.in-Some.ensures))

pub loop-child-preserved : goal.loop-child-preserved
loop-child-preserved g c =
    let forest = c.args.forest.now in
    record {
      discovered =
          discovered-next forest c.well_formed-2.ensures c.args.dir
          (child_place c.args.from c.args.dir)
          (c.args.self.now.places.items ++ child_places forest c.args.from c.args.dir)
          c.loop-child.floor c.loop-child.self.places.items c.push.new.self.items
          c.child_place.result c.in-Some.child.now c.number.result c.in_ok-push.ensures.items
          c.child_place.ensures c.number.ensures (sym c.in-Some.ensures)
          c.loop-child.invariant.discovered;
      passed = c.loop-child.invariant.passed;
    }

pub returns-clause-places : goal.returns-clause-places
returns-clause-places g c =
    let forest = c.args.forest.now in
    discovered-end forest c.well_formed-2.ensures c.args.dir
    (child_place c.args.from c.args.dir)
    (c.args.self.now.places.items ++ child_places forest c.args.from c.args.dir)
    c.loop-child.floor c.loop-child.self.places.items
    (sym c.after.ensures ∙ ap option_copied c.in_default.is) c.loop-child.invariant.discovered
