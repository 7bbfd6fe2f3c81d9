use Rattle.std.proofs.Common.{◌∙◌, sym, subst, arith}
use Rattle.p9_tree.specs.Forest.{IsForest}
use Rattle.p9_world.specs.World.{World}
use Rattle.p9_cert.specs.Policy.{policy_of}
use Rattle.p9_judge.specs.Verdict.{IsLeast}
use Rattle.p9_judge.proofs.Lists.{at-within}
use Rattle.p9_judge.proofs.Verdicts.{are_passed, found_breach, least, parent_shown}
use Rattle.p9_judge.proofs.Verdicts.{passed-small, tested_more}
use Rattle.p9_judge.proofs.verdict.verdict_of.Goals as goal

pub loop-place-init : goal.loop-place-init
loop-place-init g c = record {
  search = c.requires.search;
  tested = λ i p lt there. absurd (omega arith);
}

pub place_breach-fault-requires-clause-shown : goal.place_breach-fault-requires-clause-shown
place_breach-fault-requires-clause-shown g c =
    let world = c.args.world.now in
    let sound = subst (λ (w : World). IsForest w.forest) c.world.view_is c.well_formed-2.ensures in
    parent_shown (policy_of world) world.forest c.args.table.now sound
    c.loop-place.search.places.items c.loop-place.search.passed.keys c.loop-place.invariant.search
    c.loop-place.tested c.in-Some.place (sym c.place.ensures ∙ c.in-Some.is) c.parent-parent.result
    c.parent-parent.ensures c.as_slice.result.now c.as_slice.ensures

pub steps_to-requires-clause-passed : goal.steps_to-requires-clause-passed
steps_to-requires-clause-passed g c =
    let world = c.args.world.now in
    let sound = subst (λ (w : World). IsForest w.forest) c.world.view_is c.well_formed-2.ensures in
    are_passed (policy_of world) world.forest c.args.table.now sound
    c.loop-place.search.places.items c.loop-place.search.passed.keys c.loop-place.invariant.search

pub steps_to-requires-clause-within : goal.steps_to-requires-clause-within
steps_to-requires-clause-within g c =
    at-within c.loop-place.search.places.items c.loop-place.tested c.in-Some.place
    (sym c.place.ensures ∙ c.in-Some.is)

pub returns-in-Some-fault : goal.returns-in-Some-fault
returns-in-Some-fault g c =
    let world = c.args.world.now in
    let sound = subst (λ (w : World). IsForest w.forest) c.world.view_is c.well_formed-2.ensures in
    found_breach (policy_of world) world.forest c.args.table.now sound
    c.loop-place.search.places.items c.loop-place.search.passed.keys c.loop-place.invariant.search
    c.loop-place.tested c.in-Some.place (sym c.place.ensures ∙ c.in-Some.is)
    c.in_ok-steps_to.field-0.items c.in_ok-steps_to.ensures c.in-Some-fault.member
    c.in-Some-fault.kind (sym c.place_breach-fault.ensures ∙ c.in-Some-fault.is)

pub overflow_add-tested : goal.overflow_add-tested
overflow_add-tested g c =
    let lt =
    at-within c.loop-place.search.places.items c.loop-place.tested c.in-Some.place
    (sym c.place.ensures ∙ c.in-Some.is) in
    omega (arith, c.loop-place.search.places.small)

pub loop-place-preserved : goal.loop-place-preserved
loop-place-preserved g c =
    let world = c.args.world.now in
    record {
      search = c.in_ok-pass.ensures.search;
      tested =
          tested_more (policy_of world) world.forest c.args.table.now
          c.loop-place.search.places.items c.pass.new.self.places.items
          c.loop-place.search.passed.keys c.pass.new.self.passed.keys c.in_ok-pass.ensures.grown
          c.loop-place.tested c.in-Some.place (sym c.place.ensures ∙ c.in-Some.is)
          c.in_ok-pass.ensures.safe c.loop-place.invariant.tested;
    }

pub certificate-requires : goal.certificate-requires
certificate-requires g c =
    let world = c.args.world.now in
    let sound = subst (λ (w : World). IsForest w.forest) c.world.view_is c.well_formed-2.ensures in
    passed-small (policy_of world) world.forest c.args.table.now sound
    c.loop-place.search.places.items c.loop-place.search.passed.keys c.loop-place.invariant.search

pub returns : goal.returns
returns g c =
    let world = c.args.world.now in
    let sound = subst (λ (w : World). IsForest w.forest) c.world.view_is c.well_formed-2.ensures in
    subst (IsLeast (policy_of world) world.forest c.args.table.now)
    (sym c.in_ok-certificate.ensures)
    (least (policy_of world) world.forest c.args.table.now sound c.loop-place.search.places.items
    c.loop-place.search.passed.keys c.loop-place.invariant.search c.loop-place.tested
    (sym c.place.ensures ∙ c.in_default.is) c.loop-place.invariant.tested)
