use Rattle.std.proofs.Common.{◌∙◌, false, subst}
use Rattle.p9_tree.specs.Forest.{IsForest}
use Rattle.p9_table.specs.declared.row.Member.{Member}
use Rattle.p9_world.specs.World.{World}
use Rattle.p9_cert.specs.Policy.{policy_of}
use Rattle.p9_judge.specs.Search.{IsAt}
use Rattle.p9_judge.proofs.Searches.{grown_twice, next_grown, next_safe, next_search}
use Rattle.p9_judge.proofs.search.Search.pass.Goals as goal

pub loop-member-preserved : goal.loop-member-preserved
loop-member-preserved g c =
    let world = c.args.world.now in
    let policy = policy_of world in
    let sound = subst (λ (w : World). IsForest w.forest) c.world.view_is c.well_formed-2.ensures in
    let old = c.loop-member.self in
    let new = c.pass_member.new.self in
    let d : Member = record { node = record { server = 0; number = 0 }; create = false } in
    let at : IsAt old.places.items c.args.from c.args.place = (
      c.requires.place.0,
      c.loop-member.invariant.grown.kept c.args.from c.requires.place.0 c.requires.place.1,
      c.requires.place.2,
    ) in
    let members = c.as_slice-member-items.result.now in
    let all = c.as_slice-member-items.ensures ∙ c.members.ensures.members in
    record {
      search =
          next_search policy world.forest c.args.table.now sound old.places.items new.places.items
          old.passed.keys new.passed.keys c.loop-member.invariant.search c.args.from c.args.place at
          members all c.requires.tested c.loop-member.member-index d c.loop-member-test.true
          c.in_ok-pass_member.ensures.places c.in_ok-pass_member.ensures.passed
          c.loop-member.invariant.safe;
      grown =
          grown_twice c.args.self.now.places.items old.places.items new.places.items
          c.args.self.now.passed.keys old.passed.keys new.passed.keys c.loop-member.invariant.grown
          (next_grown policy world.forest c.args.table.now sound old.places.items new.places.items
          old.passed.keys new.passed.keys c.loop-member.invariant.search c.args.from c.args.place at
          members all c.requires.tested c.loop-member.member-index d c.loop-member-test.true
          c.in_ok-pass_member.ensures.places c.in_ok-pass_member.ensures.passed
          c.loop-member.invariant.safe);
      safe =
          next_safe policy world.forest c.args.table.now sound old.places.items new.places.items
          old.passed.keys new.passed.keys c.loop-member.invariant.search c.args.from c.args.place at
          members all c.requires.tested c.loop-member.member-index d c.loop-member-test.true
          c.in_ok-pass_member.ensures.places c.in_ok-pass_member.ensures.passed
          c.loop-member.invariant.safe;
    }
