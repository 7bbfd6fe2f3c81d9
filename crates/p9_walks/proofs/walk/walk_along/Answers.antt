use Rattle.std.proofs.Common.{◌≡◌, ℕ, ◌∙◌, List, [], Bor, refl, sym, ap, arith}
use Rattle.std.proofs.Common.{length, length-append}
use Rattle.std.proofs.lemmas.List.{length-map}
use Rattle.p9_walks.proofs.Walks.{few-places, qid-arrived, stepped-few, walked-all, walked-end}
use Rattle.p9_walks.proofs.Walks.{walked-turn}
use Rattle.p9_step.specs.State.{Setting}
use Rattle.p9_space.specs.Channel.{row_position, trail_of}
use Rattle.p9_space.specs.Trail.{here, stepped}
use Rattle.p9_walks.proofs.walk.walk_along.Goals as goal

-- what stands for a name past the last
nameless : Bor (List ℕ)
nameless = record { ref_ptr = (0, 0); now = [] }

pub of-way-requires : goal.of-way-requires
of-way-requires g c =
    ap length c.requires
    ∙ length-map (trail_of c.args.start.now) (λ key. row_position key c.args.setting.now.table)

pub loop-name-init : goal.loop-name-init
loop-name-init g c = record {
  count = rw c.new-qids.ensures refl;
  walk = rw (c.new-qids.ensures, c.of-way.ensures, c.as_slice-name-items.ensures.names) refl;
  fits = rw c.of-way.ensures c.requires;
  within = omega arith;
  few = rw c.of-way.ensures (omega arith);
}

pub push-requires : goal.push-requires
push-requires g c =
    let few = c.as_slice-name-items.ensures.few in
    let within = c.loop-name-test.true in
    omega arith

pub loop-name-preserved : goal.loop-name-preserved
unfolding nameless
loop-name-preserved g c =
    let setting : Setting = record {
      users = c.setting.inside.users.items;
      groups = c.setting.inside.groups;
      table = c.setting.inside.table;
    } in
    let step = rw (c.who.ensures, ← c.setting.view_is) at c.in-Ok.ensures.ok in
    let there =
    qid-arrived c.setting.inside.table c.args.forest.now
    (here (stepped (trail_of c.loop-name.way) c.in-Ok.arrival.step)) c.in-Ok.arrival.at
    c.in-Ok.arrival.file.now c.arrive.result c.in-Ok.ensures.at c.in-Ok.ensures.file
    c.arrive.ensures.qid in
    let turn =
    walked-turn setting c.args.forest.now c.args.user.now
    c.loop-name.qids c.push.new.self (trail_of c.loop-name.way) (trail_of c.arrive.new.way)
    c.as_slice-name-items.result.now c.loop-name.name-index nameless c.in-Ok.arrival.step
    c.arrive.result c.loop-name-test.true step there
    c.push.ensures c.arrive.ensures.trail in
    record {
      count = rw c.push.ensures (omega (arith, length-append c.loop-name.qids));
      walk = c.loop-name.invariant.walk ∙ rw (← c.setting.view_is) turn;
      fits = c.arrive.ensures.fits c.loop-name.invariant.fits;
      within = let less = c.loop-name-test.true in omega (arith, less);
      few = let more = stepped-few (trail_of c.loop-name.way) c.in-Ok.arrival.step in
          let before = c.loop-name.invariant.few in
          rw c.arrive.ensures.trail (omega (arith, more, before));
    }

pub returns-in-Err-clause-walked : goal.returns-in-Err-clause-walked
unfolding nameless
returns-in-Err-clause-walked g c =
    let setting : Setting = record {
      users = c.setting.inside.users.items;
      groups = c.setting.inside.groups;
      table = c.setting.inside.table;
    } in
    let step = rw (c.who.ensures, ← c.setting.view_is) at c.in-Err.ensures.err in
    let end =
    walked-end setting c.args.forest.now c.args.user.now
    c.loop-name.qids (trail_of c.loop-name.way) c.as_slice-name-items.result.now c.loop-name.name-index
    nameless c.in-Err.fault c.loop-name-test.true step in
    sym (c.loop-name.invariant.walk ∙ rw (← c.setting.view_is) end)

pub returns-in-Err-clause-few : goal.returns-in-Err-clause-few
returns-in-Err-clause-few g c =
    let names : length c.as_slice-name-items.result.now ≡ length c.args.names.now =
    sym (length-map c.as_slice-name-items.result.now (λ n. n.now))
    ∙ ap length c.as_slice-name-items.ensures.names in
    few-places (trail_of c.loop-name.way) (trail_of c.args.start.now)
    c.loop-name.name-index (length c.args.names.now) c.well_formed-in-Err.ensures
    c.loop-name.invariant.few (omega (arith, names, c.loop-name-test.true))

pub returns-clause-walked : goal.returns-clause-walked
returns-clause-walked g c =
    sym (c.loop-name.invariant.walk
    ∙ walked-all c.args.setting.now c.args.forest.now
    c.args.user.now _ _ c.as_slice-name-items.result.now c.loop-name.name-index
    c.loop-name-test.false)

pub returns-clause-few : goal.returns-clause-few
returns-clause-few g c =
    let names : length c.as_slice-name-items.result.now ≡ length c.args.names.now =
    sym (length-map c.as_slice-name-items.result.now (λ n. n.now))
    ∙ ap length c.as_slice-name-items.ensures.names in
    few-places (trail_of c.loop-name.way) (trail_of c.args.start.now)
    c.loop-name.name-index (length c.args.names.now) c.well_formed-2.ensures
    c.loop-name.invariant.few (omega (arith, names, c.loop-name.invariant.within))
