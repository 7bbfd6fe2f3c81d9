use Rattle.std.proofs.Common.{refl}
use Rattle.std.specs.Option.{option_map}
use Rattle.p9_space.specs.Channel.{trail_of}
use Rattle.p9_table.specs.Rights.{who_view}
use Rattle.p9_space.proofs.Walks.{passed_on, walk-done, walk-on, walk-refused}
use Rattle.p9_space.proofs.way.advance_on.Goals as goal

pub loop-name-init : goal.loop-name-init
loop-name-init g c = (refl, c.requires)

pub loop-name-preserved : goal.loop-name-preserved
loop-name-preserved g c = (
  walk-on c.args.forest.now c.args.table.now (option_map who_view c.args.who)
      (trail_of c.loop-name.way) (trail_of c.take.new.self) c.args.names.now
      c.loop-name.name-index _ c.in_ok-arrival.arrival.step _ c.loop-name-test.true
      c.in_ok-arrival.ensures.ok c.take.ensures.trail c.loop-name.invariant.0,
  c.take.ensures.fits c.args.table.now c.in_ok-arrival.ensures.row c.loop-name.invariant.1,
)

pub returns-clause-ok : goal.returns-clause-ok
returns-clause-ok g c =
    walk-done c.args.forest.now c.args.table.now (option_map who_view c.args.who)
    (trail_of c.loop-name.way) c.args.names.now c.loop-name.name-index _ c.loop-name-test.false
    c.loop-name.invariant.0

pub returns-in_err-arrival-clause-err : goal.returns-in_err-arrival-clause-err
returns-in_err-arrival-clause-err g c =
    let r = c.from_residual in
    passed_on r.result _ _ r.ensures.1
    (walk-refused c.args.forest.now c.args.table.now (option_map who_view c.args.who)
    (trail_of c.loop-name.way) c.args.names.now c.loop-name.name-index _
    c.in_err-arrival.field-0.0 _ c.loop-name-test.true c.in_err-arrival.ensures.err
    c.loop-name.invariant.0)

pub find_arrival_on-requires : goal.find_arrival_on-requires
find_arrival_on-requires g c = c.loop-name.invariant.1

pub take-requires : goal.take-requires
take-requires g c = c.in_ok-arrival.ensures.places

pub returns-clause-fits : goal.returns-clause-fits
returns-clause-fits g c = c.loop-name.invariant.1
