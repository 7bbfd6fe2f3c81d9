use Rattle.p9_space.specs.Rights.{who_view}
use Rattle.std.proofs.Common.{length, refl, subst}
use Rattle.p9_step.specs.Listing.{left_of}
use Rattle.p9_walks.proofs.Entries.{left_reached}
use Rattle.p9_walks.proofs.Fillings.{Filling, filling-start}
use Rattle.p9_walks.proofs.Listings.{members-full, members-next, members-reached, reached-start}
use Rattle.p9_walks.proofs.listing.fill.Goals as goal

pub loop-position-init : goal.loop-position-init
loop-position-init g c =
    let forest = c.args.forest.now in
    let all = left_of forest (who_view c.args.who) c.args.cursor c.args.members.now in (
      subst (Filling (length c.args.buffer.now) all c.args.cursor c.args.buffer.now 0 c.args.cursor)
          (left_reached c.args.cursor forest (who_view c.args.who) c.args.members.now
          c.first_position-position.result c.first_position-position.ensures)
          (filling-start all c.args.cursor c.args.buffer.now),
      reached-start c.args.cursor c.first_position-position.result
          c.first_position-position.ensures,
      refl,
    )

pub returns-then-more : goal.returns-then-more
returns-then-more g c =
    members-full c.args.forest.now (who_view c.args.who)
    c.args.members.now c.args.cursor (length c.args.buffer.now) c.loop-position.buffer
    c.loop-position.filled.size c.loop-position.filled.cursor c.loop-position.position
    c.loop-position.auto.buffer c.loop-position.invariant.0 _ c.fill_member-more.result
    c.fill_member-more.new.buffer c.loop-position-test.true c.loop-position.invariant.1
    c.fill_member-more.auto.buffer c.fill_member-more.ensures c.if-more.true

pub loop-position-preserved : goal.loop-position-preserved
loop-position-preserved g c = (
  members-next c.args.forest.now (who_view c.args.who)
      c.args.members.now c.args.cursor (length c.args.buffer.now) c.loop-position.buffer
      c.loop-position.filled.size c.loop-position.filled.cursor c.loop-position.position
      c.loop-position.auto.buffer c.loop-position.invariant.0 _ c.fill_member-more.result
      c.fill_member-more.new.buffer c.loop-position-test.true c.loop-position.invariant.1
      c.fill_member-more.auto.buffer c.fill_member-more.ensures c.if-more.false,
  members-reached c.args.forest.now (who_view c.args.who)
      c.args.members.now c.args.cursor (length c.args.buffer.now) c.loop-position.buffer
      c.loop-position.filled.size c.loop-position.filled.cursor c.loop-position.position
      c.loop-position.auto.buffer c.loop-position.invariant.0 _ c.fill_member-more.result
      c.fill_member-more.new.buffer c.loop-position-test.true c.loop-position.invariant.1
      c.fill_member-more.auto.buffer c.fill_member-more.ensures,
  c.if-more.false,
)
