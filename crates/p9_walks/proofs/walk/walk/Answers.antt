use Rattle.std.specs.Prelude.{is_some}
use Rattle.p9_wire.specs.Message.{Rwalk}
use Rattle.p9_step.specs.Walk.{walk_answer}
use Rattle.p9_walks.specs.Answers.{replied}
use Rattle.p9_walks.proofs.Beyond.{walk-or}
use Rattle.p9_walks.proofs.walk.walk.Goals as goal

pub returns-clause-answer : goal.returns-clause-answer
returns-clause-answer g c =
    let before = c.reserve_walk-room.ensures.before in
    walk-or c.args.forest.now c.args.forest.now c.args.session.now.session
    c.walk_reserved.new.session.session (replied Rwalk c.walk_reserved.result)
    (is_some c.reserve_walk-room.result)
    (walk_answer c.args.setting.now c.args.forest.now c.args.session.now.session c.args.fid
    c.args.newfid c.args.names.now) (rw before at c.walk_reserved.ensures.answer)
