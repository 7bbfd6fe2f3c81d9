use Rattle.p9_judge.proofs.Users.{name-more}
use Rattle.p9_judge.proofs.listed.users_of.Goals as goal

pub loop-user-preserved : goal.loop-user-preserved
loop-user-preserved g c =
    name-more c.loop-user.set.keys c.insert.new.self.keys c.args.users.now c.loop-user.user-index
    c.user-item.result c.user-item.result c.loop-user-test.true c.user-item.is
    c.in_ok-insert.ensures.updates.0 c.loop-user.invariant
