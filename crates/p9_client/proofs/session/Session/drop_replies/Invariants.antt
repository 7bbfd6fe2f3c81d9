use Rattle.std.proofs.Common.{◌≡◌, true}
use Rattle.p9_client.proofs.session.Session.drop_replies.Given as goal

abbrev pub invariant-loop-left : goal.invariant-loop-left
invariant-loop-left g l = l.fn.self.failed ≡ true → l.self.failed ≡ true

abbrev pub decreases-loop-left : goal.decreases-loop-left
decreases-loop-left g l = l.left
