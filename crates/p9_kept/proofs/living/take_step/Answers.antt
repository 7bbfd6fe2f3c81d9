use Rattle.p9_log.specs.Log.{IsAppended}
use Rattle.p9_kept.specs.Making.{IsAppendedAndKept}
use Rattle.p9_kept.proofs.Crashes.{appended-kept}
use Rattle.p9_kept.proofs.Untouched.{leaves-weaker}
use Rattle.p9_kept.proofs.living.take_step.Goals as goal

pub returns-in-Settle-clause-any_moment : goal.returns-in-Settle-clause-any_moment
returns-in-Settle-clause-any_moment g c = λ how.
    let D = g.D.Device in
    let journal = c.args.journal.now in
    leaves-weaker D.moment D.left_since how
    (IsAppended how (D.seen journal.log.device) journal.noted)
    (IsAppendedAndKept how (D.seen journal.log.device) journal.noted) journal.log.device
    c.settle_noted.new.self.log.device
    (appended-kept how (D.seen journal.log.device) journal.noted)
    (c.settle_noted.ensures.any_moment how)
