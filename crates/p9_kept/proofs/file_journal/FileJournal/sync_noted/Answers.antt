use Rattle.p9_log.specs.Log.{IsAppended, IsKept}
use Rattle.p9_kept.specs.Making.{IsAppendedAndKept}
use Rattle.p9_kept.proofs.Crashes.{appended-kept, kept-appended}
use Rattle.p9_kept.proofs.Untouched.{leaves-then, leaves-weaker}
use Rattle.p9_kept.proofs.file_journal.FileJournal.sync_noted.Goals as goal

pub returns-in_err-settle_noted-clause-any_moment :
    goal.returns-in_err-settle_noted-clause-any_moment
returns-in_err-settle_noted-clause-any_moment g c = λ how.
    let D = g.D.Device in
    let self = c.args.self.now in
    let seen = D.seen self.log.device in
    leaves-weaker D.moment D.left_since how (IsAppended how seen self.noted)
    (IsAppendedAndKept how seen self.noted) self.log.device c.settle_noted.new.self.log.device
    (appended-kept how seen self.noted) (c.settle_noted.ensures.any_moment how)

pub returns-then-is_err-clause-any_moment : goal.returns-then-is_err-clause-any_moment
returns-then-is_err-clause-any_moment g c = λ how.
    let D = g.D.Device in
    let self = c.args.self.now in
    let seen = D.seen self.log.device in
    let mid = c.settle_noted.new.self.log.device in
    leaves-then D.moment D.left_since how (IsAppendedAndKept how seen self.noted)
    self.log.device mid c.sync.new.self.device
    (leaves-weaker D.moment D.left_since how (IsAppended how seen self.noted)
    (IsAppendedAndKept how seen self.noted) self.log.device mid
    (appended-kept how seen self.noted) (c.settle_noted.ensures.any_moment how))
    (leaves-weaker D.moment D.left_since how (IsKept how (D.seen mid))
    (IsAppendedAndKept how seen self.noted) mid c.sync.new.self.device
    (λ left. kept-appended how seen self.noted (D.seen mid) left
    c.in_ok-settle_noted.ensures.settled c.in_ok-settle_noted.ensures.synced)
    (c.sync.ensures.any_moment how))

pub returns-clause-any_moment : goal.returns-clause-any_moment
returns-clause-any_moment g c = λ how.
    let D = g.D.Device in
    let self = c.args.self.now in
    let seen = D.seen self.log.device in
    let mid = c.settle_noted.new.self.log.device in
    leaves-then D.moment D.left_since how (IsAppendedAndKept how seen self.noted)
    self.log.device mid c.sync.new.self.device
    (leaves-weaker D.moment D.left_since how (IsAppended how seen self.noted)
    (IsAppendedAndKept how seen self.noted) self.log.device mid
    (appended-kept how seen self.noted) (c.settle_noted.ensures.any_moment how))
    (leaves-weaker D.moment D.left_since how (IsKept how (D.seen mid))
    (IsAppendedAndKept how seen self.noted) mid c.sync.new.self.device
    (λ left. kept-appended how seen self.noted (D.seen mid) left
    c.in_ok-settle_noted.ensures.settled c.in_ok-settle_noted.ensures.synced)
    (c.sync.ensures.any_moment how))
