use Rattle.p9_log.specs.declared.crash.Crash.TheVariants.{Killed, Stopped}
use Rattle.p9_kept.proofs.Crashes.{renewed-stand, renewed-stay}
use Rattle.p9_kept.proofs.Renewed.{renew-drafted, renew-put, renew-settled}
use Rattle.p9_kept.proofs.file_journal.FileJournal.renew.Goals as goal

pub returns-in_err-settle_noted-clause-any_moment :
    goal.returns-in_err-settle_noted-clause-any_moment
returns-in_err-settle_noted-clause-any_moment g c = λ how.
    let D = g.D.Device in
    let self = c.args.self.now in
    renew-settled D.moment D.left_since how (D.seen self.log.device) self.noted c.args.forest.now
    self.log.device c.settle_noted.new.self.log.device (c.settle_noted.ensures.any_moment how)

pub returns-in_err-draft-clause-any_moment : goal.returns-in_err-draft-clause-any_moment
returns-in_err-draft-clause-any_moment g c = λ how.
    let D = g.D.Device in
    let self = c.args.self.now in
    renew-drafted D.moment D.left_since how (D.seen self.log.device) self.noted c.args.forest.now
    self.log.device c.settle_noted.new.self.log.device (c.settle_noted.ensures.any_moment how)
    c.draft.new.self.log.device (c.draft.ensures.log.any_moment how)

pub returns-in_err-put_draft-clause-any_moment : goal.returns-in_err-put_draft-clause-any_moment
returns-in_err-put_draft-clause-any_moment g c = λ how.
    let D = g.D.Device in
    let self = c.args.self.now in
    renew-put D.moment D.left_since how (D.seen self.log.device) self.noted c.args.forest.now
    self.log.device c.settle_noted.new.self.log.device (c.settle_noted.ensures.any_moment how)
    c.draft.new.self.log.device (c.draft.ensures.log.any_moment how)
    (D.drafted c.draft.new.self.log.device) c.put_draft.new.self.log.device c.in_ok-draft.ensures.made
    (c.put_draft.ensures.any_moment how)

pub returns-clause-any_moment : goal.returns-clause-any_moment
returns-clause-any_moment g c = λ how.
    let D = g.D.Device in
    let self = c.args.self.now in
    renew-put D.moment D.left_since how (D.seen self.log.device) self.noted c.args.forest.now
    self.log.device c.settle_noted.new.self.log.device (c.settle_noted.ensures.any_moment how)
    c.draft.new.self.log.device (c.draft.ensures.log.any_moment how)
    (D.drafted c.draft.new.self.log.device) c.put_draft.new.self.log.device c.in_ok-draft.ensures.made
    (c.put_draft.ensures.any_moment how)

pub returns-in_err-settle_noted-clause-stay : goal.returns-in_err-settle_noted-clause-stay
returns-in_err-settle_noted-clause-stay g c =
    let D = g.D.Device in
    let self = c.args.self.now in
    renewed-stay D.moment D.may_leave D.left_since g.met.D.Device.counts_now g.met.D.Device.only_now
    (D.seen self.log.device) self.noted c.args.forest.now self.log.device
    c.settle_noted.new.self.log.device (returns-in_err-settle_noted-clause-any_moment g c Killed)

pub returns-in_err-settle_noted-clause-stand : goal.returns-in_err-settle_noted-clause-stand
returns-in_err-settle_noted-clause-stand g c =
    let D = g.D.Device in
    let self = c.args.self.now in
    renewed-stand D.moment D.may_leave D.left_since g.met.D.Device.counts_now g.met.D.Device.only_now
    (D.seen self.log.device) self.noted c.args.forest.now self.log.device
    c.settle_noted.new.self.log.device (returns-in_err-settle_noted-clause-any_moment g c Stopped)

pub returns-in_err-draft-clause-stay : goal.returns-in_err-draft-clause-stay
returns-in_err-draft-clause-stay g c =
    let D = g.D.Device in
    let self = c.args.self.now in
    renewed-stay D.moment D.may_leave D.left_since g.met.D.Device.counts_now g.met.D.Device.only_now
    (D.seen self.log.device) self.noted c.args.forest.now self.log.device
    c.draft.new.self.log.device (returns-in_err-draft-clause-any_moment g c Killed)

pub returns-in_err-draft-clause-stand : goal.returns-in_err-draft-clause-stand
returns-in_err-draft-clause-stand g c =
    let D = g.D.Device in
    let self = c.args.self.now in
    renewed-stand D.moment D.may_leave D.left_since g.met.D.Device.counts_now g.met.D.Device.only_now
    (D.seen self.log.device) self.noted c.args.forest.now self.log.device
    c.draft.new.self.log.device (returns-in_err-draft-clause-any_moment g c Stopped)

pub returns-in_err-put_draft-clause-stay : goal.returns-in_err-put_draft-clause-stay
returns-in_err-put_draft-clause-stay g c =
    let D = g.D.Device in
    let self = c.args.self.now in
    renewed-stay D.moment D.may_leave D.left_since g.met.D.Device.counts_now g.met.D.Device.only_now
    (D.seen self.log.device) self.noted c.args.forest.now self.log.device
    c.put_draft.new.self.log.device (returns-in_err-put_draft-clause-any_moment g c Killed)

pub returns-in_err-put_draft-clause-stand : goal.returns-in_err-put_draft-clause-stand
returns-in_err-put_draft-clause-stand g c =
    let D = g.D.Device in
    let self = c.args.self.now in
    renewed-stand D.moment D.may_leave D.left_since g.met.D.Device.counts_now g.met.D.Device.only_now
    (D.seen self.log.device) self.noted c.args.forest.now self.log.device
    c.put_draft.new.self.log.device (returns-in_err-put_draft-clause-any_moment g c Stopped)

pub returns-clause-stay : goal.returns-clause-stay
returns-clause-stay g c =
    let D = g.D.Device in
    let self = c.args.self.now in
    renewed-stay D.moment D.may_leave D.left_since g.met.D.Device.counts_now g.met.D.Device.only_now
    (D.seen self.log.device) self.noted c.args.forest.now self.log.device
    c.put_draft.new.self.log.device (returns-clause-any_moment g c Killed)

pub returns-clause-stand : goal.returns-clause-stand
returns-clause-stand g c =
    let D = g.D.Device in
    let self = c.args.self.now in
    renewed-stand D.moment D.may_leave D.left_since g.met.D.Device.counts_now g.met.D.Device.only_now
    (D.seen self.log.device) self.noted c.args.forest.now self.log.device
    c.put_draft.new.self.log.device (returns-clause-any_moment g c Stopped)
