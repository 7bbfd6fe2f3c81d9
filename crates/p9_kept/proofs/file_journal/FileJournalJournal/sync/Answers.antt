use Rattle.p9_log.specs.declared.crash.Crash.TheVariants.{Killed, Stopped}
use Rattle.p9_kept.proofs.Crashes.{appended-stay, kept-stand}
use Rattle.p9_kept.proofs.file_journal.FileJournalJournal.sync.Goals as goal

pub returns-clause-stay : goal.returns-clause-stay
returns-clause-stay g c =
    let D = g.D.Device in
    let self = c.args.self.now in
    appended-stay D.moment D.may_leave D.left_since g.met.D.Device.counts_now g.met.D.Device.only_now
    (D.seen self.log.device) self.noted self.log.device c.sync_noted.new.self.log.device
    (c.sync_noted.ensures.any_moment Killed)

pub returns-clause-stand : goal.returns-clause-stand
returns-clause-stand g c =
    let D = g.D.Device in
    let self = c.args.self.now in
    kept-stand D.moment D.may_leave D.left_since g.met.D.Device.counts_now g.met.D.Device.only_now
    (D.seen self.log.device) self.noted self.log.device c.sync_noted.new.self.log.device
    (c.sync_noted.ensures.any_moment Stopped)
