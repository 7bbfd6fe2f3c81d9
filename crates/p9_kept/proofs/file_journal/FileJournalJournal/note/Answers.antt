use Rattle.std.proofs.Common.{◌++◌, ap, ◌∙◌}
use Rattle.p9_log.specs.declared.crash.Crash.TheVariants.{Killed}
use Rattle.p9_log.specs.Blocks.{content_in}
use Rattle.p9_tree.specs.ForestChange.{forest_edit_of}
use Rattle.p9_kept.specs.Edits.{stood_for}
use Rattle.p9_kept.proofs.Noted.{noted-stood}
use Rattle.p9_kept.proofs.file_journal.FileJournalJournal.note.Goals as goal

pub returns-clause-noted : goal.returns-clause-noted
returns-clause-noted g c = λ whole.
    let D = g.D.Device in
    let self = c.args.self.now in
    ap (λ log. stood_for (content_in Killed (D.seen log.device) ++ c.note_change.new.self.noted))
    c.note_change.ensures.log
    ∙ noted-stood (content_in Killed (D.seen self.log.device)) self.noted
    c.note_change.new.self.noted (forest_edit_of c.args.change.now)
    (c.note_change.ensures.noted whole) (c.note_change.ensures.fits whole)
    (self.records (c.note_change.ensures.less whole))
