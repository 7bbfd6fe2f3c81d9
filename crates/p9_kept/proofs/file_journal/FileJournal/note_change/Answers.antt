use Rattle.p9_tree.specs.ForestChange.{forest_edit_of}
use Rattle.p9_kept.proofs.Noted.{noted-whole}
use Rattle.p9_log.specs.declared.crash.Crash.TheVariants.{Killed}
use Rattle.p9_log.specs.Blocks.{content_in}
use Rattle.p9_kept.proofs.file_journal.FileJournal.note_change.Goals as goal

pub invariant_of-self : goal.invariant_of-self
invariant_of-self g c = record {
  records = λ whole.
      noted-whole (content_in Killed (g.D.Device.seen c.args.self.now.log.device))
      c.args.self.now.noted c.push.new.self (forest_edit_of c.args.change.now)
      c.in-Ok.ensures.ok c.in-Ok.ensures.fits (c.args.self.now.records whole);
  as_seen = c.args.self.now.as_seen;
}
