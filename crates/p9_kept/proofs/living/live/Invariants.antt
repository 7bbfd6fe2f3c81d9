use Rattle.std.proofs.Common.{ℕ, ◌≤◌, take, IsTrue}
use Rattle.p9_log.specs.declared.crash.Crash.{Crash}
use Rattle.p9_log.specs.declared.crash.Crash.TheVariants.{Killed}
use Rattle.p9_log.specs.Blocks.{content_in}
use Rattle.p9_kept.specs.Edits.{stood_for}
use Rattle.p9_kept.specs.Runs.{IsAfter, Lives}
use Rattle.p9_kept.proofs.living.live.Given as goal

abbrev pub invariant-loop-taken : goal.invariant-loop-taken
invariant-loop-taken g l = record {
  whole : IsTrue l.journal.whole;
  at : IsAfter l.steps (take l.taken l.steps)
      (stood_for (content_in Killed (g.D.Device.seen l.fn.journal.log.device)))
      (g.D.Device.seen l.journal.log.device) l.journal.noted;
  later : g.D.Device.moment l.fn.journal.log.device ≤ g.D.Device.moment l.journal.log.device;
  lives : (how : Crash) (k : ℕ) → k ≤ l.taken
      → Lives g.D.Device.seen g.D.Device.moment g.D.Device.left_since how l.steps (take k l.steps)
      (stood_for (content_in Killed (g.D.Device.seen l.fn.journal.log.device)))
      l.fn.journal.log.device l.journal.log.device;
}
