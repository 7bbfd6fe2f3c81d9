use Rattle.std.proofs.Common.{◌≡◌, ◌+◌, ◌≤◌, inl, inr, ℕ, take, subst, arith, IsTrue}
use Rattle.std.proofs.lemmas.Bool.{cases_lt}
use Rattle.p9_log.specs.declared.crash.Crash.TheVariants.{Killed}
use Rattle.p9_log.specs.Blocks.{content_in}
use Rattle.p9_kept.specs.Edits.{stood_for}
use Rattle.p9_kept.specs.Runs.{Lives}
use Rattle.p9_kept.proofs.Runs.{after-next, lives-now, lives-on}
use Rattle.p9_kept.proofs.living.live.Goals as goal

pub returns-then-not-take_step-clause-lives : goal.returns-then-not-take_step-clause-lives
returns-then-not-take_step-clause-lives g c = λ how k le.
    let D = g.D.Device in
    let journal = c.loop-taken.journal in
    lives-on D.seen D.moment D.may_leave D.left_since how c.args.steps.now
    (stood_for (content_in Killed (D.seen c.args.journal.now.log.device))) c.loop-taken.taken k
    journal.noted c.args.journal.now.log.device journal.log.device
    c.take_step.new.journal.log.device le c.loop-taken.invariant.at (c.take_step.ensures.any_moment how)
    (c.loop-taken.invariant.lives how k le)

pub loop-taken-preserved : goal.loop-taken-preserved
loop-taken-preserved g c =
    let D = g.D.Device in
    let old = c.args.journal.now.log.device in
    let journal = c.loop-taken.journal in
    let new = c.take_step.new.journal in
    let steps = c.args.steps.now in
    let forest = stood_for (content_in Killed (D.seen old)) in
    let done : IsTrue c.take_step.result = c.if-not-take_step.false in
    let at =
    after-next steps c.loop-taken.taken c.index-steps-taken.result forest (D.seen journal.log.device)
    journal.noted (D.seen new.log.device) new.noted c.loop-taken-test.true
    c.index-steps-taken.is c.loop-taken.invariant.at (journal.records c.loop-taken.invariant.whole)
    (c.take_step.ensures.taken done) in
    let sooner : D.moment old ≤ D.moment journal.log.device = c.loop-taken.invariant.later in
    let later : D.moment journal.log.device ≤ D.moment new.log.device =
    (c.take_step.ensures.any_moment Killed).later in
    record {
      whole = c.take_step.ensures.whole done;
      at = at;
      later = omega arith;
      lives = λ how k le. elim (cases_lt k (c.loop-taken.taken + 1)) [
        | inl lt ↦
            (let before : k ≤ c.loop-taken.taken = omega arith in
            lives-on D.seen D.moment D.may_leave D.left_since how steps forest c.loop-taken.taken k
            journal.noted old journal.log.device new.log.device before
            c.loop-taken.invariant.at (c.take_step.ensures.any_moment how)
            (c.loop-taken.invariant.lives how k before))
        | inr ge ↦
            (let same : c.loop-taken.taken + 1 ≡ k = omega arith in
            subst (λ (k : ℕ). Lives D.seen D.moment D.left_since how steps (take k steps) forest old new.log.device)
            same
            (lives-now D.seen D.moment D.may_leave D.left_since how steps forest (c.loop-taken.taken + 1)
            new.noted old new.log.device (omega arith)
            (g.met.D.Device.only_now new.log.device how)
            (new.as_seen (c.take_step.ensures.whole done) how) at))
      ];
    }
