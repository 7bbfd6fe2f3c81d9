use Rattle.std.proofs.Common.{◌+◌, ◌≡◌, false, length, subst, sym}
use Rattle.p9_log.specs.declared.crash.Crash.TheVariants.{Killed, Stopped}
use Rattle.p9_log.specs.Blocks.{content_in}
use Rattle.p9_log.specs.Rest.{IsAtRest}
use Rattle.p9_log.proofs.Drafts.{begins_still, begun, leaves_nothing, no_more, none-in}
use Rattle.p9_log.proofs.log.Log.begin_draft.Goals as goal

pub invariant_of-self : goal.invariant_of-self
invariant_of-self g c =
    let D = g.D.Device in
    let self = c.args.self.now in
    let seen = c.begin_draft.ensures.seen in
    record {
      at_rest = λ usable. subst (λ file. IsAtRest file self.kept self.end) (sym seen) (self.at_rest usable);
      whole = λ usable. subst (λ file. self.size ≡ length file) (sym seen) (self.whole usable);
      durable = λ usable. begins_still D.seen D.moment D.may_leave D.left_since g.met.D.Device.alive g.met.D.Device.counts_now self.device c.begin_draft.new.self
          (self.kept + 1) c.begin_draft.ensures.crash seen (self.durable usable);
      synced = λ usable. subst (λ file. self.pending ≡ false → content_in Killed file ≡ content_in Stopped file) (sym seen) (self.synced usable);
      near = self.near;
      in_use = λ e. absurd cc;
      draft = λ e. absurd cc;
    }

pub invariant_of-self-2 : goal.invariant_of-self-2
invariant_of-self-2 g c =
    let D = g.D.Device in
    let self = c.args.self.now in
    let seen = c.begin_draft.ensures.seen in
    record {
      at_rest = λ usable. subst (λ file. IsAtRest file self.kept self.end) (sym seen) (self.at_rest usable);
      whole = λ usable. subst (λ file. self.size ≡ length file) (sym seen) (self.whole usable);
      durable = λ usable. begins_still D.seen D.moment D.may_leave D.left_since g.met.D.Device.alive g.met.D.Device.counts_now self.device c.begin_draft.new.self
          (self.kept + 1) c.begin_draft.ensures.crash seen (self.durable usable);
      synced = λ usable. subst (λ file. self.pending ≡ false → content_in Killed file ≡ content_in Stopped file) (sym seen) (self.synced usable);
      near = self.near;
      in_use = λ _. c.if-not-self.false;
      draft = λ _. begun (D.drafted c.begin_draft.new.self) c.in_ok-begin_draft.ensures.drafted;
    }

pub returns-in_err-begin_draft-clause-outcomes : goal.returns-in_err-begin_draft-clause-outcomes
returns-in_err-begin_draft-clause-outcomes g c =
    let D = g.D.Device in
    no_more D.seen D.moment D.may_leave D.left_since g.met.D.Device.alive g.met.D.Device.counts_now c.args.self.now.device c.begin_draft.new.self
    c.begin_draft.ensures.crash

pub returns-in_err-begin_draft-clause-any_moment : goal.returns-in_err-begin_draft-clause-any_moment
returns-in_err-begin_draft-clause-any_moment g c =
    let D = g.D.Device in
    leaves_nothing D.seen D.moment D.may_leave D.left_since g.met.D.Device.alive g.met.D.Device.counts_now c.args.self.now.device c.begin_draft.new.self
    c.begin_draft.ensures.crash

pub returns-clause-drafted : goal.returns-clause-drafted
returns-clause-drafted g c = none-in (g.D.Device.drafted c.begin_draft.new.self) c.in_ok-begin_draft.ensures.drafted

pub returns-clause-outcomes : goal.returns-clause-outcomes
returns-clause-outcomes g c =
    let D = g.D.Device in
    no_more D.seen D.moment D.may_leave D.left_since g.met.D.Device.alive g.met.D.Device.counts_now c.args.self.now.device c.begin_draft.new.self
    c.begin_draft.ensures.crash

pub returns-clause-any_moment : goal.returns-clause-any_moment
returns-clause-any_moment g c =
    let D = g.D.Device in
    leaves_nothing D.seen D.moment D.may_leave D.left_since g.met.D.Device.alive g.met.D.Device.counts_now c.args.self.now.device c.begin_draft.new.self
    c.begin_draft.ensures.crash
