use Rattle.std.proofs.Common.{ℕ, ◌+◌, ◌-◌, ◌^◌, ◌<◌, ◌≡◌, ◌++◌, List, false, length, ap, ◌∙◌, subst, sym, arith}
use Rattle.p9_log.specs.declared.crash.Crash.TheVariants.{Killed, Stopped}
use Rattle.p9_log.specs.Blocks.{content_in}
use Rattle.p9_log.specs.Draft.{IsDraft}
use Rattle.p9_log.specs.Rest.{block, held, IsAtRest}
use Rattle.p9_log.proofs.Drafts.{added, added-content, begins_still, leaves_nothing, no_more}
use Rattle.p9_log.proofs.Staged.{drafted-is, length-held}
use Rattle.p9_log.proofs.log.Log.add_to_draft.Goals as goal

pub invariant_of-self : goal.invariant_of-self
invariant_of-self g c =
    let D = g.D.Device in
    let self = c.args.self.now in
    let seen = c.add_to_draft.ensures.seen in
    record {
      at_rest = λ usable. subst (λ file. IsAtRest file self.kept self.end) (sym seen) (self.at_rest usable);
      whole = λ usable. subst (λ file. self.size ≡ length file) (sym seen) (self.whole usable);
      durable = λ usable. begins_still D.seen D.moment D.may_leave D.left_since g.met.D.Device.alive g.met.D.Device.counts_now self.device c.add_to_draft.new.self
          (self.kept + 1) c.add_to_draft.ensures.crash seen (self.durable usable);
      synced = λ usable. subst (λ file. self.pending ≡ false → content_in Killed file ≡ content_in Stopped file) (sym seen) (self.synced usable);
      near = self.near;
      in_use = λ e. absurd cc;
      draft = λ e. absurd cc;
    }

pub invariant_of-self-2 : goal.invariant_of-self-2
invariant_of-self-2 g c =
    let D = g.D.Device in
    let self = c.args.self.now in
    let seen = c.add_to_draft.ensures.seen in
    let bytes : List ℕ = held c.args.buffer.now c.args.end in
    let long : length bytes ≡ c.args.end - 10 = length-held c.args.buffer.now c.args.end c.requires.head (omega (arith, c.requires.room)) in
    let small : length bytes < 2 ^ 64 = omega (arith, long) in
    let is : D.drafted c.add_to_draft.new.self ≡ D.drafted self.device ++ block 1 bytes =
    c.in_ok-add_to_draft.ensures.drafted ∙ ap (λ (b : List ℕ). D.drafted self.device ++ b) (drafted-is c.args.buffer.now c.stage.new.buffer c.args.end c.requires.head (omega (arith, c.requires.room)) c.stage.ensures) in
    let ten : 10 + length bytes ≡ c.args.end = omega (arith, long) in
    record {
      at_rest = λ usable. subst (λ file. IsAtRest file self.kept self.end) (sym seen) (self.at_rest usable);
      whole = λ usable. subst (λ file. self.size ≡ length file) (sym seen) (self.whole usable);
      durable = λ usable. begins_still D.seen D.moment D.may_leave D.left_since g.met.D.Device.alive g.met.D.Device.counts_now self.device c.add_to_draft.new.self
          (self.kept + 1) c.add_to_draft.ensures.crash seen (self.durable usable);
      synced = λ usable. subst (λ file. self.pending ≡ false → content_in Killed file ≡ content_in Stopped file) (sym seen) (self.synced usable);
      near = self.near;
      in_use = λ _. self.in_use c.if-not-self.false;
      draft = λ _. subst (λ n. IsDraft (D.drafted c.add_to_draft.new.self) (self.drafted + n)) ten
          (added (D.drafted self.device) bytes (D.drafted c.add_to_draft.new.self) self.drafted (self.draft c.if-not-self.false) small is
          (omega arith) (omega (arith, long)));
    }

pub returns-in_err-add_to_draft-clause-outcomes : goal.returns-in_err-add_to_draft-clause-outcomes
returns-in_err-add_to_draft-clause-outcomes g c =
    let D = g.D.Device in
    no_more D.seen D.moment D.may_leave D.left_since g.met.D.Device.alive g.met.D.Device.counts_now c.args.self.now.device c.add_to_draft.new.self
    c.add_to_draft.ensures.crash

pub returns-in_err-add_to_draft-clause-any_moment : goal.returns-in_err-add_to_draft-clause-any_moment
returns-in_err-add_to_draft-clause-any_moment g c =
    let D = g.D.Device in
    leaves_nothing D.seen D.moment D.may_leave D.left_since g.met.D.Device.alive g.met.D.Device.counts_now c.args.self.now.device c.add_to_draft.new.self
    c.add_to_draft.ensures.crash

pub returns-clause-drafted : goal.returns-clause-drafted
returns-clause-drafted g c =
    let D = g.D.Device in
    let self = c.args.self.now in
    let bytes : List ℕ = held c.args.buffer.now c.args.end in
    let long : length bytes ≡ c.args.end - 10 = length-held c.args.buffer.now c.args.end c.requires.head (omega (arith, c.requires.room)) in
    let small : length bytes < 2 ^ 64 = omega (arith, long) in
    let is : D.drafted c.add_to_draft.new.self ≡ D.drafted self.device ++ block 1 bytes =
    c.in_ok-add_to_draft.ensures.drafted ∙ ap (λ (b : List ℕ). D.drafted self.device ++ b) (drafted-is c.args.buffer.now c.stage.new.buffer c.args.end c.requires.head (omega (arith, c.requires.room)) c.stage.ensures) in
    added-content (D.drafted self.device) bytes (D.drafted c.add_to_draft.new.self) self.drafted (self.draft c.if-not-self.false) small is

pub returns-clause-outcomes : goal.returns-clause-outcomes
returns-clause-outcomes g c =
    let D = g.D.Device in
    no_more D.seen D.moment D.may_leave D.left_since g.met.D.Device.alive g.met.D.Device.counts_now c.args.self.now.device c.add_to_draft.new.self
    c.add_to_draft.ensures.crash

pub returns-clause-any_moment : goal.returns-clause-any_moment
returns-clause-any_moment g c =
    let D = g.D.Device in
    leaves_nothing D.seen D.moment D.may_leave D.left_since g.met.D.Device.alive g.met.D.Device.counts_now c.args.self.now.device c.add_to_draft.new.self
    c.add_to_draft.ensures.crash
