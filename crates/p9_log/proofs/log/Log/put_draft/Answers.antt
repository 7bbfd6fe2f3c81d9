use Rattle.std.proofs.Common.{IsTrue, ℕ, ◌+◌, ◌≡◌, List, false, length, length-append, take, ap, ◌∙◌, subst, sym, arith}
use Rattle.p9_log.specs.declared.crash.Crash.TheVariants.{Killed, Stopped}
use Rattle.p9_log.specs.Blocks.{content_in}
use Rattle.p9_log.specs.Log.{AlwaysHas}
use Rattle.p9_log.specs.Rest.{IsAtRest}
use Rattle.p9_log.proofs.Cuts.{nothing-new}
use Rattle.p9_log.proofs.Drafts.{as_it_was, begins_still, marked-has, marked-rest, put_leaves}
use Rattle.p9_log.proofs.Moments.{joined}
use Rattle.p9_log.proofs.Splits.{marks}
use Rattle.p9_log.proofs.log.Log.put_draft.Goals as goal

pub invariant_of-self : goal.invariant_of-self
invariant_of-self g c =
    let D = g.D.Device in
    let self = c.args.self.now in
    let seen = c.add_to_draft.ensures.seen in
    record {
      at_rest = λ usable. subst (λ file. IsAtRest file self.kept self.end) (sym seen) (self.at_rest usable);
      whole = λ usable. subst (λ file. self.size ≡ length file) (sym seen) (self.whole usable);
      durable = λ usable. begins_still D.seen D.moment D.may_leave D.left_since g.met.D.Device.alive g.met.D.Device.counts_now self.device c.add_to_draft.new.self
          (self.kept + 1) c.add_to_draft.ensures.crash seen (self.durable usable);
      synced = λ usable. subst (λ file. self.pending ≡ false → content_in Killed file ≡ content_in Stopped file) (sym seen) (self.synced usable);
      near = self.near;
      in_use = λ e. absurd cc;
      draft = λ e. absurd cc;
    }

pub returns-in_err-add_to_draft-clause-as_it_was : goal.returns-in_err-add_to_draft-clause-as_it_was
returns-in_err-add_to_draft-clause-as_it_was g c =
    let D = g.D.Device in
    as_it_was D.seen D.moment D.may_leave D.left_since g.met.D.Device.alive g.met.D.Device.counts_now c.args.self.now.device c.add_to_draft.new.self
    c.add_to_draft.ensures.crash c.add_to_draft.ensures.seen c.from_residual.result (IsTrue c.args.self.now.usable)

pub returns-in_err-add_to_draft-clause-any_moment : goal.returns-in_err-add_to_draft-clause-any_moment
returns-in_err-add_to_draft-clause-any_moment g c how =
    let D = g.D.Device in
    let start = c.args.self.now.device in
    let self = c.args.self.now in
    let mid = c.add_to_draft.new.self in
    let P : List ℕ → Type 0 = λ f. AlwaysHas (content_in Stopped (D.drafted start)) f in
    let first = nothing-new D.seen D.moment D.may_leave D.left_since g.met.D.Device.alive g.met.D.Device.counts_now how P start mid (c.add_to_draft.ensures.crash how) in
    first

pub returns-in_err-put_draft-clause-any_moment : goal.returns-in_err-put_draft-clause-any_moment
returns-in_err-put_draft-clause-any_moment g c how =
    let D = g.D.Device in
    let start = c.args.self.now.device in
    let self = c.args.self.now in
    let mid = c.add_to_draft.new.self in
    let P : List ℕ → Type 0 = λ f. AlwaysHas (content_in Stopped (D.drafted start)) f in
    let first = nothing-new D.seen D.moment D.may_leave D.left_since g.met.D.Device.alive g.met.D.Device.counts_now how P start mid (c.add_to_draft.ensures.crash how) in
    joined D.moment D.may_leave D.left_since how P start mid c.put_draft.new.self first
    (put_leaves D.seen D.moment D.may_leave D.left_since g.met.D.Device.alive g.met.D.Device.counts_now mid c.put_draft.new.self (D.drafted mid) how P
    (marked-has (D.drafted start) (D.drafted mid) self.drafted (self.draft c.if-not-self.false) c.in_ok-add_to_draft.ensures.drafted) (c.put_draft.ensures.crash how))

pub invariant_of-self-2 : goal.invariant_of-self-2
invariant_of-self-2 g c =
    let D = g.D.Device in
    let self = c.args.self.now in
    let d = self.draft c.if-not-self.false in
    let new = c.put_draft.new.self in
    let put = c.in_ok-put_draft.ensures.put in
    let is = put ∙ c.in_ok-add_to_draft.ensures.drafted in
    let has = marked-has (D.drafted self.device) (D.seen new) self.drafted d is in
    record {
      at_rest = λ _. marked-rest (D.drafted self.device) (D.seen new) self.drafted d is;
      whole = λ _. omega (arith, ap length is, length-append (D.drafted self.device) marks, d.size);
      durable = λ _ file now. ap (take (self.drafted + 1)) (c.in_ok-put_draft.ensures.durable file now ∙ sym put);
      synced = λ _ _. has Killed ∙ sym (has Stopped);
      near = λ _. omega (arith, d.near);
      in_use = λ e. absurd cc;
      draft = λ e. absurd cc;
    }

pub returns-clause-content : goal.returns-clause-content
returns-clause-content g c =
    let D = g.D.Device in
    let self = c.args.self.now in
    marked-has (D.drafted self.device) (D.seen c.put_draft.new.self) self.drafted (self.draft c.if-not-self.false)
    (c.in_ok-put_draft.ensures.put ∙ c.in_ok-add_to_draft.ensures.drafted)

pub returns-clause-any_moment : goal.returns-clause-any_moment
returns-clause-any_moment g c how =
    let D = g.D.Device in
    let start = c.args.self.now.device in
    let self = c.args.self.now in
    let mid = c.add_to_draft.new.self in
    let P : List ℕ → Type 0 = λ f. AlwaysHas (content_in Stopped (D.drafted start)) f in
    let first = nothing-new D.seen D.moment D.may_leave D.left_since g.met.D.Device.alive g.met.D.Device.counts_now how P start mid (c.add_to_draft.ensures.crash how) in
    joined D.moment D.may_leave D.left_since how P start mid c.put_draft.new.self first
    (put_leaves D.seen D.moment D.may_leave D.left_since g.met.D.Device.alive g.met.D.Device.counts_now mid c.put_draft.new.self (D.drafted mid) how P
    (marked-has (D.drafted start) (D.drafted mid) self.drafted (self.draft c.if-not-self.false) c.in_ok-add_to_draft.ensures.drafted) (c.put_draft.ensures.crash how))
