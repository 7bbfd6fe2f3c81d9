use Rattle.std.proofs.Common.{ℕ, List, subst, ◌∙◌, ap, sym}
use Rattle.p9_log.specs.declared.crash.Crash.{Crash}
use Rattle.p9_log.specs.Blocks.{content_in}
use Rattle.p9_log.specs.Device.{LeavesOnly}
use Rattle.p9_log.specs.Log.{IsRecovered}
use Rattle.p9_log.proofs.Cuts.{nothing-new}
use Rattle.p9_log.proofs.Moments.{joined}
use Rattle.p9_log.proofs.Repaired.{content-is}
use Rattle.p9_log.proofs.opening.reopen.Goals as goal

pub returns-in_err-file-clause-any_moment : goal.returns-in_err-file-clause-any_moment
returns-in_err-file-clause-any_moment g c kind =
    let D = g.D.Device in
    nothing-new D.seen D.moment D.may_leave D.left_since g.met.D.Device.alive g.met.D.Device.counts_now kind
    (IsRecovered c.args.how kind (D.seen c.args.device.now)) c.args.device.now c.read.new.self (c.read.ensures.crash kind)

pub returns-in_err-found-clause-any_moment : goal.returns-in_err-found-clause-any_moment
returns-in_err-found-clause-any_moment g c kind =
    let D = g.D.Device in
    nothing-new D.seen D.moment D.may_leave D.left_since g.met.D.Device.alive g.met.D.Device.counts_now kind
    (IsRecovered c.args.how kind (D.seen c.args.device.now)) c.args.device.now c.read.new.self (c.read.ensures.crash kind)

pub returns-then-found-gt-MOST-clause-any_moment : goal.returns-then-found-gt-MOST-clause-any_moment
returns-then-found-gt-MOST-clause-any_moment g c kind =
    let D = g.D.Device in
    nothing-new D.seen D.moment D.may_leave D.left_since g.met.D.Device.alive g.met.D.Device.counts_now kind
    (IsRecovered c.args.how kind (D.seen c.args.device.now)) c.args.device.now c.read.new.self (c.read.ensures.crash kind)

pub returns-in_err-repair-clause-any_moment : goal.returns-in_err-repair-clause-any_moment
returns-in_err-repair-clause-any_moment g c kind =
    let D = g.D.Device in
    let start = c.args.device.now in
    let P : Crash → List ℕ → Type 0 = λ k f. IsRecovered c.args.how k (D.seen start) f in
    joined D.moment D.may_leave D.left_since kind (P kind) start c.read.new.self c.repair.new.device
    (nothing-new D.seen D.moment D.may_leave D.left_since g.met.D.Device.alive g.met.D.Device.counts_now kind (P kind) start c.read.new.self (c.read.ensures.crash kind))
    (subst (λ (file : List ℕ). LeavesOnly D.moment D.left_since kind (IsRecovered c.args.how kind file) c.read.new.self c.repair.new.device) c.read.ensures.seen (c.repair.ensures.any_moment kind))

pub returns-clause-any_moment : goal.returns-clause-any_moment
returns-clause-any_moment g c kind =
    let D = g.D.Device in
    let start = c.args.device.now in
    let P : Crash → List ℕ → Type 0 = λ k f. IsRecovered c.args.how k (D.seen start) f in
    joined D.moment D.may_leave D.left_since kind (P kind) start c.read.new.self c.repair.new.device
    (nothing-new D.seen D.moment D.may_leave D.left_since g.met.D.Device.alive g.met.D.Device.counts_now kind (P kind) start c.read.new.self (c.read.ensures.crash kind))
    (subst (λ (file : List ℕ). LeavesOnly D.moment D.left_since kind (IsRecovered c.args.how kind file) c.read.new.self c.repair.new.device) c.read.ensures.seen (c.repair.ensures.any_moment kind))

pub returns-clause-bytes : goal.returns-clause-bytes
returns-clause-bytes g c =
    let found = c.in_ok-found.found in
    sym (content-is c.args.how c.deref.result.now found.bytes.items found.end found.behind found.kept c.in_ok-found.ensures.found)
    ∙ ap (content_in c.args.how) (c.deref.ensures.value ∙ c.in_ok-file.ensures.bytes)
