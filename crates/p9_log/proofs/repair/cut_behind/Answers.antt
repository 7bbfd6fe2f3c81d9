use Rattle.std.proofs.Common.{◌≡◌, ℕ, ◌+◌, min, List, take, ap, subst, ◌∙◌}
use Rattle.p9_log.specs.Reading.{IsCutBehind, IsCutTo}
use Rattle.p9_log.proofs.Cuts.{nothing-new, first-cut, second-cut}
use Rattle.p9_log.proofs.Moments.{joined, weaker}
use Rattle.p9_log.proofs.repair.cut_behind.Goals as goal

pub returns-in_err-sync-clause-any_moment : goal.returns-in_err-sync-clause-any_moment
returns-in_err-sync-clause-any_moment g c kind =
    nothing-new g.D.Device.seen g.D.Device.moment g.D.Device.may_leave g.D.Device.left_since g.met.D.Device.alive g.met.D.Device.counts_now
    kind (IsCutBehind c.args.end (g.D.Device.seen c.args.device.now)) c.args.device.now c.sync.new.self (c.sync.ensures.crash kind)

pub returns-in_err-cut_to-clause-any_moment : goal.returns-in_err-cut_to-clause-any_moment
returns-in_err-cut_to-clause-any_moment g c kind =
    let D = g.D.Device in
    let start = c.args.device.now in
    let P : List ℕ → Type 0 = λ file. IsCutBehind c.args.end (D.seen start) file in
    let to = c.args.end + c.min.result in
    let to_is : to ≡ c.args.end + min c.args.behind 10 = ap (λ (n : ℕ). c.args.end + n) c.min.ensures in
    let one = nothing-new D.seen D.moment D.may_leave D.left_since g.met.D.Device.alive g.met.D.Device.counts_now kind P start c.sync.new.self (c.sync.ensures.crash kind) in
    let two = joined D.moment D.may_leave D.left_since kind P start c.sync.new.self c.cut_to.new.device one
    (weaker D.moment D.left_since kind (IsCutTo to (D.seen c.sync.new.self)) P c.sync.new.self c.cut_to.new.device (c.cut_to.ensures.any_moment kind)
    (λ file cut. first-cut c.args.end c.args.behind to (D.seen start) file c.requires.ends to_is (subst (λ (f : List ℕ). IsCutTo to f file) c.sync.ensures.seen cut))) in
    two

pub returns-clause-any_moment : goal.returns-clause-any_moment
returns-clause-any_moment g c kind =
    let D = g.D.Device in
    let start = c.args.device.now in
    let P : List ℕ → Type 0 = λ file. IsCutBehind c.args.end (D.seen start) file in
    let to = c.args.end + c.min.result in
    let to_is : to ≡ c.args.end + min c.args.behind 10 = ap (λ (n : ℕ). c.args.end + n) c.min.ensures in
    let one = nothing-new D.seen D.moment D.may_leave D.left_since g.met.D.Device.alive g.met.D.Device.counts_now kind P start c.sync.new.self (c.sync.ensures.crash kind) in
    let two = joined D.moment D.may_leave D.left_since kind P start c.sync.new.self c.cut_to.new.device one
    (weaker D.moment D.left_since kind (IsCutTo to (D.seen c.sync.new.self)) P c.sync.new.self c.cut_to.new.device (c.cut_to.ensures.any_moment kind)
    (λ file cut. first-cut c.args.end c.args.behind to (D.seen start) file c.requires.ends to_is (subst (λ (f : List ℕ). IsCutTo to f file) c.sync.ensures.seen cut))) in
    joined D.moment D.may_leave D.left_since kind P start c.cut_to.new.device c.cut_to-2.new.device two
    (weaker D.moment D.left_since kind (IsCutTo c.args.end (D.seen c.cut_to.new.device)) P c.cut_to.new.device c.cut_to-2.new.device (c.cut_to-2.ensures.any_moment kind)
    (λ file. second-cut c.args.end c.args.behind to (D.seen start) (D.seen c.cut_to.new.device) file c.requires.ends to_is (c.in_ok-cut_to.ensures.seen ∙ ap (take to) c.sync.ensures.seen)))
