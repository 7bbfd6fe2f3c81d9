use Rattle.std.proofs.Common.{length, ◌≤◌, ◌≡◌, ℕ, List, [], inl, inr, ap, refl, subst, sym, ◌∙◌}
use Rattle.p9_log.specs.declared.crash.Crash.{Crash}
use Rattle.p9_log.specs.declared.crash.Crash.TheVariants.{Stopped}
use Rattle.p9_log.specs.Blocks.{content_in}
use Rattle.p9_log.specs.Log.{IsCreated, StillHas}
use Rattle.p9_log.specs.Reading.{IsCutTo}
use Rattle.p9_log.specs.Rest.{Runs}
use Rattle.p9_log.proofs.Cuts.{nothing-new}
use Rattle.p9_log.proofs.Kept.{follows}
use Rattle.p9_log.proofs.Moments.{joined, weaker}
use Rattle.p9_log.proofs.Readings.{content-stop}
use Rattle.p9_log.proofs.opening.empty.Goals as goal

-- nothing is in an empty file
none : (file : List ℕ) → file ≡ [] → content_in Stopped file ≡ []
none file is = ap (content_in Stopped) is ∙ content-stop Stopped [] refl

pub mark_end-requires-clause-blocks : goal.mark_end-requires-clause-blocks
mark_end-requires-clause-blocks g c =
    let now = g.D.Device.seen c.cut_to.new.device in
    let is : now ≡ [] = c.in_ok-cut_to.ensures.seen in
    λ how. subst (λ file. Runs how file (content_in Stopped now) how) (sym is)
    (subst (λ content. Runs how [] content how) (sym (none now is)) (λ more. refl))

pub returns-in_err-sync-clause-any_moment : goal.returns-in_err-sync-clause-any_moment
returns-in_err-sync-clause-any_moment g c kind =
    let D = g.D.Device in
    let start = c.args.device.now in
    let P : List ℕ → Type 0 = λ file. IsCreated kind (D.seen start) file in
    let synced = nothing-new D.seen D.moment D.may_leave D.left_since g.met.D.Device.alive g.met.D.Device.counts_now kind P start c.sync.new.self (c.sync.ensures.crash kind) in
    synced

pub returns-in_err-cut_to-clause-any_moment : goal.returns-in_err-cut_to-clause-any_moment
returns-in_err-cut_to-clause-any_moment g c kind =
    let D = g.D.Device in
    let start = c.args.device.now in
    let P : List ℕ → Type 0 = λ file. IsCreated kind (D.seen start) file in
    let synced = nothing-new D.seen D.moment D.may_leave D.left_since g.met.D.Device.alive g.met.D.Device.counts_now kind P start c.sync.new.self (c.sync.ensures.crash kind) in
    let cut = joined D.moment D.may_leave D.left_since kind P start c.sync.new.self c.cut_to.new.device synced
    (weaker D.moment D.left_since kind (IsCutTo 0 (D.seen c.sync.new.self)) P c.sync.new.self c.cut_to.new.device (c.cut_to.ensures.any_moment kind)
    (λ file so. inl (subst (λ (f : List ℕ). length file ≤ length f) c.sync.ensures.seen so.2))) in
    cut

pub returns-clause-content : goal.returns-clause-content
returns-clause-content g c =
    let D = g.D.Device in
    let mid = c.cut_to.new.device in
    let is : D.seen mid ≡ [] = c.in_ok-cut_to.ensures.seen in
    follows c.mark_end.result _ _ c.mark_end.ensures.content
    (λ (has : (next : Crash) → content_in next (D.seen c.mark_end.new.device) ≡ content_in Stopped (D.seen mid)) next. has next ∙ none (D.seen mid) is)

pub returns-clause-any_moment : goal.returns-clause-any_moment
returns-clause-any_moment g c kind =
    let D = g.D.Device in
    let start = c.args.device.now in
    let P : List ℕ → Type 0 = λ file. IsCreated kind (D.seen start) file in
    let synced = nothing-new D.seen D.moment D.may_leave D.left_since g.met.D.Device.alive g.met.D.Device.counts_now kind P start c.sync.new.self (c.sync.ensures.crash kind) in
    let cut = joined D.moment D.may_leave D.left_since kind P start c.sync.new.self c.cut_to.new.device synced
    (weaker D.moment D.left_since kind (IsCutTo 0 (D.seen c.sync.new.self)) P c.sync.new.self c.cut_to.new.device (c.cut_to.ensures.any_moment kind)
    (λ file so. inl (subst (λ (f : List ℕ). length file ≤ length f) c.sync.ensures.seen so.2))) in
    let mid = c.cut_to.new.device in
    let is : D.seen mid ≡ [] = c.in_ok-cut_to.ensures.seen in
    joined D.moment D.may_leave D.left_since kind P start mid c.mark_end.new.device cut
    (weaker D.moment D.left_since kind (StillHas kind (content_in Stopped (D.seen mid))) P mid c.mark_end.new.device
    (c.mark_end.ensures.any_moment kind) (λ file still. inr (subst (λ content. StillHas kind content file) (none (D.seen mid) is) still)))
