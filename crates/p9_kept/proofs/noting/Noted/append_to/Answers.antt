use Rattle.std.proofs.Common.{◌≡◌, List, ℕ, ap, subst, ◌∙◌}
use Rattle.p9_log.specs.Device.{LeavesOnly}
use Rattle.p9_log.specs.Log.{IsAppended}
use Rattle.p9_log.specs.Rest.{held}
use Rattle.p9_kept.proofs.noting.Noted.append_to.Goals as goal

pub returns-in_err-append-clause-any_moment : goal.returns-in_err-append-clause-any_moment
returns-in_err-append-clause-any_moment g c = λ how.
    let D = g.D.Device in
    let same : held c.as_mut_slice.result.now c.self.inside.end ≡ c.args.self.now =
    ap (λ (b : List ℕ). held b c.self.inside.end) c.as_mut_slice.ensures.value ∙ c.self.view_is in
    subst
    (λ (b : List ℕ). LeavesOnly D.moment D.left_since how (IsAppended how (D.seen c.args.log.now.device) b)
    c.args.log.now.device c.append.new.self.device)
    same (c.append.ensures.any_moment how)

pub returns-clause-any_moment : goal.returns-clause-any_moment
returns-clause-any_moment g c = λ how.
    let D = g.D.Device in
    let same : held c.as_mut_slice.result.now c.self.inside.end ≡ c.args.self.now =
    ap (λ (b : List ℕ). held b c.self.inside.end) c.as_mut_slice.ensures.value ∙ c.self.view_is in
    subst
    (λ (b : List ℕ). LeavesOnly D.moment D.left_since how (IsAppended how (D.seen c.args.log.now.device) b)
    c.args.log.now.device c.append.new.self.device)
    same (c.append.ensures.any_moment how)
