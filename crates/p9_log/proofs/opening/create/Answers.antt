use Rattle.std.proofs.Common.{subst, sym}
use Rattle.p9_log.specs.Device.{LeavesOnly}
use Rattle.p9_log.specs.Log.{IsCreated}
use Rattle.p9_log.proofs.opening.create.Goals as goal

pub returns-in-Ok-clause-any_moment : goal.returns-in-Ok-clause-any_moment
returns-in-Ok-clause-any_moment g c kind =
    let D = g.D.Device in
    subst (LeavesOnly D.moment D.left_since kind (IsCreated kind (D.seen c.args.device)) c.args.device)
    (sym c.at_rest.ensures.device) (c.empty.ensures.any_moment kind)
