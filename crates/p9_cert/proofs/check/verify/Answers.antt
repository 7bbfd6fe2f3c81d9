use Rattle.std.proofs.Common.{◌≡◌, List, subst}
use Rattle.std.specs.Result.{result_err}
use Rattle.p9_base.specs.declared.node_ref.NodeRef.{NodeRef}
use Rattle.p9_tree.specs.Forest.{IsForest}
use Rattle.p9_world.specs.World.{World}
use Rattle.p9_policy.specs.Policy.{policy_of}
use Rattle.p9_cert.specs.Gap.{first_gap}
use Rattle.p9_cert.proofs.Gaps.{accepted}
use Rattle.p9_cert.proofs.check.verify.Goals as goal

pub returns-clause-closed : goal.returns-clause-closed
returns-clause-closed g c =
    let world = c.args.world.now in
    accepted (policy_of world) world.forest c.args.table.now c.args.certificate.now c.check.result
    (subst (λ (w : World). IsForest w.forest) c.world.view_is c.well_formed-2.ensures)
    (subst (λ (rows : List NodeRef). result_err c.check.result
    ≡ first_gap (policy_of world) world.forest c.args.table.now rows)
    c.rows.ensures.rows c.check.ensures)
