use Rattle.std.proofs.Common.{subst, sym}
use Rattle.p9_tree.specs.Forest.{IsForest}
use Rattle.p9_world.specs.World.{World}
use Rattle.p9_policy.specs.Policy.{policy_of}
use Rattle.p9_cert.proofs.Faults.{not_barred}
use Rattle.p9_cert.proofs.check.check_row.Goals as goal

pub returns-in-None-clause-outside : goal.returns-in-None-clause-outside
returns-in-None-clause-outside g c =
    not_barred (policy_of c.args.world.now) c.args.world.now.forest c.args.row
    (subst (λ (w : World). IsForest w.forest) c.world.view_is c.well_formed-2.ensures)
    (sym c.in-None.ensures)
