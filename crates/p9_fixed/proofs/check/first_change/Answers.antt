use Rattle.std.proofs.Common.{◌∙◌, ap, subst, sym}
use Rattle.p9_tree.specs.Forest.{IsForest}
use Rattle.p9_world.specs.World.{World}
use Rattle.p9_cert.specs.Policy.{policy_of}
use Rattle.p9_fixed.specs.Change.{first_change}
use Rattle.p9_fixed.proofs.Changers.{found_by}
use Rattle.p9_fixed.proofs.Changes.{no_change_is_fixed}
use Rattle.p9_fixed.proofs.check.first_change.Goals as goal

pub returns-clause-fixed : goal.returns-clause-fixed
returns-clause-fixed g c =
    let world = c.args.world.now in
    let table = c.args.table.now in
    let sound = subst (λ (w : World). IsForest w.forest) c.world.view_is c.well_formed-2.ensures in
    let same =
    c.change_among-change.ensures
    ∙ ap (first_change (policy_of world) world.forest table) c.rows.ensures.rows in
    let law =
    no_change_is_fixed (policy_of world) world.forest table c.args.certificate.now sound in
    (λ none. law.0 (sym same ∙ none), λ fixed. same ∙ law.1 fixed)

pub returns-clause-by : goal.returns-clause-by
returns-clause-by g c =
    let world = c.args.world.now in
    let table = c.args.table.now in
    found_by (policy_of world) world.forest table c.args.certificate.now
    c.change_among-change.result
    (c.change_among-change.ensures
    ∙ ap (first_change (policy_of world) world.forest table) c.rows.ensures.rows)
