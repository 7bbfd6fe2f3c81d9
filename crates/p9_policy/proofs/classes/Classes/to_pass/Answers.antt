use Rattle.std.specs.Str.{bytes_eq}
use Rattle.p9_base.specs.Group.{is_member, leads}
use Rattle.p9_table.specs.Rights.{Who}
use Rattle.p9_policy.proofs.ByClass.{pass-by-classes}
use Rattle.p9_policy.proofs.classes.Classes.to_pass.Goals as goal

pub returns-clause-who : goal.returns-clause-who
returns-clause-who g c =
    let n = c.args.dir.now in
    λ (who : Who). rw c.mode.ensures
    (pass-by-classes n.mode.permissions (bytes_eq n.uid who.user) (is_member who.groups n.gid who.user)
    (leads who.groups n.gid who.user))
