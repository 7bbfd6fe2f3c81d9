use Rattle.std.proofs.Common.{◌∙◌, sym}
use Rattle.p9_step.proofs.Ends.{removed_leaf}
use Rattle.p9_walks.proofs.end.end_fid.Goals as goal

pub drop_leaf-requires-clause-not_root : goal.drop_leaf-requires-clause-not_root
drop_leaf-requires-clause-not_root g c =
    (removed_leaf c.args.setting.now.table _ c.args.fid.now.fid c.file-at.result c.in-Some.file.now
    c.well_formed-2.ensures c.requires.opened
    (sym c.removes_on_close.ensures ∙ c.if-not-removes_on_close.false) c.file-at.ensures
    (sym c.in-Some.ensures)).not_root

pub drop_leaf-requires-clause-empty : goal.drop_leaf-requires-clause-empty
drop_leaf-requires-clause-empty g c =
    (removed_leaf c.args.setting.now.table _ c.args.fid.now.fid c.file-at.result c.in-Some.file.now
    c.well_formed-2.ensures c.requires.opened
    (sym c.removes_on_close.ensures ∙ c.if-not-removes_on_close.false) c.file-at.ensures
    (sym c.in-Some.ensures)).empty
