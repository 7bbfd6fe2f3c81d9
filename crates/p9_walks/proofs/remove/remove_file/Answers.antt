use Rattle.std.proofs.Common.{subst}
use Rattle.p9_space.specs.Rights.{who_view}
use Rattle.p9_step.specs.State.{who_of}
use Rattle.std.proofs.Common.{◌≡◌, true, false, Some, None, not, is_some, sym, ap, refl, ◌∙◌}
use Rattle.std.specs.Option.{option_copied}
use Rattle.p9_tree.specs.Forest.{has_children_of, node_of}
use Rattle.p9_step.specs.Rights.{may_write_parent}
use Rattle.p9_step.proofs.Ends.{node_of-inner}
use Rattle.p9_walks.proofs.Removals.{absent, removal-made}
use Rattle.p9_walks.proofs.remove.remove_file.Goals as goal

pub drop_leaf-requires-clause-not_root : goal.drop_leaf-requires-clause-not_root
drop_leaf-requires-clause-not_root g c =
    let forest = c.args.forest.now in
    let found : node_of c.file-at.result forest ≡ Some c.in-Some.file.now =
    sym c.node.ensures ∙ ap option_copied c.in-Some.is in
    let inner : is_some c.parent-parent.result ≡ true =
    c.is_none.ensures ∙ ap not c.if-is_none.false in
    node_of-inner forest c.file-at.result c.in-Some.file.now c.well_formed-2.ensures found
    (rw (← c.parent-parent.ensures) inner)

pub returns : goal.returns
returns g c = λ left.
    let forest = c.args.forest.now in
    let found : node_of c.file-at.result forest ≡ Some c.in-Some.file.now =
    sym c.node.ensures ∙ ap option_copied c.in-Some.is in
    let inner : is_some c.parent-parent.result ≡ true =
    c.is_none.ensures ∙ ap not c.if-is_none.false in
    let asked : may_write_parent (who_view c.who.result) forest c.file-at.result
    c.in-Some.file.now ≡ true =
    sym c.may_write_parent.ensures ∙ c.if-not-may_write_parent.false in
    let permitted : may_write_parent (who_of c.args.setting.now c.args.fid.now.fid.user) forest
    c.file-at.result c.in-Some.file.now ≡ true = rw (← c.fid.view_is)
    (subst (λ w. may_write_parent w forest c.file-at.result c.in-Some.file.now ≡ true)
    c.who.ensures asked) in
    let gone : c.after.result ≡ None = absent _ (sym c.is_some.ensures ∙ c.if-is_some.false) in
    let none = rw gone at c.after.ensures in
    let empty : has_children_of c.file-at.result forest ≡ false = rw (← none) refl in
    removal-made c.args.setting.now forest _ _ left c.args.clock c.args.fid.now.fid c.file-at.result
    c.in-Some.file.now c.file-at.ensures found (rw (← c.parent-parent.ensures) inner) permitted
    empty c.drop_leaf.ensures
    (rw (← c.parent-parent.ensures, ← c.fid.view_is) c.mark_parent.ensures)
