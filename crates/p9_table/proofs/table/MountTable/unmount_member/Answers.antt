use Rattle.std.proofs.Common.{◌≡◌, ◌≤◌, ◌<◌, ◌∙◌, length, Ok, Some, ap, sym, subst, rules, arith}
use Rattle.std.specs.List.{position}
use Rattle.std.proofs.lemmas.Map.Steps.{set_value_same}
use Rattle.p9_base.specs.NodeRef.{same_node}
use Rattle.p9_table.proofs.Tables.{IsTable-with_row, length-remove-some, set_value-with_row}
use Rattle.p9_table.proofs.Tables.{without_member-more, without_member-one}
use Rattle.p9_table.specs.Row.{is_of}
use Rattle.p9_table.specs.Table.{IsTable, row_of, without_row}
use Rattle.p9_table.proofs.table.MountTable.unmount_member.Goals as goal

pub invariant_of-self-in_default-position : goal.invariant_of-self-in_default-position
invariant_of-self-in_default-position g c =
    let row = c.in-Some.row.now in
    let rows = c.self.inside.rows.entries in
    let found : row_of c.args.key rows ≡ Some row = search rules in
    let same : (c.get_mut.follows.lender row).entries ≡ rows =
    (c.get_mut.follows.holds row).0 ∙ set_value_same (same_node c.args.key) rows row found in
    subst IsTable (sym same) c.self.invariant

pub returns-in_default-position-clause-unchanged : goal.returns-in_default-position-clause-unchanged
returns-in_default-position-clause-unchanged g c =
    let row = c.in-Some.row.now in
    let rows = c.self.inside.rows.entries in
    let found : row_of c.args.key rows ≡ Some row = search rules in
    let same : (c.get_mut.follows.lender row).entries ≡ rows =
    (c.get_mut.follows.holds row).0 ∙ set_value_same (same_node c.args.key) rows row found in
    same ∙ c.self.view_is

pub invariant_of-self-then-as_slice-gt1 : goal.invariant_of-self-then-as_slice-gt1
invariant_of-self-then-as_slice-gt1 g c =
    let row = c.in-Some.row.now in
    let rows = c.self.inside.rows.entries in
    let found : row_of c.args.key rows ≡ Some row = search rules in
    let len = ap length c.as_slice.ensures in
    let others : 1 < length row = omega arith in
    let some =
    length-remove-some row c.in-Some-position.position c.in-Some-position.ensures.within others in
    let change =
    set_value-with_row _ _ c.args.key _ _ found (c.get_mut.follows.holds c.remove.new.self).0 in
    IsTable-with_row _ _ c.args.key _ change (rw c.remove.ensures some)
    (c.get_mut.follows.holds c.remove.new.self).4 c.self.invariant

pub returns-then-as_slice-gt1-clause-ok : goal.returns-then-as_slice-gt1-clause-ok
returns-then-as_slice-gt1-clause-ok g c =
    let row = c.in-Some.row.now in
    let rows = c.self.inside.rows.entries in
    let found : row_of c.args.key rows ≡ Some row = search rules in
    let seen : row_of c.args.key c.args.self.now ≡ Some row = search rules in
    let first : position (is_of c.args.node) row ≡ Some c.in-Some-position.position =
    search rules in
    let len = ap length c.as_slice.ensures in
    let others : 1 < length row = omega arith in
    let change =
    set_value-with_row _ _ c.args.key _ _ found (c.get_mut.follows.holds c.remove.new.self).0 in
    without_member-more c.args.key c.args.node c.args.self.now row c.in-Some-position.position seen
    first c.in-Some-position.ensures.within others
    ∙ ap Ok (sym (change ∙ rw (c.remove.ensures, c.self.view_is)))

pub invariant_of-self-else-as_slice-gt1 : goal.invariant_of-self-else-as_slice-gt1
invariant_of-self-else-as_slice-gt1 g c =
    let row = c.in-Some.row.now in
    let rows = c.self.inside.rows.entries in
    let found : row_of c.args.key rows ≡ Some row = search rules in
    let same : (c.get_mut.follows.lender row).entries ≡ rows =
    (c.get_mut.follows.holds row).0 ∙ set_value_same (same_node c.args.key) rows row found in
    subst IsTable (sym same) c.self.invariant

pub returns-else-as_slice-gt1-clause-ok : goal.returns-else-as_slice-gt1-clause-ok
returns-else-as_slice-gt1-clause-ok g c =
    let row = c.in-Some.row.now in
    let rows = c.self.inside.rows.entries in
    let found : row_of c.args.key rows ≡ Some row = search rules in
    let seen : row_of c.args.key c.args.self.now ≡ Some row = search rules in
    let same : (c.get_mut.follows.lender row).entries ≡ rows =
    (c.get_mut.follows.holds row).0 ∙ set_value_same (same_node c.args.key) rows row found in
    let first : position (is_of c.args.node) row ≡ Some c.in-Some-position.position =
    search rules in
    let len = ap length c.as_slice.ensures in
    let one : length row ≤ 1 = omega arith in
    without_member-one c.args.key c.args.node c.args.self.now row c.in-Some-position.position seen
    first c.in-Some-position.ensures.within one
    ∙ ap Ok (sym (c.remove_row.ensures.removed ∙ ap (without_row c.args.key) (same ∙ c.self.view_is)))
