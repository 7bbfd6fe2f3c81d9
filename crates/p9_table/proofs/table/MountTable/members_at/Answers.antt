use Rattle.std.proofs.Common.{◌≡◌, ◌∙◌, [], ◌∷◌, ap, sym, true, unwrap_or}
use Rattle.p9_table.specs.Row.{member}
use Rattle.p9_table.specs.Table.{members_of}
use Rattle.p9_table.proofs.Rows.{row_at-position, row_of-none}
use Rattle.p9_table.proofs.Tables.{members_of-some}
use Rattle.p9_table.proofs.table.MountTable.members_at.Goals as goal

pub returns-in-Some-clause-members : goal.returns-in-Some-clause-members
returns-in-Some-clause-members g c =
    c.new.ensures
    ∙ ap (λ row. unwrap_or row (member true c.args.key ∷ []))
    (c.members_of_row.ensures
    ∙ row_at-position c.args.key c.args.self.now c.in-Some.position
    (sym c.requires ∙ c.in-Some.is))

pub returns-in-Some-clause-not_empty : goal.returns-in-Some-clause-not_empty
returns-in-Some-clause-not_empty g c =
    let e : c.new.result ≡ members_of c.args.key c.args.self.now =
    c.new.ensures
    ∙ ap (λ row. unwrap_or row (member true c.args.key ∷ []))
    (c.members_of_row.ensures
    ∙ row_at-position c.args.key c.args.self.now c.in-Some.position
    (sym c.requires ∙ c.in-Some.is)) in
    rw e (members_of-some c.args.key c.args.self.now c.well_formed-2.ensures)

pub returns-in-None-clause-members : goal.returns-in-None-clause-members
returns-in-None-clause-members g c =
    c.new-in-None.ensures
    ∙ sym (ap (λ row. unwrap_or row (member true c.args.key ∷ []))
    (row_of-none c.args.key c.args.self.now (sym c.requires ∙ c.in-None.is)))
