use Rattle.std.proofs.Common.{◌≡◌, rules}
use Rattle.p9_table.proofs.Tables.{members_of-some}
use Rattle.p9_table.specs.Table.{members_of}
use Rattle.p9_table.proofs.table.MountTable.members.Goals as goal

pub returns-clause-not_empty : goal.returns-clause-not_empty
returns-clause-not_empty g c =
    let e : c.new.result ≡ members_of c.args.key c.self.inside.rows.entries = search rules in
    rw e (members_of-some c.args.key c.self.inside.rows.entries c.self.invariant)
