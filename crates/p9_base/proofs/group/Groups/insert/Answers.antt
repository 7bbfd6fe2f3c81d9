use Rattle.p9_base.proofs.GroupNames.{groups-listed}
use Rattle.p9_base.proofs.group.Groups.insert.Goals as goal

pub invariant_of-self-2 : goal.invariant_of-self-2
invariant_of-self-2 g c =
    rw c.in_ok-insert.ensures.entries
    (groups-listed c.args.name c.args.group c.as_str-valid.ensures.valid c.self.inside.by_name.entries
    c.self.invariant)

pub returns-clause-ok : goal.returns-clause-ok
returns-clause-ok g c = rw (← c.self.view_is) c.in_ok-insert.ensures.entries
