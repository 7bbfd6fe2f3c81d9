use Rattle.std.proofs.Common.{[]}
use Rattle.p9_step.specs.Event.{Open}
use Rattle.p9_guard.specs.Marks.{is_refused}
use Rattle.p9_guard.proofs.Marks.{has_opened}
use Rattle.p9_guard.proofs.Promises.{one_promised, one_stays}
use Rattle.p9_guard.proofs.guard.Guard.open.Goals as goal

pub invariant_of-self : goal.invariant_of-self
invariant_of-self g c =
    let did = has_opened c.self.inside.export c.args.name c.open.new.self c.open.result
    c.open.ensures.ok c.open.ensures.live c.open.ensures.unchanged in
    one_stays c.self.inside.hidden.items _ c.self.inside.export c.open.new.self (Open c.args.name)
    (is_refused c.open.result) [] c.self.invariant tt did.state_is did.silent did.permitted

pub returns-clause-promised : goal.returns-clause-promised
returns-clause-promised g c =
    let did = has_opened c.self.inside.export c.args.name c.open.new.self c.open.result
    c.open.ensures.ok c.open.ensures.live c.open.ensures.unchanged in
    rw (← c.self.view_is)
    (one_promised c.self.inside.hidden.items _ c.self.inside.export c.open.new.self
    (Open c.args.name) (is_refused c.open.result) [] c.self.invariant tt did.state_is did.silent
    did.permitted)
