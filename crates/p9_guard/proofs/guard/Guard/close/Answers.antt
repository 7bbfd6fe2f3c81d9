use Rattle.std.proofs.Common.{false, [], refl}
use Rattle.p9_step.specs.Event.{Close}
use Rattle.p9_guard.proofs.Promises.{closing_is_silent, one_promised, one_stays}
use Rattle.p9_guard.proofs.guard.Guard.close.Goals as goal

pub invariant_of-self : goal.invariant_of-self
invariant_of-self g c =
    one_stays c.self.inside.hidden.items _ c.self.inside.export c.close.new.self
    (Close c.args.name c.args.clock) false [] c.self.invariant c.ranges.clock.fits c.close.ensures
    (closing_is_silent c.self.inside.export c.args.name c.args.clock) refl

pub returns-clause-promised : goal.returns-clause-promised
returns-clause-promised g c =
    rw (← c.self.view_is)
    (one_promised c.self.inside.hidden.items _ c.self.inside.export c.close.new.self
    (Close c.args.name c.args.clock) false [] c.self.invariant c.ranges.clock.fits c.close.ensures
    (closing_is_silent c.self.inside.export c.args.name c.args.clock) refl)
