use Rattle.p9_fids.proofs.Popped.{fids-popped, fit-popped, fits-popped, popped-none, popped-some}
use Rattle.p9_fids.proofs.table.FidTable.take_first.Goals as goal

pub invariant_of-self : goal.invariant_of-self
invariant_of-self g c =
    fids-popped c.pop_first.result c.self.inside.fids.entries _ c.pop_first.ensures.removal
    c.pop_first.ensures.unchanged c.self.invariant

pub returns-clause-some : goal.returns-clause-some
returns-clause-some g c =
    rw (← c.self.view_is)
    (popped-some c.pop_first.result c.self.inside.fids.entries _ c.pop_first.ensures.removal)

pub returns-clause-none : goal.returns-clause-none
returns-clause-none g c =
    rw (← c.self.view_is)
    (popped-none c.pop_first.result c.self.inside.fids.entries _ c.pop_first.ensures.variant
    c.pop_first.ensures.unchanged)

pub returns-clause-value_fits : goal.returns-clause-value_fits
returns-clause-value_fits g c =
    λ table fit.
    fits-popped table c.pop_first.result c.self.inside.fids.entries _ c.pop_first.ensures.removal
    (rw (← c.self.view_is) at fit)

pub returns-clause-after_fits : goal.returns-clause-after_fits
returns-clause-after_fits g c =
    λ table fit.
    fit-popped table c.pop_first.result c.self.inside.fids.entries _ c.pop_first.ensures.removal
    c.pop_first.ensures.unchanged (rw (← c.self.view_is) at fit)
