use Rattle.std.proofs.Common.{◌-◌, arith}
use Rattle.p9_space.proofs.ChannelRows.{rows-shorter}
use Rattle.p9_space.proofs.way.Way.step_up.Goals as goal

pub returns-then-self-gt1-clause-fits : goal.returns-then-self-gt1-clause-fits
returns-then-self-gt1-clause-fits c =
    λ table fits.
    rows-shorter table c.self.inside.places c.self.inside.rows (c.self.inside.len - 1)
    c.self.inside.len (omega arith) (rw (← c.self.view_is) at fits)
