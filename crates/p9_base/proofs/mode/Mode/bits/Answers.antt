use Rattle.std.proofs.Common.{arith}
use Rattle.p9_base.proofs.Modes.{mode_bits-injective}
use Rattle.p9_base.proofs.mode.Mode.bits.Goals as goal

pub returns-clause-inverse : goal.returns-clause-inverse
returns-clause-inverse c mode e =
    mode_bits-injective mode c.args.self
    (omega (arith, e, c.bits.ensures.value, c.bits-2.ensures.value))
