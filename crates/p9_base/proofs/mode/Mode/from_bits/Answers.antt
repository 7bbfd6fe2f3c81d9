use Rattle.p9_base.proofs.Modes.{kind_bits-mode_bits}
use Rattle.p9_base.proofs.mode.Mode.from_bits.Goals as goal

pub returns-in_err-kind-clause-none : goal.returns-in_err-kind-clause-none
returns-in_err-kind-clause-none c =
    rw c.from_residual.ensures
    (λ mode e. c.in_err-kind.ensures.none mode.kind (kind_bits-mode_bits mode c.args.bits e))
