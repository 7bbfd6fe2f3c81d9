use Rattle.p9_cert.proofs.Gaps.{no_gap_is_closed}
use Rattle.p9_cert.proofs.laws.no_gap_is_closed.Goals as goal

pub returns : goal.returns
returns c = no_gap_is_closed
