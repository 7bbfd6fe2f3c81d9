use Rattle.p9_restricted.proofs.Pieces.{pieces-are-masked}
use Rattle.p9_restricted.proofs.laws.pieces_are_masked.Goals as goal

pub returns : goal.returns
returns g c = pieces-are-masked g.row.S.Denot
