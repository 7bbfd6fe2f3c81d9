use Rattle.p9_restricted.proofs.MaskedFrames.{frames-are-masked}
use Rattle.p9_restricted.proofs.laws.frames_are_masked.Goals as goal

pub returns : goal.returns
returns c = frames-are-masked
