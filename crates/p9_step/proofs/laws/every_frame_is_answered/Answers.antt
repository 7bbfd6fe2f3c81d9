use Rattle.p9_step.proofs.Answering.{every-frame-is-answered}
use Rattle.p9_step.proofs.laws.every_frame_is_answered.Goals as goal

pub returns : goal.returns
returns c = every-frame-is-answered
