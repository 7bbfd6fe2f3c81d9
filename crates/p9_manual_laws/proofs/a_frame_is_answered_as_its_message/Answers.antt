use Rattle.p9_manual_laws.proofs.Frames.{frame_is_asked}
use Rattle.p9_manual_laws.proofs.a_frame_is_answered_as_its_message.Goals as goal

pub returns : goal.returns
returns c = frame_is_asked
