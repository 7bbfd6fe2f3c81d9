use Rattle.p9_wire.proofs.Streams.{begins_frames, first_frame-append}
use Rattle.p9_wire.proofs.laws.frames_begin_at_the_front.Goals as goal

pub returns-clause-first : goal.returns-clause-first
returns-clause-first c = begins_frames

pub returns-clause-later : goal.returns-clause-later
returns-clause-later c = first_frame-append
