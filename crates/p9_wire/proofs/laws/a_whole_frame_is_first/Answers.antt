use Rattle.p9_wire.proofs.Streams.{first_frame-whole, frame-first-append}
use Rattle.p9_wire.proofs.laws.a_whole_frame_is_first.Goals as goal

pub returns-clause-first : goal.returns-clause-first
returns-clause-first c = frame-first-append

pub returns-clause-whole : goal.returns-clause-whole
returns-clause-whole c = first_frame-whole
