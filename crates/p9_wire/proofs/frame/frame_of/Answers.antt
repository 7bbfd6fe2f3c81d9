use Rattle.std.proofs.Common.{rules}
use Rattle.p9_wire.specs.declared.frame.Frame.TheVariants.{Need, Whole, Broken}
use Rattle.p9_wire.proofs.Streams.{begins_frames_as}
use Rattle.p9_wire.proofs.frame.frame_of.Goals as goal

pub returns-then-bytes-lt4-clause-frames : goal.returns-then-bytes-lt4-clause-frames
returns-then-bytes-lt4-clause-frames c = begins_frames_as Need c.args.bytes.now (search rules)

pub returns-then-size-clause-frames : goal.returns-then-size-clause-frames
returns-then-size-clause-frames c = begins_frames_as Broken c.args.bytes.now (search rules)

pub returns-then-bytes-size-clause-frames : goal.returns-then-bytes-size-clause-frames
returns-then-bytes-size-clause-frames c = begins_frames_as Need c.args.bytes.now (search rules)

pub returns-else-bytes-size-clause-frames : goal.returns-else-bytes-size-clause-frames
returns-else-bytes-size-clause-frames c =
    begins_frames_as (Whole c.read_u32-size.result) c.args.bytes.now (search rules)
