use Rattle.std.proofs.Common.{length}
use Rattle.p9_log.specs.Reading.{IsReadTo}
use Rattle.p9_log.proofs.reading.read_blocks.Given as goal

abbrev pub invariant-loop-block : goal.invariant-loop-block
invariant-loop-block g l = IsReadTo l.fn.how l.mode l.file l.rest l.bytes.items l.kept

abbrev pub decreases-loop-block : goal.decreases-loop-block
decreases-loop-block g l = length l.rest
