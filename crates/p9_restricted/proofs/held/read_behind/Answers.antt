use Rattle.std.proofs.Common.{arith, length-take-le, take}
use Rattle.p9_restricted.proofs.Holdings.{behind_first, read_there}
use Rattle.p9_restricted.proofs.held.read_behind.Goals as goal

pub returns-clause-read : goal.returns-clause-read
returns-clause-read g c =
    let filled = c.args.filled in
    let bytes = c.args.bytes.now in
    read_there _ _ c.receive.result c.receive.new.bytes _ c.receive.ensures.read
    c.receive.ensures.bound
    (λ count fits. behind_first (take filled bytes) c.receive.new.bytes _ filled count
    (length-take-le filled bytes (omega arith)) fits)
