use Rattle.std.proofs.Common.{arith}
use Rattle.p9_restricted.proofs.Holdings.{gives}
use Rattle.p9_restricted.proofs.held.Held.give.Goals as goal

pub returns : goal.returns
returns c =
    let h = c.self.inside in
    rw (← c.self.view_is)
    (gives h.bytes h.given h.passed h.end c.min-count.result c.args.room.now
    c.copy_from_slice.new.self (omega arith) (omega arith) c.min-count.ensures
    c.copy_from_slice.ensures.after)
