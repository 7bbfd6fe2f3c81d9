use Rattle.std.proofs.Common.{arith}
use Rattle.p9_wire.specs.Reply.{r_spelling}
use Rattle.p9_wire.proofs.Puts.{framed, puts_counted}
use Rattle.p9_wire.proofs.r_writing.finish_read.Goals as goal

pub returns-clause-bytes : goal.returns-clause-bytes
unfolding r_spelling
returns-clause-bytes c =
    let header = rw c.put_u32-at.ensures.next at c.put_header.ensures in
    let body =
    puts_counted 7 c.args.count _ _ c.requires.room (omega arith)
    (rw c.put_u32-at.ensures.next at c.put_u32-at.ensures.bytes) in
    rw c.put_u32-at.ensures.next (framed _ _ _ _ _ _ _ (omega (arith, c.requires.room)) body header)
