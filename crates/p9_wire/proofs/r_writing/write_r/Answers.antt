use Rattle.std.proofs.Common.{arith}
use Rattle.p9_wire.specs.Message.{r_view}
use Rattle.p9_wire.specs.Reply.{r_spelling}
use Rattle.p9_wire.proofs.Lengths.{length-r_body, r_len-fits}
use Rattle.p9_wire.proofs.Puts.{framed}
use Rattle.p9_wire.proofs.r_writing.write_r.Goals as goal

pub returns-clause-len : goal.returns-clause-len
returns-clause-len c =
    omega (arith, length-r_body (r_view c.args.message.now), c.put_body-end.ensures.ends)

pub returns-clause-bytes : goal.returns-clause-bytes
unfolding r_spelling
returns-clause-bytes c =
    framed _ _ _ _ _ _ _ (omega (arith, c.requires.room)) c.put_body-end.ensures
    (rw c.kind_of.ensures at c.put_header.ensures)

pub overflow_cast-end : goal.overflow_cast-end
overflow_cast-end c =
    omega (
      arith,
      length-r_body (r_view c.args.message.now),
      c.put_body-end.ensures.ends,
      r_len-fits
          (r_view c.args.message.now) c.requires.fits,
    )
