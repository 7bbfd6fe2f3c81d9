use Rattle.p9_wire.proofs.Puts.{puts_then}
use Rattle.p9_wire.proofs.t_writing.put_auth.Goals as goal

pub returns : goal.returns
returns c =
    puts_then (puts_then c.put_u32-at.ensures.bytes c.put_text-at.ensures.bytes)
    c.put_text.ensures.bytes
