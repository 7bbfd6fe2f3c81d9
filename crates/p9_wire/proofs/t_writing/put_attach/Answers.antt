use Rattle.p9_wire.proofs.Puts.{puts_then}
use Rattle.p9_wire.proofs.t_writing.put_attach.Goals as goal

pub returns : goal.returns
returns c =
    puts_then
    (puts_then (puts_then c.put_u32-at.ensures.bytes c.put_u32-at-2.ensures.bytes)
    c.put_text-at.ensures.bytes) c.put_text.ensures.bytes
