use Rattle.p9_wire.proofs.Puts.{puts_then}
use Rattle.p9_wire.proofs.t_writing.put_body.Goals as goal

pub returns-in-Version : goal.returns-in-Version
returns-in-Version c =
    rw c.in-Version.is (puts_then c.put_u32-at.ensures.bytes c.put_text.ensures.bytes)

pub returns-in-Open : goal.returns-in-Open
returns-in-Open c =
    rw c.in-Open.is (puts_then c.put_u32-at-in-Open.ensures.bytes c.put_u8.ensures.bytes)

pub returns-in-Wstat : goal.returns-in-Wstat
returns-in-Wstat c =
    rw c.in-Wstat.is (puts_then c.put_u32-at-in-Wstat.ensures.bytes c.put_sized_stat.ensures.bytes)
