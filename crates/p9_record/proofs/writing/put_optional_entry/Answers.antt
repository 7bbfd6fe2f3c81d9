use Rattle.p9_wire.proofs.Puts.{puts_then}
use Rattle.p9_record.proofs.writing.put_optional_entry.Goals as goal

pub returns-in-Some-clause-bytes : goal.returns-in-Some-clause-bytes
returns-in-Some-clause-bytes c =
    rw c.in-Some.is (puts_then c.put_u8-at.ensures.bytes c.put_entry.ensures.bytes)
