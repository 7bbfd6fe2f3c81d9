use Rattle.p9_wire.proofs.Puts.{puts_then}
use Rattle.p9_record.proofs.writing.put_entry.Goals as goal

pub returns-clause-bytes : goal.returns-clause-bytes
returns-clause-bytes c =
    puts_then c.put_u64-parent.ensures.bytes c.put_name.ensures.bytes
