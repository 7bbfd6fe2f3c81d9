use Rattle.p9_wire.proofs.Puts.{puts_then}
use Rattle.p9_record.specs.Record.{spelling}
use Rattle.p9_record.proofs.writing.put_truncate.Goals as goal

pub returns-clause-bytes : goal.returns-clause-bytes
unfolding spelling
returns-clause-bytes c =
    puts_then c.put_u8-kind.ensures.bytes (puts_then c.put_u64-node.ensures.bytes c.put_u64.ensures.bytes)
