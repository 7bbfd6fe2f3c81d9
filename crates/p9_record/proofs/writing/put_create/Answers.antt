use Rattle.p9_wire.proofs.Puts.{puts_then}
use Rattle.p9_record.specs.Record.{spelling}
use Rattle.p9_record.proofs.writing.put_create.Goals as goal

pub returns-clause-bytes : goal.returns-clause-bytes
unfolding spelling
returns-clause-bytes c =
    puts_then c.put_u8-kind.ensures.bytes (puts_then (puts_then (puts_then (puts_then (puts_then (puts_then (puts_then (puts_then c.put_u64-place.ensures.bytes c.put_name-name.ensures.bytes) c.put_mode-mode.ensures.bytes) c.put_user-owner.ensures.bytes) c.put_user-group.ensures.bytes) c.put_user-changer.ensures.bytes) c.put_u32-read.ensures.bytes) c.put_u32-changed.ensures.bytes) c.put_counted.ensures.bytes)
