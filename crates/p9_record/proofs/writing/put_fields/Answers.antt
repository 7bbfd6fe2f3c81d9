use Rattle.p9_wire.proofs.Puts.{puts_then}
use Rattle.p9_record.proofs.writing.put_fields.Goals as goal

pub returns-clause-bytes : goal.returns-clause-bytes
returns-clause-bytes c =
    puts_then (puts_then (puts_then (puts_then (puts_then (puts_then c.put_optional_name-name.ensures.bytes c.put_optional_mode-mode.ensures.bytes) c.put_optional_user-group.ensures.bytes) c.put_optional_u64-length.ensures.bytes) c.put_optional_u32-mtime.ensures.bytes) c.put_user-user.ensures.bytes) c.put_u32.ensures.bytes
