use Rattle.p9_wire.proofs.Puts.{puts_then}
use Rattle.p9_record.specs.Record.{forest_spelling}
use Rattle.p9_record.proofs.writing.put_on_server.Goals as goal

pub returns-clause-bytes : goal.returns-clause-bytes
unfolding forest_spelling
returns-clause-bytes c =
    puts_then c.put_u8-kind.ensures.bytes (puts_then c.put_u16-place.ensures.bytes c.put_tree_change.ensures.bytes)
