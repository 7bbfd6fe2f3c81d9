use Rattle.std.proofs.Common.{arith}
use Rattle.p9_wire.specs.Stat.{stat_view}
use Rattle.p9_wire.specs.Fields.{stat_fields}
use Rattle.p9_wire.proofs.Lengths.{length-stat_fields}
use Rattle.p9_wire.proofs.Puts.{puts_then, puts_sized}
use Rattle.p9_wire.proofs.put.put_stat.Goals as goal

pub returns-clause-bytes : goal.returns-clause-bytes
returns-clause-bytes c =
    let numbers =
    puts_then
    (puts_then
    (puts_then
    (puts_then
    (puts_then (puts_then c.put_u16-at-2.ensures.bytes c.put_u32-at.ensures.bytes)
    c.put_qid-at.ensures.bytes) c.put_u32-at-2.ensures.bytes) c.put_u32-at-3.ensures.bytes)
    c.put_u32-at-4.ensures.bytes) c.put_u64-at.ensures.bytes in
    let fields =
    puts_then
    (puts_then
    (puts_then (puts_then numbers c.put_text-at.ensures.bytes) c.put_text-at-2.ensures.bytes)
    c.put_text-at-3.ensures.bytes) c.put_text.ensures.bytes in
    puts_sized stat_fields (stat_view c.args.stat.now) _
    (omega (arith, length-stat_fields (stat_view c.args.stat.now))) c.put_u16-at.ensures.bytes
    fields
