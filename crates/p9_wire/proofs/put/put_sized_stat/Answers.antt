use Rattle.std.proofs.Common.{arith}
use Rattle.p9_wire.specs.Stat.{stat_view}
use Rattle.p9_wire.specs.Fields.{stat_bytes}
use Rattle.p9_wire.proofs.Lengths.{length-stat_bytes}
use Rattle.p9_wire.proofs.Puts.{puts_sized}
use Rattle.p9_wire.proofs.put.put_sized_stat.Goals as goal

pub returns-clause-bytes : goal.returns-clause-bytes
returns-clause-bytes c =
    puts_sized stat_bytes (stat_view c.args.stat.now) _
    (omega (arith, length-stat_bytes (stat_view c.args.stat.now))) c.put_u16-at.ensures.bytes
    c.put_stat.ensures.bytes
