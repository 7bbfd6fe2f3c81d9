use Rattle.std.proofs.Common.{rules}
use Rattle.p9_wire.proofs.Puts.{puts_then}
use Rattle.p9_wire.proofs.r_writing.put_body.Goals as goal

pub returns-in-Version : goal.returns-in-Version
returns-in-Version c = rw c.in-Version.is (search (rules, puts_then))

pub returns-in-Open : goal.returns-in-Open
returns-in-Open c = rw c.in-Open.is (search (rules, puts_then))

pub returns-in-Create : goal.returns-in-Create
returns-in-Create c = rw c.in-Create.is (search (rules, puts_then))
