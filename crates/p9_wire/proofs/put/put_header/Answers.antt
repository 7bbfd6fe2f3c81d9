use Rattle.std.proofs.Common.{rules}
use Rattle.p9_wire.proofs.Puts.{puts_then}
use Rattle.p9_wire.proofs.put.put_header.Goals as goal

pub returns : goal.returns
returns c = search (rules, puts_then)
