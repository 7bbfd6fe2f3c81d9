use Rattle.std.proofs.Common.{arith, rules}
use Rattle.std.proofs.lemmas.Grind.{common_steps}
use Rattle.p9_conn.proofs.Buffers.{behind-lent, read-there}
use Rattle.p9_conn.proofs.window.read_after.Goals as goal

pub returns-clause-read : goal.returns-clause-read
returns-clause-read g c =
    read-there _ _ c.receive.result c.receive.new.bytes _ c.receive.ensures.read c.receive.ensures.bound
    (λ count fits. behind-lent _ c.deref_mut.result.now c.receive.new.bytes _ _ c.args.filled count
    (search (rules, common_steps)) (omega (arith, c.deref_mut.ensures.len, c.requires)) fits)
