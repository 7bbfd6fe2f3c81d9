use Rattle.std.proofs.Common.{◌≡◌, ◌+◌, ℕ, arith, subst, suc, sym}
use Rattle.p9_clients.specs.Serving.{Ended}
use Rattle.p9_clients.proofs.clients.Clients.finish.Goals as goal

pub loop-key-preserved : goal.loop-key-preserved
loop-key-preserved g c =
    let next : c.loop-key.key + 1 ≡ suc c.loop-key.key = omega arith in
    subst (λ (n : ℕ). Ended c.args.clock n c.args.self c.end_at.new.self) (sym next)
    (c.loop-key.self, c.loop-key.invariant, c.end_at.ensures)
