use Rattle.p9_clients.specs.Serving.{Ended}
use Rattle.p9_clients.proofs.clients.Clients.finish.Given as goal

-- the connections of the keys so far are closed
abbrev pub invariant-loop-key : goal.invariant-loop-key
invariant-loop-key g l = Ended l.fn.clock l.key l.fn.self l.self
