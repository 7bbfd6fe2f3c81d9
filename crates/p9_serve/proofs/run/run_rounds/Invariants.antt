use Rattle.p9_serve.specs.Served.{HadHostedRounds}
use Rattle.p9_serve.proofs.run.run_rounds.Given as goal

-- the rounds so far happened
abbrev pub invariant-loop : goal.invariant-loop
invariant-loop g l =
    HadHostedRounds g.L.Stream.Read.remaining g.L.Stream.Write.contents l.counter l.last
    (g.C.Timer.readings l.fn.timer) (g.C.Timer.readings l.timer) l.fn.server l.server
