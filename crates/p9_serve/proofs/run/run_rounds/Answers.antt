use Rattle.std.proofs.Common.{ℕ, ◌<◌, ◌^◌, List, [], ◌∷◌, Option, arith, subst}
use Rattle.std.specs.Io.KnownBytes.{Appends}
use Rattle.p9_serve.proofs.Rounds.{none_yet, one_more}
use Rattle.p9_serve.proofs.run.run_rounds.Goals as goal

pub loop-init : goal.loop-init
loop-init g c =
    none_yet g.L.Stream.Read.remaining g.L.Stream.Write.contents
    (g.C.Timer.readings c.args.timer.now) c.args.server.now

pub loop-preserved : goal.loop-preserved
loop-preserved g c =
    let readings = g.C.Timer.readings in
    let reading = c.in_ok-last.last in
    let small : reading < 2 ^ 32 = omega arith in
    let given : Appends (readings c.loop.timer) (readings c.read.new.self) (reading ∷ []) =
    subst (λ (b : Option (List ℕ)). Appends b (readings c.read.new.self) (reading ∷ []))
    c.rest-in-loop.ensures c.in_ok-last.ensures.ok in
    one_more g.L.Stream.Read.remaining g.L.Stream.Write.contents c.loop.counter c.loop.last reading
    (readings c.args.timer.now) (readings c.loop.timer) (readings c.read.new.self)
    c.args.server.now c.loop.server c.round-round.new.self c.round-round.result c.loop.invariant
    small given c.round-round.ensures
