use Rattle.p9_serve.proofs.Rounds.{was_served_to}
use Rattle.p9_serve.proofs.run.serve_guard.Goals as goal

pub returns : goal.returns
returns g c =
    was_served_to g.L.Stream.Read.remaining g.L.Stream.Write.contents c.args.guard c.finish.result
    (g.L.Listener.coming c.args.listener) c.args.rounds c.in_ok-last.last
    (g.C.Timer.readings c.args.timer.now) (g.C.Timer.readings c.run_rounds.new.timer)
    c.new-server.result c.run_rounds.new.server c.well_formed-2.ensures c.new-server.ensures.running
    c.new-server.ensures.coming c.in_ok-last.ensures.ok
    c.finish.ensures
