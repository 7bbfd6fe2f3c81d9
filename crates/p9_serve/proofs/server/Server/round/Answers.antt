use Rattle.std.proofs.Common.{◌∙◌, ap, subst, sym}
use Rattle.p9_serve.proofs.Accepting.{hosted}
use Rattle.p9_serve.specs.Rounds.{Admits, accepts_now}
use Rattle.p9_serve.proofs.server.Server.round.Goals as goal

pub returns : goal.returns
returns g c =
    let old = c.args.self.now in
    hosted g.L.Stream.Read.remaining g.L.Stream.Write.contents c.args.clock old _ _ _ _
    (subst (λ mid. Admits (accepts_now old.running) old.running.serving mid.running.serving
    old.coming mid.coming c.accept-accepted.result) (sym c.self.view_is)
    c.accept-accepted.ensures.admitted)
    (ap (λ mid. mid.running.pace) c.self.view_is ∙ c.accept-accepted.ensures.same)
    c.turns-tally.ensures c.count.ensures
