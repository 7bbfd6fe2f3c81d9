use Rattle.std.proofs.Common.{Some, subst}
use Rattle.p9_commands.specs.Offer.{offer_of}
use Rattle.p9_serve.specs.Run.{IsOffer}
use Rattle.p9_serve.proofs.Reports.{on_err, reported}
use Rattle.p9_serve.proofs.run.clients_served.Goals as goal

pub returns-in_err-serve_guard-in-Some-clause-err :
    goal.returns-in_err-serve_guard-in-Some-clause-err
returns-in_err-serve_guard-in-Some-clause-err g c =
    on_err c.from_residual-in_err-serve_guard-in-Some.result
    (reported (offer_of c.args.input.now) (g.E.Write.contents c.args.err.now)
    (g.E.Write.contents c.offered.new.err) (Some c.in-Some.guard)
    (subst (λ guard. IsOffer (offer_of c.args.input.now) (g.E.Write.contents c.args.err.now)
    (g.E.Write.contents c.offered.new.err) guard) c.in-Some.is c.in_ok-guard.ensures.ok))
