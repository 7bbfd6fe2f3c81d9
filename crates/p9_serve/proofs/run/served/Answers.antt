use Rattle.std.proofs.Common.{Some, subst}
use Rattle.std.proofs.KnownBytes.{Appends-nil}
use Rattle.p9_commands.specs.Offer.{offer_of}
use Rattle.p9_serve.specs.Run.{IsOffer}
use Rattle.p9_serve.proofs.Reports.{cut_short, on_err, reported}
use Rattle.p9_serve.proofs.run.served.Goals as goal

pub returns-in_err-guard-clause-err : goal.returns-in_err-guard-clause-err
returns-in_err-guard-clause-err g c =
    on_err c.from_residual.result
    (cut_short (offer_of c.args.input.now) _ c.args.stay.address c.in_err-guard.ensures.err
    (0, Appends-nil (g.W.Write.contents c.args.out.now)))

pub returns-in_err-serve-in-Some-clause-err : goal.returns-in_err-serve-in-Some-clause-err
returns-in_err-serve-in-Some-clause-err g c =
    on_err c.from_residual-in_err-serve-in-Some.result
    (cut_short (offer_of c.args.input.now) _ c.serve.ensures.front.0
    (reported (offer_of c.args.input.now) (g.E.Write.contents c.args.err.now)
    (g.E.Write.contents c.offered.new.err) (Some c.in-Some.guard)
    (subst (λ guard. IsOffer (offer_of c.args.input.now) (g.E.Write.contents c.args.err.now)
    (g.E.Write.contents c.offered.new.err) guard) c.in-Some.is c.in_ok-guard.ensures.ok)) c.serve.ensures.front.1)
