use Rattle.std.proofs.Common.{inr}
use Rattle.p9_client.proofs.Calls.{no-version}
use Rattle.p9_client.proofs.session.Session.version.Goals as goal

pub returns-in-Err-clause-call : goal.returns-in-Err-clause-call
returns-in-Err-clause-call g c =
    rw (← c.self.view_is)
    (inr (no-version g.S.Read.remaining g.S.Write.contents _ _ _ _ _ _ c.ask.new.self
    c.settled.new.self c.agreed_msize-taken.result c.in-Err.error c.in-Err.ensures.result
    (rw (← c.self.view_is) at c.in_ok-ask.ensures.0) (rw c.reply.ensures at c.agreed_msize-taken.ensures)
    c.settled.ensures.settled))
