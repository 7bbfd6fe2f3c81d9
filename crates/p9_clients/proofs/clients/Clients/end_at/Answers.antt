use Rattle.std.proofs.Common.{◌≡◌, ◌∙◌, None, rules, sym}
use Rattle.p9_clients.proofs.Keyed.{keyed-updated}
use Rattle.p9_clients.proofs.Sessions.{close-there}
use Rattle.p9_clients.proofs.clients.Clients.end_at.Goals as goal

pub invariant_of-self : goal.invariant_of-self
invariant_of-self g c =
    let b = c.self.inside in
    let here = c.self.invariant c.args.key c.in-Some.conn (sym c.in-Some.ensures.value) in
    let name : c.session.result ≡ c.args.key = search (rules, here.0) in
    keyed-updated b.conns.slots c.try_remove.new.self.slots c.args.key None
    b.guard.state.sessions c.close.new.self.state.sessions c.in-Some.ensures.updates.changed
    c.in-Some.ensures.updates.others c.self.invariant
    (λ conn is. absurd (cc))
    (λ k other there.
    rw (c.close.ensures.promised.state_is)
    (close-there b.guard.state k there c.session.result c.args.clock
    (λ same. other (same ∙ name))))
