use Rattle.std.proofs.Common.{◌≡◌, ◌<◌, ◌^◌, ◌∙◌, Bool, None, Some, ap, arith, false, rules, subst, sym}
use Rattle.std.specs.Prelude.{is_err}
use Rattle.p9_step.specs.Event.{Open}
use Rattle.p9_step.specs.State.{session_at}
use Rattle.p9_step.specs.Step.{step}
use Rattle.p9_clients.specs.Serving.{slot_at}
use Rattle.p9_clients.proofs.Keyed.{keyed-updated}
use Rattle.p9_clients.proofs.Sessions.{not-refused, open-here, open-there, was-free}
use Rattle.p9_clients.proofs.clients.Clients.take_in.Goals as goal

pub invariant_of-self-2 : goal.invariant_of-self-2
invariant_of-self-2 g c =
    let b = c.self.inside in
    let n = c.insert_reserved-key.result in
    let name : c.in-Ok.session ≡ n = search rules in
    let small : n < 2 ^ 32 = search (rules, arith) in
    let ok : is_err c.open.result ≡ false = sym c.is_err-2.ensures.value ∙ c.if-is_err-2.false in
    let free : session_at n b.guard.state.sessions ≡ None =
    rw (← name) (was-free (session_at c.in-Ok.session b.guard.state.sessions) c.open.result
    c.open.ensures.live ok) in
    let opened : c.open.new.self.state ≡ (step b.guard.state (Open n) false).state =
    rw (← name) (subst (λ (m : Bool). c.open.new.self.state
    ≡ (step b.guard.state (Open c.in-Ok.session) m).state) (not-refused c.open.result ok)
    c.open.ensures.promised.state_is) in
    keyed-updated b.conns.slots c.insert_reserved-key.new.self.slots n
    (Some c.in-Ok-new.conn) b.guard.state.sessions c.open.new.self.state.sessions
    c.insert_reserved-key.ensures.updates.changed
    (λ k other. c.insert_reserved-key.ensures.updates.others k other
    ∙ ap (λ s. slot_at s.slots k) c.reserve.ensures.rest_kept)
    c.self.invariant
    (λ conn is.
    let same : c.in-Ok-new.conn ≡ conn = cc in
    let session : conn.session ≡ n =
    ap (λ x. x.session) (sym same ∙ c.in-Ok-new.ensures.ok) ∙ name in
    (session, small, rw opened (open-here b.guard.state n free)))
    (λ k other there. rw opened (open-there b.guard.state k there n free))
