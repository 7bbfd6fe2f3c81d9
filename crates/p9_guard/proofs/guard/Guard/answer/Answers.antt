use Rattle.std.proofs.Common.{◌≡◌, IsSome, ap, arith, subst, sym, take}
use Rattle.p9_step.specs.Event.{IsEvent, Message}
use Rattle.p9_step.specs.Memory.{is_no_memory_reply}
use Rattle.p9_step.specs.State.{State, session_at}
use Rattle.p9_guard.specs.Guard.{Guarded}
use Rattle.p9_guard.proofs.Marks.{message_mark, message_unchanged}
use Rattle.p9_guard.proofs.Promises.{are_bytes, one_promised, one_stays}
use Rattle.p9_guard.proofs.guard.Guard.answer.Goals as goal

pub invariant_of-self : goal.invariant_of-self
invariant_of-self g c =
    let reply = take c.message.result c.message.new.reply in
    let live : IsSome (session_at c.args.name c.self.inside.export.sessions) =
    subst (λ guard. IsSome (session_at c.args.name guard.state.sessions)) (sym c.self.view_is)
    c.requires.live in
    let fine : IsEvent (Message c.args.name c.args.frame.now c.args.clock) =
    (are_bytes c.args.frame.now (λ i. omega (arith, c.type_inv.frame i)), c.ranges.clock.fits) in
    one_stays c.self.inside.hidden.items _ c.self.inside.export c.message.new.self
    (Message c.args.name c.args.frame.now c.args.clock) (is_no_memory_reply c.args.frame.now reply)
    reply c.self.invariant fine c.message.ensures.state c.message.ensures.bytes
    (message_mark c.self.inside.export c.args.name c.args.frame.now c.args.clock
    c.self.invariant.sound c.requires.whole fine.0 reply live
    c.message.ensures.bytes)

pub returns-clause-promised : goal.returns-clause-promised
returns-clause-promised g c =
    let reply = take c.message.result c.message.new.reply in
    let live : IsSome (session_at c.args.name c.self.inside.export.sessions) =
    subst (λ guard. IsSome (session_at c.args.name guard.state.sessions)) (sym c.self.view_is)
    c.requires.live in
    let fine : IsEvent (Message c.args.name c.args.frame.now c.args.clock) =
    (are_bytes c.args.frame.now (λ i. omega (arith, c.type_inv.frame i)), c.ranges.clock.fits) in
    rw (← c.self.view_is)
    (one_promised c.self.inside.hidden.items _ c.self.inside.export c.message.new.self
    (Message c.args.name c.args.frame.now c.args.clock) (is_no_memory_reply c.args.frame.now reply)
    reply c.self.invariant fine c.message.ensures.state c.message.ensures.bytes
    (message_mark c.self.inside.export c.args.name c.args.frame.now c.args.clock
    c.self.invariant.sound c.requires.whole fine.0 reply live
    c.message.ensures.bytes))

pub returns-clause-unchanged : goal.returns-clause-unchanged
returns-clause-unchanged g c = λ none.
    let reply = take c.message.result c.message.new.reply in
    let live : IsSome (session_at c.args.name c.self.inside.export.sessions) =
    subst (λ guard. IsSome (session_at c.args.name guard.state.sessions)) (sym c.self.view_is)
    c.requires.live in
    let fine : IsEvent (Message c.args.name c.args.frame.now c.args.clock) =
    (are_bytes c.args.frame.now (λ i. omega (arith, c.type_inv.frame i)), c.ranges.clock.fits) in
    let same : c.message.new.self ≡ c.self.inside.export =
    message_unchanged c.self.inside.export c.args.name c.args.frame.now c.args.clock
    c.self.invariant.sound c.requires.whole fine.0 c.message.new.self reply live
    c.message.ensures.bytes c.message.ensures.state none in
    let guarded : State → Guarded = λ state. record {
      state = state;
      hidden = c.self.inside.hidden.items;
      start = record { rows = c.self.inside.certificate; next = c.self.inside.base.items };
    } in
    rw (← c.self.view_is) (ap guarded same)
