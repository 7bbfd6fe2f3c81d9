use Rattle.std.proofs.Common.{◌≡◌, ◌-◌, List, ℕ, arith, length, subst, sym, take, take_at}
use Rattle.p9_step.specs.Event.{IsEvent, Message}
use Rattle.p9_step.specs.Memory.{is_no_memory_reply}
use Rattle.p9_guard.proofs.Promises.{are_bytes}
use Rattle.p9_conn.specs.Conn.{FrameIsAnswered}
use Rattle.p9_conn.proofs.Outcomes.{guarded-answer}
use Rattle.p9_conn.proofs.window.Window.answer.Goals as goal

pub returns : goal.returns
returns g c =
    let count = c.answer-self-inside.result in
    let reply = take count c.answer-self-inside.new.reply in
    let fine : IsEvent (Message c.args.session c.args.frame.now c.args.clock) =
    (are_bytes c.args.frame.now (λ i. omega (arith, c.type_inv.frame i)), c.ranges.clock.fits) in
    let long : length c.answer-self-inside.new.reply ≡ c.lengthen.new.bytes.len =
    omega (arith, c.answer-self-inside.auto.reply, c.as_mut_slice.ensures.len) in
    let all : count - 0 ≡ count = omega arith in
    let bytes = take_at c.answer-self-inside.new.reply _ c.lengthen.new.bytes.len long in
    subst (λ (zs : List ℕ). FrameIsAnswered c.args.session c.args.frame.now c.args.clock c.args.guard.now
    c.answer-self-inside.new.self (take (count - 0) zs)) (sym bytes)
    (subst (λ (n : ℕ). FrameIsAnswered c.args.session c.args.frame.now c.args.clock c.args.guard.now
    c.answer-self-inside.new.self (take n c.answer-self-inside.new.reply)) (sym all)
    (guarded-answer c.args.session c.args.frame.now c.args.clock c.args.guard.now
    c.answer-self-inside.new.self (is_no_memory_reply c.args.frame.now reply) reply fine
    c.answer-self-inside.ensures.hidden c.answer-self-inside.ensures.start
    c.answer-self-inside.ensures.promised))
