use Rattle.std.proofs.Common.{◌≡◌, ◌++◌, ◌+◌, ◌-◌, ◌∙◌, ◌≤◌, List, ℕ, ap, arith, drop, length, take}
use Rattle.std.proofs.lemmas.List.{length-take}
use Rattle.p9_step.specs.Memory.{is_no_memory_reply}
use Rattle.p9_guard.proofs.Rooms.{kept, placed}
use Rattle.p9_guard.proofs.guard.Guard.run_message.Goals as goal

pub returns-clause-ok : goal.returns-clause-ok
returns-clause-ok g c =
    let reply = take c.answer.result c.answer.new.reply in
    let room = c.as_mut_slice.result.now in
    let grown : c.resize.new.self.len ≡ c.args.used + c.in-Some.room = c.in_ok-resize.ensures.len in
    let all : length room ≡ c.resize.new.self.len = c.as_mut_slice.ensures.len in
    let same = c.answer.auto.reply in
    let within = c.answer.ensures.within in
    let rest = length-take (length room - c.args.used) (drop c.args.used room) in
    let far : c.args.used ≤ c.args.used + c.in-Some.room = omega arith in (
      is_no_memory_reply c.args.frame.now reply,
      reply,
      placed c.args.used c.answer.result c.resize.new.self.len room c.answer.new.reply _ _
          (omega (arith, all, grown)) (omega (arith, same, within))
          (omega (arith, all, grown, within, rest))
          ∙ ap (λ (zs : List ℕ). zs ++ reply)
          (kept c.args.used (c.args.used + c.in-Some.room) c.args.bytes.now.items room _
          (c.as_mut_slice.ensures.value ∙ c.in_ok-resize.ensures.items) far c.requires),
      c.answer.ensures.promised,
    )
