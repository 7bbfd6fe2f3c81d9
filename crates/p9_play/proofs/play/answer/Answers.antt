use Rattle.std.proofs.Common.{◌≡◌, ◌++◌, ◌∷◌, ◌∙◌, [], ap, is_some, refl, sym, take, true}
use Rattle.std.proofs.lemmas.Result.{on_ok_weaker}
use Rattle.hex.specs.Hex.{encode_lower}
use Rattle.p9_wire.specs.Frame.{is_frame}
use Rattle.p9_step.specs.Event.{Message}
use Rattle.p9_step.specs.Memory.{is_no_memory_reply}
use Rattle.p9_step.specs.State.{State, session_at}
use Rattle.p9_step.specs.Step.{step}
use Rattle.p9_play.specs.Play.{Played, played, replied, skipped}
use Rattle.p9_play.proofs.Chosen.{chosen}
use Rattle.p9_play.proofs.play.answer.Goals as goal

pub returns-in-Some : goal.returns-in-Some
returns-in-Some g c =
    let old : State = g.M.Machine.state c.args.machine.now in
    let fits : is_frame c.args.request.frame.now ≡ true = sym c.is_frame.ensures ∙ c.if-not-is_frame.false in
    let live : is_some (session_at c.args.request.name old.sessions) ≡ true = c.in-Some.ensures.live.0 refl in
    let event = Message c.args.request.name c.args.request.frame.now c.args.request.clock in
    let refused =
    is_no_memory_reply c.args.request.frame.now (take c.in-Some.size c.answer.new.reply) in
    let is : played old event refused ≡ replied (step old event refused) =
    chosen (is_frame c.args.request.frame.now) (is_some (session_at c.args.request.name old.sessions))
    (replied (step old event refused)) (skipped old) fits live in
    on_ok_weaker c.print_hex.result
    (λ text. record {
      refused = refused;
      state_is = c.in-Some.ensures.state ∙ sym (ap (λ (p : Played). p.state) is);
      text_is = text
          ∙ ap (λ bytes. c.args.out.now.items ++ (encode_lower bytes ++ 10 ∷ []))
          c.in-Some.ensures.bytes
          ∙ sym (ap (λ (p : Played). c.args.out.now.items ++ p.text) is);
    })
    c.print_hex.ensures
