-- What an exchange comes to.
use Rattle.std.proofs.Common.{◌≡◌, true, false, List, ℕ, Result, Ok, IfErr, sym, ap, ◌∙◌}
use Rattle.std.proofs.Common.{subst, codes, slice_get}
use Rattle.std.proofs.Common.{◌++◌}
use Rattle.p9_wire.specs.Frame.{is_frame}
use Rattle.p9_exchange.specs.Message.{message_words}
use Rattle.p9_exchange.specs.Refusal.{IsStop}
use Rattle.p9_exchange.specs.Talk.{Talk, asking, printing, followed_by, with_printed, is_open, is_skip}
use Rattle.p9_exchange.specs.Talk.{skipped}
use Rattle.p9_exchange.specs.Talk.{opened, closed, sent}
use Rattle.p9_exchange.specs.declared.refusal.Refusal.{Refusal}
use Rattle.p9_base.specs.declared.stop.Stop.{Stop}

-- what stops the one stops the other, where they are the same
pub same-stop : (r : Result (Unit {0}) (Stop Refusal)) (made other : Result Talk Refusal) → made ≡ other
    → IfErr r (IsStop made) → IfErr r (IsStop other)
same-stop r made other same stops =
    let P : Result Talk Refusal → Type 0 = λ made. IfErr r (IsStop made) in subst P same stops

module _ (replies : List (List ℕ)) (line session : ℕ) (talk asked : Talk) where
  -- a line of the replies says so
  pub skip-printed : (reason : List ℕ) → is_skip (slice_get replies talk.printed) ≡ true
      → asked ≡ with_printed talk (printing line session (codes "skip: " ++ reason))
      → skipped replies line session reason talk ≡ Ok asked
  unfolding skipped
  skip-printed reason is same = rw is (ap Ok (sym same))

  -- a session is not opened
  pub open-skips : asked ≡ followed_by talk (asking line session (codes "open"))
      → is_open session asked ≡ true
      → skipped replies line session (codes "session open already") asked
      ≡ opened replies line session talk
  unfolding opened
  open-skips same is =
      let q : is_open session talk ≡ true = sym (ap (is_open session) same) ∙ is in
      rw q (ap (skipped replies line session (codes "session open already")) same)

  -- a session is not closed
  pub close-skips : asked ≡ followed_by talk (asking line session (codes "close"))
      → is_open session asked ≡ false
      → skipped replies line session (codes "no such session") asked
      ≡ closed replies line session talk
  unfolding closed
  close-skips same is =
      let q : is_open session talk ≡ false = sym (ap (is_open session) same) ∙ is in
      rw q (ap (skipped replies line session (codes "no such session")) same)

  -- a session gets no frame
  pub send-skips : (frame : List ℕ)
      → asked ≡ followed_by talk (asking line session (message_words frame))
      → is_frame frame ≡ true → is_open session asked ≡ false
      → skipped replies line session (codes "no such session") asked
      ≡ sent replies line session frame talk
  unfolding sent
  send-skips frame same whole is =
      let q : is_open session talk ≡ false = sym (ap (is_open session) same) ∙ is in
      rw (whole, q) (ap (skipped replies line session (codes "no such session")) same)
