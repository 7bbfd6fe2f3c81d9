-- What a turn comes to, by what its call of the stream did.
use Rattle.std.proofs.Common.{◌≡◌, ℕ, zero, suc, ◌+◌, ◌<◌, inl, inr, Bool, true, false, List, []}
use Rattle.std.proofs.Common.{◌∷◌, ◌++◌, Option, Result, Ok, Err, refl, sym, ap}
use Rattle.std.proofs.Common.{◌∙◌, append-nil, arith, drop, length, length-take-le, rules, take}
use Rattle.std.proofs.Common.{take-append-drop}
use Rattle.std.specs.Prelude.{nat_eq}
use Rattle.std.specs.declared.io.Error.{Error}
use Rattle.p9_wire.specs.Frame.{first_frame}
use Rattle.p9_wire.specs.declared.frame.Frame.TheVariants.{Broken}
use Rattle.p9_step.specs.Event.{IsEvent, Message}
use Rattle.std.specs.Io.KnownBytes.{Keeps}
use Rattle.p9_guard.specs.Guard.{Guarded}
use Rattle.p9_guard.specs.Headline.{IsPromised}
use Rattle.p9_conn.specs.declared.conn.Turn.{Turn}
use Rattle.p9_conn.specs.declared.conn.Turn.TheVariants.{Moved, Closed}
use Rattle.p9_conn.specs.Conn.{ComesTo, Connection, HasTurned, FrameIsAnswered, IsEnded, turn_of}
use Rattle.p9_conn.specs.Device.{HasRead, HasWritten}
use Rattle.p9_conn.specs.Turn.{Answering, Deeds, Ending, Link, Receiving, Sending, answering}
use Rattle.p9_conn.specs.Turn.{closing, deeds_of, no_deeds, phase_of}
use Rattle.p9_conn.proofs.Buffers.{none-appended, none-consumed}

abbrev pub conn : {S : Type 0} → S → ℕ → List ℕ → List ℕ → Bool → Connection S
conn stream session buffer pending closed = record {
  stream = stream;
  session = session;
  link = record { buffer = buffer; pending = pending; closed = closed };
}

moved : (deeds : Deeds) (closed : Bool) → closed ≡ false
    → 0 < length deeds.read + length deeds.written + length deeds.answered
    → Moved ≡ turn_of deeds closed
moved deeds closed is_open some = rw is_open (search (rules, some))

no-bytes : (xs : List ℕ) → length xs ≡ 0 → xs ≡ []
no-bytes [] e = refl
no-bytes (x ∷ xs) e = absurd (omega (arith, e))

module _ {S : Type 0} (remaining contents : S → Option (List ℕ)) (now : ℕ) (before : Guarded)
    (stream stream' : S) (session : ℕ) (new : Connection S) (after : Guarded) (result : Turn)
    (closed : Bool) (is_open : closed ≡ false) where
  pub sending : (buffer pending pending' : List ℕ) (written : Result ℕ Error)
      → HasWritten (contents stream) (contents stream') written pending pending'
      → Keeps (remaining stream) (remaining stream')
      → ComesTo written now (conn stream' session buffer pending' closed) before new after result
      → HasTurned remaining contents Sending now (conn stream session buffer pending closed)
      before new after result
  sending buffer pending pending' (Ok zero) w kept t =
      rw (t.conn_is, t.result_is) (record {
        deeds = deeds_of (closing session now);
        turn = inr (inr (record {
          link_is = ap (λ (p : List ℕ).
              let l : Link = record { buffer = buffer; pending = p; closed = true } in l) w.left;
          stepped = t.stepped;
          deeds_are = refl;
        }));
        stream = record { appended = w.appended; left = kept };
        session_is = refl;
        guard_is = t.guard_is;
        result_is = refl;
      })
  sending buffer pending pending' (Ok (suc n)) w kept t =
      let long : length (take (suc n) pending) ≡ suc n = length-take-le (suc n) pending w.within in
      let deeds : Deeds = record { read = []; written = take (suc n) pending; answered = [] } in
      rw (t.conn_is, t.guard_is, t.result_is) (record {
        deeds = deeds;
        turn = inl (record {
          some = omega (arith, long);
          front = sym (take-append-drop (suc n) pending)
              ∙ ap (λ (p : List ℕ). take (suc n) pending ++ p) (sym w.left);
          link_is = refl;
          state_is = refl;
          no_read = refl;
          no_entry = refl;
        });
        stream = record { appended = w.appended; left = kept };
        session_is = refl;
        guard_is = refl;
        result_is = moved deeds closed is_open (omega (arith, long));
      })
  sending buffer pending pending' (Err error) w kept (inl t) =
      rw (t.1.conn_is, t.1.guard_is, t.1.result_is, w.0) (record {
        deeds = no_deeds;
        turn = inr (inl (record { scene_is = refl; deeds_are = refl }));
        stream = record { appended = none-appended (contents stream) (contents stream') w.1; left = kept };
        session_is = refl;
        guard_is = refl;
        result_is = rw is_open refl;
      })
  sending buffer pending pending' (Err error) w kept (inr t) =
      rw (t.1.conn_is, t.1.result_is) (record {
        deeds = deeds_of (closing session now);
        turn = inr (inr (record {
          link_is = ap (λ (p : List ℕ).
              let l : Link = record { buffer = buffer; pending = p; closed = true } in l) w.0;
          stepped = t.1.stepped;
          deeds_are = refl;
        }));
        stream = record { appended = none-appended (contents stream) (contents stream') w.1; left = kept };
        session_is = refl;
        guard_is = t.1.guard_is;
        result_is = refl;
      })

  pub receiving : (buffer buffer' pending : List ℕ) (read : Result ℕ Error)
      → HasRead (remaining stream) (remaining stream') read buffer buffer'
      → Keeps (contents stream) (contents stream')
      → ComesTo read now (conn stream' session buffer' pending closed) before new after result
      → HasTurned remaining contents Receiving now (conn stream session buffer pending closed)
      before new after result
  receiving buffer buffer' pending (Ok zero) w kept t =
      let none = no-bytes w.read w.count_is in
      let same : buffer' ≡ buffer =
      w.behind ∙ ap (λ (zs : List ℕ). buffer ++ zs) none ∙ append-nil buffer in
      rw (t.conn_is, t.result_is) (record {
        deeds = deeds_of (closing session now);
        turn = inr (inr (record {
          link_is = ap (λ (b : List ℕ).
              let l : Link = record { buffer = b; pending = pending; closed = true } in l) same;
          stepped = t.stepped;
          deeds_are = refl;
        }));
        stream = record { consumed = rw (← none) w.consumed; written = kept };
        session_is = refl;
        guard_is = t.guard_is;
        result_is = refl;
      })
  receiving buffer buffer' pending (Ok (suc n)) w kept t =
      let deeds : Deeds = record { read = w.read; written = []; answered = [] } in
      rw (t.conn_is, t.guard_is, t.result_is) (record {
        deeds = deeds;
        turn = inl (record {
          some = omega (arith, w.count_is);
          link_is = ap (λ (b : List ℕ).
              let l : Link = record { buffer = b; pending = pending; closed = closed } in l)
              w.behind;
          state_is = refl;
          none_written = refl;
          no_entry = refl;
        });
        stream = record { consumed = w.consumed; written = kept };
        session_is = refl;
        guard_is = refl;
        result_is = moved deeds closed is_open (omega (arith, w.count_is));
      })
  receiving buffer buffer' pending (Err error) w kept (inl t) =
      rw (t.1.conn_is, t.1.guard_is, t.1.result_is, w.0) (record {
        deeds = no_deeds;
        turn = inr (inl (record { scene_is = refl; deeds_are = refl }));
        stream = record { consumed = none-consumed (remaining stream) (remaining stream') w.1; written = kept };
        session_is = refl;
        guard_is = refl;
        result_is = rw is_open refl;
      })
  receiving buffer buffer' pending (Err error) w kept (inr t) =
      rw (t.1.conn_is, t.1.result_is) (record {
        deeds = deeds_of (closing session now);
        turn = inr (inr (record {
          link_is = ap (λ (b : List ℕ).
              let l : Link = record { buffer = b; pending = pending; closed = true } in l) w.0;
          stepped = t.1.stepped;
          deeds_are = refl;
        }));
        stream = record { consumed = none-consumed (remaining stream) (remaining stream') w.1; written = kept };
        session_is = refl;
        guard_is = t.1.guard_is;
        result_is = refl;
      })

module _ {S : Type 0} (remaining contents : S → Option (List ℕ)) (now : ℕ) (before : Guarded)
    (stream : S) (session : ℕ) (closed : Bool) where
  -- a frame is answered
  pub answered : (buffer buffer' pending reply frame : List ℕ) (size : ℕ) (after : Guarded)
      → closed ≡ false → frame ≡ take size buffer → buffer' ≡ drop size buffer
      → FrameIsAnswered session frame now before after reply
      → HasTurned remaining contents (Answering size) now
      (conn stream session buffer pending closed) before
      (conn stream session buffer' reply closed) after Moved
  answered buffer buffer' pending reply frame size after is_open frame_is buffer_is a =
      let a' : FrameIsAnswered session (take size buffer) now before after reply =
      rw frame_is at a in
      let entry = answering session (take size buffer) now a'.refused reply in
      rw buffer_is (record {
        deeds = deeds_of entry;
        turn = record {
          refused = a'.refused;
          link_is = refl;
          stepped = a'.stepped;
          deeds_are = refl;
        };
        stream = refl;
        session_is = refl;
        guard_is = a'.guard_is;
        result_is = moved (deeds_of entry) closed is_open (omega arith);
      })

  -- it is closed already
  pub over : (buffer pending : List ℕ) → closed ≡ true
      → HasTurned remaining contents
      (phase_of (record { buffer = buffer; pending = pending; closed = closed })) now
      (conn stream session buffer pending closed) before
      (conn stream session buffer pending closed) before Closed
  over buffer pending is =
      rw is (record {
        deeds = no_deeds;
        turn = record { scene_is = refl; deeds_are = refl };
        stream = refl;
        session_is = refl;
        guard_is = refl;
        result_is = refl;
      })

-- a size comes that no frame has
pub broken : {S : Type 0} (remaining contents : S → Option (List ℕ)) (now : ℕ) (before : Guarded)
    (old new : Connection S) (after : Guarded) (result : Turn)
    → IsEnded now old before new after result
    → HasTurned remaining contents Ending now old before new after result
broken remaining contents now before old new after result t =
    rw (t.conn_is, t.result_is) (record {
      deeds = deeds_of (closing old.session now);
      turn = record { link_is = refl; stepped = t.stepped; deeds_are = refl };
      stream = refl;
      session_is = refl;
      guard_is = t.guard_is;
      result_is = refl;
    })

-- and the turn is of that phase
pub broken-phase : (buffer pending : List ℕ) (closed : Bool) → closed ≡ false
    → nat_eq (length pending) 0 ≡ true → first_frame buffer ≡ Broken
    → phase_of (record { buffer = buffer; pending = pending; closed = closed }) ≡ Ending
broken-phase buffer pending closed is_open none e = rw (is_open, none, e) refl

-- The guard.

pub same-guard : (before after : Guarded) → after.hidden ≡ before.hidden
    → after.start ≡ before.start → after ≡ record before { state = after.state }
same-guard before after hidden start = rw (hidden, start) refl

-- a frame of a session that is open
pub guarded-answer : (session : ℕ) (frame : List ℕ) (now : ℕ) (before after : Guarded)
    (refused : Bool) (reply : List ℕ) → IsEvent (Message session frame now)
    → after.hidden ≡ before.hidden → after.start ≡ before.start
    → IsPromised before.hidden before.state ((Message session frame now, refused) ∷ []) after.state
    reply
    → FrameIsAnswered session frame now before after reply
guarded-answer session frame now before after refused reply fine hidden start promised = record {
  refused = refused;
  stepped = record {
    fine = fine;
    permitted = promised.permitted;
    state_is = promised.state_is;
    reply_is = promised.bytes_are ∙ append-nil _;
  };
  guard_is = same-guard before after hidden start;
}
