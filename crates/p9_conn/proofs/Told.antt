-- From the bytes that are read to the bytes that are written.
use Rattle.std.proofs.Common.{◌≡◌, ℕ, inl, inr, List, [], ◌∷◌, ◌++◌, Option, Some, None, refl, sym}
use Rattle.std.proofs.Common.{ap, append-nil, subst}
use Rattle.std.proofs.KnownBytes.{Appends-nil, Appends-trans, Consumes-nil, Consumes-trans}
use Rattle.std.specs.List.{concat}
use Rattle.std.specs.Io.KnownBytes.{Appends, Consumes}
use Rattle.p9_guard.specs.Guard.{Guarded}
use Rattle.p9_conn.specs.Conn.{Connection, UsesStream, scene}
use Rattle.p9_conn.specs.History.{Happening, frames_in, history, replies_of}
use Rattle.p9_conn.specs.Laws.{ComeInOrder, IsRun}
use Rattle.p9_conn.specs.Told.{BytesBecomeReplies, HasDone, HasDoneAll}
use Rattle.p9_conn.specs.Turn.{Answering, Deeds, Ending, Over, Phase, Receiving, Scene, Sending}
use Rattle.p9_conn.specs.Turn.{TurnBy, phase_of}
use Rattle.p9_conn.proofs.Buffers.{none-appended, none-consumed}
use Rattle.p9_conn.proofs.Facts.{Common, common, no-run}
use Rattle.p9_conn.proofs.Histories.{both}
use Rattle.p9_conn.proofs.Orders.{goes-out, one}

-- what turns read, and what they wrote
abbrev read_all : List Happening → List ℕ
read_all [] = []
read_all (h ∷ hs) = h.deeds.read ++ read_all hs

abbrev written_all : List Happening → List ℕ
written_all [] = []
written_all (h ∷ hs) = h.deeds.written ++ written_all hs

module _ {S : Type 0} (remaining contents : S → Option (List ℕ)) where
  -- a stream gave what was read, and got what was written
  pub record Moves (old new : S) (read written : List ℕ) : Type 0 where
    pub consumed : Consumes (remaining old) (remaining new) read
    pub appended : Appends (contents old) (contents new) written

  nothing : (a b : S) (read written : List ℕ) → b ≡ a → read ≡ [] → written ≡ []
      → Moves a b read written
  nothing a b read written same r w =
      rw (same, r, w) (record {
        consumed = Consumes-nil (remaining a);
        appended = Appends-nil (contents a);
      })

  pub moves-by : (phase : Phase) (session now : ℕ) (old new : Scene) (a b : S) (deeds : Deeds)
      → TurnBy phase session now old new deeds → UsesStream remaining contents phase a b deeds
      → Moves a b deeds.read deeds.written
  moves-by Over session now old new a b deeds t u =
      nothing a b deeds.read deeds.written u (ap (λ (d : Deeds). d.read) t.deeds_are)
      (ap (λ (d : Deeds). d.written) t.deeds_are)
  moves-by Sending session now old new a b deeds (inl t) u = record {
    consumed = subst (λ (zs : List ℕ). Consumes (remaining a) (remaining b) zs) (sym t.no_read)
        (none-consumed (remaining a) (remaining b) u.left);
    appended = u.appended;
  }
  moves-by Sending session now old new a b deeds (inr (inl t)) u = record {
    consumed = subst (λ (zs : List ℕ). Consumes (remaining a) (remaining b) zs)
        (sym (ap (λ (d : Deeds). d.read) t.deeds_are))
        (none-consumed (remaining a) (remaining b) u.left);
    appended = u.appended;
  }
  moves-by Sending session now old new a b deeds (inr (inr t)) u = record {
    consumed = subst (λ (zs : List ℕ). Consumes (remaining a) (remaining b) zs)
        (sym (ap (λ (d : Deeds). d.read) t.deeds_are))
        (none-consumed (remaining a) (remaining b) u.left);
    appended = u.appended;
  }
  moves-by (Answering size) session now old new a b deeds t u =
      nothing a b deeds.read deeds.written u (ap (λ (d : Deeds). d.read) t.deeds_are)
      (ap (λ (d : Deeds). d.written) t.deeds_are)
  moves-by Ending session now old new a b deeds t u =
      nothing a b deeds.read deeds.written u (ap (λ (d : Deeds). d.read) t.deeds_are)
      (ap (λ (d : Deeds). d.written) t.deeds_are)
  moves-by Receiving session now old new a b deeds (inl t) u = record {
    consumed = u.consumed;
    appended = subst (λ (zs : List ℕ). Appends (contents a) (contents b) zs)
        (sym t.none_written) (none-appended (contents a) (contents b) u.written);
  }
  moves-by Receiving session now old new a b deeds (inr (inl t)) u = record {
    consumed = u.consumed;
    appended = subst (λ (zs : List ℕ). Appends (contents a) (contents b) zs)
        (sym (ap (λ (d : Deeds). d.written) t.deeds_are))
        (none-appended (contents a) (contents b) u.written);
  }
  moves-by Receiving session now old new a b deeds (inr (inr t)) u = record {
    consumed = u.consumed;
    appended = subst (λ (zs : List ℕ). Appends (contents a) (contents b) zs)
        (sym (ap (λ (d : Deeds). d.written) t.deeds_are))
        (none-appended (contents a) (contents b) u.written);
  }

  moves : (h : Happening) (old : Connection S) (before : Guarded) (new : Connection S)
      (after : Guarded) → HasDone remaining contents h old before new after
      → Moves old.stream new.stream h.deeds.read h.deeds.written
  moves h old before new after t =
      subst (λ (d : Deeds). Moves old.stream new.stream d.read d.written) t.deeds_are
      (moves-by (phase_of old.link) old.session h.clock (scene old before) (scene new after)
      old.stream new.stream t.had.deeds t.had.turn t.had.stream)

  -- all that turns come to
  record Exchange (hs : List Happening) (old : Connection S) (before : Guarded)
      (new : Connection S) (after : Guarded) : Type 0 where
    moved : Moves old.stream new.stream (read_all hs) (written_all hs)
    frames : ComeInOrder (frames_in (history hs)) (old.link.buffer ++ read_all hs) new.link.buffer
    run : IsRun before.state (history hs) after.state
    out : old.link.pending ++ concat (replies_of (history hs))
        ≡ written_all hs ++ new.link.pending

  exchanged : (hs : List Happening) (old : Connection S) (before : Guarded) (new : Connection S)
      (after : Guarded) → HasDoneAll remaining contents hs old before new after
      → Exchange hs old before new after
  exchanged [] old before new after t =
      rw (t.0, t.1) (record {
        moved = nothing old.stream old.stream [] [] refl refl refl;
        frames = record { first = tt; rest = append-nil old.link.buffer };
        run = no-run before.state;
        out = append-nil old.link.pending;
      })
  exchanged (h ∷ hs) old before new after t =
      let mid = t.0 in
      let between = t.1 in
      let done = t.2 in
      let first = moves h old before mid between done in
      let its = subst (λ (d : Deeds). Common (scene old before) (scene mid between) d)
      done.deeds_are (common old.session h.clock (scene old before) (scene mid between)
      done.had.deeds done.had.turn) in
      let later = exchanged hs mid between new after t.3 in
      record {
        moved = record {
          consumed = Consumes-trans (remaining old.stream) (remaining mid.stream)
              (remaining new.stream) h.deeds.read (read_all hs) first.consumed
              later.moved.consumed;
          appended = Appends-trans (contents old.stream) (contents mid.stream)
              (contents new.stream) h.deeds.written (written_all hs) first.appended
              later.moved.appended;
        };
        frames = one old.link.buffer (read_all hs) mid.link.buffer new.link.buffer h.deeds
            (history hs) its.comes later.frames;
        run = both before.state between.state after.state h.deeds.answered (history hs) its.is_run
            later.run;
        out = goes-out old.link.pending mid.link.pending new.link.pending (written_all hs) h.deeds
            (history hs) its.out later.out;
      }

-- known bytes
taken : (known known' : Option (List ℕ)) (given read : List ℕ) → known ≡ Some given
    → Consumes known known' read → (left : List ℕ) × (given ≡ read ++ left) × (known' ≡ Some left)
taken known None given read is t =
    absurd (subst (λ (k : Option (List ℕ)). Consumes k None read) is t)
taken known (Some left) given read is t =
    (left, subst (λ (k : Option (List ℕ)). Consumes k (Some left) read) is t, refl)

grown : (known known' : Option (List ℕ)) (held written : List ℕ) → known ≡ Some held
    → Appends known known' written → known' ≡ Some (held ++ written)
grown known None held written is t =
    absurd (subst (λ (k : Option (List ℕ)). Appends k None written) is t)
grown known (Some all) held written is t =
    ap (λ (zs : List ℕ). Some zs)
    (subst (λ (k : Option (List ℕ)). Appends k (Some all) written) is t)

pub bytes-become-replies : (S : Type 0) → BytesBecomeReplies S
bytes-become-replies S remaining contents hs given held old new before after told holds empty none
    t =
    let its = exchanged remaining contents hs old before new after t in
    let rest = taken (remaining old.stream) (remaining new.stream) given (read_all hs) told
    its.moved.consumed in
    record {
      read = read_all hs;
      left = rest.0;
      given_is = rest.1;
      left_is = rest.2;
      written = written_all hs;
      held_is = grown (contents old.stream) (contents new.stream) held (written_all hs) holds
          its.moved.appended;
      frames = subst (λ (zs : List ℕ). ComeInOrder (frames_in (history hs)) (zs ++ read_all hs)
          new.link.buffer) empty its.frames;
      run = its.run;
      replies = subst (λ (zs : List ℕ). zs ++ concat (replies_of (history hs))
          ≡ written_all hs ++ new.link.pending) none its.out;
    }
