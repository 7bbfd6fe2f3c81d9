-- What every turn has in common, whatever it does.
use Rattle.std.proofs.Common.{◌≡◌, ℕ, ◌⊎◌, inl, inr, Bool, true, false, List, [], ◌∷◌, ◌++◌, refl}
use Rattle.std.proofs.Common.{ap, ◌∙◌, append-nil, arith, drop, length, take}
use Rattle.std.proofs.lemmas.Bool.{eqb-true}
use Rattle.std.specs.Prelude.{nat_eq, if◌then◌else◌}
use Rattle.std.specs.List.{AllByRecursion, concat}
use Rattle.p9_wire.specs.Frame.{first_frame}
use Rattle.p9_wire.specs.declared.frame.Frame.{Frame}
use Rattle.p9_wire.specs.declared.frame.Frame.TheVariants.{Need, Whole, Broken}
use Rattle.p9_step.specs.Event.{IsEvent}
use Rattle.p9_step.specs.State.{State}
use Rattle.p9_conn.specs.Turn.{AnswersFrame, Deeds, Ends, Answered, IsIdle, IsStep, IsTurn, Link}
use Rattle.p9_conn.specs.Turn.{Over}
use Rattle.p9_conn.specs.Turn.{Receives, Scene, Sending, Sends, TurnBy, phase_by}
use Rattle.p9_conn.specs.History.{Happening, Happens, Links, events_of, frames_in, replies_of}
use Rattle.p9_conn.specs.Laws.{IsRun}

-- a frame was taken out of the buffer
pub record IsTaken (buffer : List ℕ) (deeds : Deeds) (left : List ℕ) : Type 0 where
  pub size : ℕ
  pub whole : first_frame buffer ≡ Whole size
  pub frame : frames_in deeds.answered ≡ take size buffer ∷ []
  pub no_read : deeds.read ≡ []
  pub rest : left ≡ drop size buffer

-- no frame was, and what was read is in the buffer
pub record IsGathered (buffer : List ℕ) (deeds : Deeds) (left : List ℕ) : Type 0 where
  pub none : frames_in deeds.answered ≡ []
  pub behind : buffer ++ deeds.read ≡ left

pub record Common (old new : Scene) (deeds : Deeds) : Type 0 where
  pub out : old.link.pending ++ concat (replies_of deeds.answered)
      ≡ deeds.written ++ new.link.pending
  pub is_run : IsRun old.state deeds.answered new.state
  pub fine : AllByRecursion (λ event. IsEvent event.0) (events_of deeds.answered)
  pub comes : IsGathered old.link.buffer deeds new.link.buffer
      ⊎ IsTaken old.link.buffer deeds new.link.buffer

pub no-run : (state : State) → IsRun state [] state
no-run state = record { permitted = refl; state_is = refl; replies_are = refl }

one-run : (entry : Answered) (old new : State) → IsStep entry old new → IsRun old (entry ∷ []) new
one-run entry old new step = record {
  permitted = step.permitted;
  state_is = step.state_is;
  replies_are = ap (λ (r : List ℕ). r ∷ []) step.reply_is;
}

idle : (old new : Scene) (deeds : Deeds) → IsIdle old new deeds → Common old new deeds
idle old new deeds t =
    rw (t.deeds_are, t.scene_is) (record {
      out = append-nil old.link.pending;
      is_run = no-run old.state;
      fine = tt;
      comes = inl (record { none = refl; behind = append-nil old.link.buffer });
    })

ends : (session now : ℕ) (old new : Scene) (deeds : Deeds) → Ends session now old new deeds
    → Common old new deeds
ends session now old new deeds t =
    rw (t.deeds_are, t.link_is) (record {
      out = append-nil old.link.pending;
      is_run = one-run _ old.state new.state t.stepped;
      fine = (t.stepped.fine, tt);
      comes = inl (record { none = refl; behind = append-nil old.link.buffer });
    })

sends : (old new : Scene) (deeds : Deeds) → Sends old new deeds → Common old new deeds
sends old new deeds t =
    let buffer : new.link.buffer ≡ old.link.buffer = ap (λ (l : Link). l.buffer) t.link_is in
    rw (t.no_entry, t.state_is, t.no_read, buffer) (record {
      out = append-nil old.link.pending ∙ t.front;
      is_run = no-run old.state;
      fine = tt;
      comes = inl (record { none = refl; behind = append-nil old.link.buffer });
    })

receives : (old new : Scene) (deeds : Deeds) → Receives old new deeds → Common old new deeds
receives old new deeds t =
    rw (t.no_entry, t.state_is, t.none_written, t.link_is) (record {
      out = append-nil old.link.pending;
      is_run = no-run old.state;
      fine = tt;
      comes = inl (record { none = refl; behind = refl });
    })

none-pending : (xs : List ℕ) → nat_eq (length xs) 0 ≡ true → xs ≡ []
none-pending [] e = refl
none-pending (x ∷ xs) e =
    let no : length (x ∷ xs) ≡ 0 = eqb-true (length (x ∷ xs)) 0 e in absurd (omega arith)

answers : (size session now : ℕ) (old new : Scene) (deeds : Deeds)
    → nat_eq (length old.link.pending) 0 ≡ true → first_frame old.link.buffer ≡ Whole size
    → AnswersFrame size session now old new deeds → Common old new deeds
answers size session now old new deeds none whole t =
    let buffer : new.link.buffer ≡ drop size old.link.buffer =
    ap (λ (l : Link). l.buffer) t.link_is in
    rw (t.deeds_are, none-pending old.link.pending none) (record {
      out = append-nil new.link.pending;
      is_run = one-run _ old.state new.state t.stepped;
      fine = (t.stepped.fine, tt);
      comes = inr (record {
        size = size;
        whole = whole;
        frame = refl;
        no_read = refl;
        rest = buffer;
      });
    })

by-frame : (f : Frame) (session now : ℕ) (old new : Scene) (deeds : Deeds)
    → nat_eq (length old.link.pending) 0 ≡ true → first_frame old.link.buffer ≡ f
    → TurnBy (phase_by f) session now old new deeds → Common old new deeds
by-frame Need session now old new deeds none e (inl t) = receives old new deeds t
by-frame Need session now old new deeds none e (inr (inl t)) = idle old new deeds t
by-frame Need session now old new deeds none e (inr (inr t)) = ends session now old new deeds t
by-frame (Whole size) session now old new deeds none e t =
    answers size session now old new deeds none e t
by-frame Broken session now old new deeds none e t = ends session now old new deeds t

by-phase : (closed none : Bool) (session now : ℕ) (old new : Scene) (deeds : Deeds)
    → nat_eq (length old.link.pending) 0 ≡ none
    → TurnBy (if closed then Over
    else (if none then phase_by (first_frame old.link.buffer) else Sending)) session now old new
    deeds
    → Common old new deeds
by-phase true none session now old new deeds e t = idle old new deeds t
by-phase false true session now old new deeds e t =
    by-frame (first_frame old.link.buffer) session now old new deeds e refl t
by-phase false false session now old new deeds e (inl t) = sends old new deeds t
by-phase false false session now old new deeds e (inr (inl t)) = idle old new deeds t
by-phase false false session now old new deeds e (inr (inr t)) = ends session now old new deeds t

pub common : (session now : ℕ) (old new : Scene) (deeds : Deeds)
    → IsTurn session now old new deeds → Common old new deeds
common session now old new deeds t =
    by-phase old.link.closed (nat_eq (length old.link.pending) 0) session now old new deeds refl t

-- what turns have in common, of one turn among many
pub turned : (h : Happening) (links links' : Links) (state state' : State)
    → Happens h links state links' state'
    → Common (record { link = links h.session; state = state })
    (record { link = links' h.session; state = state' }) h.deeds
turned h links links' state state' t =
    common h.session h.clock (record { link = links h.session; state = state })
    (record { link = links' h.session; state = state' }) h.deeds t.turn
