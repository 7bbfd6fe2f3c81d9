-- The turns of one connection, over a stream whose bytes are known.
use Rattle.std.specs.Prelude.{◌≡◌, ℕ, List, [], ◌∷◌, ◌++◌, Option, Some}
use Rattle.std.specs.List.{concat}
use Rattle.p9_guard.specs.Guard.{Guarded}
use Rattle.p9_conn.specs.declared.conn.Turn.{Turn}
use Rattle.p9_conn.specs.Conn.{Connection, HasTurned}
use Rattle.p9_conn.specs.History.{Happening, frames_in, history, replies_of}
use Rattle.p9_conn.specs.Laws.{ComeInOrder, IsRun}
use Rattle.p9_conn.specs.Turn.{phase_of}

module _ {S : Type 0} (remaining contents : S → Option (List ℕ)) where
  -- a connection had a turn, which did these deeds
  pub record HasDone (h : Happening) (old : Connection S) (before : Guarded) (new : Connection S)
      (after : Guarded) : Type 0 where
    pub turn : Turn
    pub had : HasTurned remaining contents (phase_of old.link) h.clock old before new after turn
    pub deeds_are : had.deeds ≡ h.deeds

  -- and turns, one after another
  abbrev pub HasDoneAll : List Happening → (old : Connection S) (before : Guarded)
      (new : Connection S) (after : Guarded) → Type 0
  HasDoneAll [] old before new after = (new ≡ old) × (after ≡ before)
  HasDoneAll (h ∷ hs) old before new after =
      (mid : Connection S) × (between : Guarded) × HasDone h old before mid between
      × HasDoneAll hs mid between new after

  -- of the bytes that were given these were read, and after the bytes that were held these were
  -- written: the frames are those of the bytes read, the guard makes the run of their events, and
  -- what was written, with what is pending, is the replies of that run
  pub record AreExchanged (hs : List Happening) (given held : List ℕ) (before : Guarded)
      (new : Connection S) (after : Guarded) : Type 0 where
    pub read : List ℕ
    pub left : List ℕ
    pub given_is : given ≡ read ++ left
    pub left_is : remaining new.stream ≡ Some left
    pub written : List ℕ
    pub held_is : contents new.stream ≡ Some (held ++ written)
    pub frames : ComeInOrder (frames_in (history hs)) read new.link.buffer
    pub run : IsRun before.state (history hs) after.state
    pub replies : concat (replies_of (history hs)) ≡ written ++ new.link.pending

-- from the bytes read to the bytes written, for a connection that has read and written nothing yet
abbrev pub BytesBecomeReplies : (S : Type 0) → Type 0
BytesBecomeReplies S =
    (remaining contents : S → Option (List ℕ)) (hs : List Happening) (given held : List ℕ)
    (old new : Connection S) (before after : Guarded)
    → remaining old.stream ≡ Some given → contents old.stream ≡ Some held
    → old.link.buffer ≡ [] → old.link.pending ≡ []
    → HasDoneAll remaining contents hs old before new after
    → AreExchanged remaining contents hs given held before new after
