-- The laws of lists of turns.
use Rattle.std.specs.Prelude.{◌≡◌, ℕ, List, [], ◌∷◌, ◌++◌, IsTrue}
use Rattle.std.specs.List.{concat}
use Rattle.p9_base.specs.declared.node_ref.NodeRef.{NodeRef}
use Rattle.p9_wire.specs.Frame.{BrokenSize, Frames, Next, Rest, frames}
use Rattle.p9_step.specs.State.{State}
use Rattle.p9_step.specs.Step.{run}
use Rattle.p9_guard.specs.Headline.{IsPromised}
use Rattle.p9_guard.specs.Marks.{are_permitted}
use Rattle.p9_guard_laws.specs.Grown.{Start}
use Rattle.p9_guard_laws.specs.Guarded.{IsGuardedState}
use Rattle.p9_conn.specs.Turn.{Answered}
use Rattle.p9_conn.specs.History.{Happening, Links, Runs, events_of, frames_in, history, history_by}
use Rattle.p9_conn.specs.History.{read_by, replies_of, written_by}

-- events lead from a state to another, with marks that are permitted, and have these replies
pub record IsRun (old : State) (answered : List Answered) (new : State) : Type 0 where
  pub permitted : IsTrue (are_permitted old (events_of answered))
  pub state_is : new ≡ (run old (events_of answered)).state
  pub replies_are : replies_of answered ≡ (run old (events_of answered)).replies

-- the state and the replies are those of the run of the events that the turns made
abbrev pub HistoryIsRun : Type 0
HistoryIsRun =
    (hs : List Happening) (links links' : Links) (state state' : State)
    → Runs hs links state links' state' → IsRun state (history hs) state'

-- these are the first frames
abbrev pub AreFirst : List (List ℕ) → Frames → Type 0
AreFirst [] others = Unit {0}
AreFirst (frame ∷ more) (Next first others) = (frame ≡ first) × AreFirst more others
AreFirst (frame ∷ more) (Rest bytes) = ⊥
AreFirst (frame ∷ more) BrokenSize = ⊥

-- the frames of a connection that were answered are the first frames of the bytes that it had and
-- those that it read, and what is after them is in its buffer
pub record ComeInOrder (frames_answered : List (List ℕ)) (bytes left : List ℕ) : Type 0 where
  pub first : AreFirst frames_answered (frames bytes)
  pub rest : bytes ≡ concat frames_answered ++ left

abbrev pub FramesComeInOrder : Type 0
FramesComeInOrder =
    (hs : List Happening) (links links' : Links) (state state' : State)
    → Runs hs links state links' state' → (session : ℕ)
    → ComeInOrder (frames_in (history_by session hs))
    ((links session).buffer ++ read_by session hs) (links' session).buffer

-- what was pending, and the replies, are what was written and what is pending
abbrev pub RepliesGoOut : Type 0
RepliesGoOut =
    (hs : List Happening) (links links' : Links) (state state' : State)
    → Runs hs links state links' state' → (session : ℕ)
    → (links session).pending ++ concat (replies_of (history_by session hs))
    ≡ written_by session hs ++ (links' session).pending

-- the headline, of all that the connections were answered
abbrev pub HistoryIsPromised : Type 0
HistoryIsPromised =
    (hidden : List NodeRef) (start : Start) (hs : List Happening) (links links' : Links)
    (state state' : State)
    → IsGuardedState hidden start state → Runs hs links state links' state'
    → IsPromised hidden state (events_of (history hs)) state'
    (concat (replies_of (history hs)))
