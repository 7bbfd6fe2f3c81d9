-- The laws of a server's life.
use Rattle.std.specs.Prelude.{◌≡◌, ℕ, ◌<◌, ◌^◌, List, [], ◌∷◌, ◌++◌, Option, Some, Ok, map}
use Rattle.std.specs.List.{AllByRecursion, concat}
use Rattle.p9_base.specs.declared.node_ref.NodeRef.{NodeRef}
use Rattle.p9_step.specs.State.{State}
use Rattle.p9_guard.specs.Guard.{Guarded}
use Rattle.p9_guard.specs.Headline.{IsPromised}
use Rattle.p9_guard_laws.specs.Guarded.{IsGuardedState}
use Rattle.p9_conn.specs.Conn.{Connection}
use Rattle.p9_conn.specs.History.{events_of, replies_of}
use Rattle.p9_conn.specs.Laws.{IsRun}
use Rattle.p9_commands.specs.Offer.{Offer, Offered}
use Rattle.p9_clients.specs.Serving.{IsFinished, Serving, slot_at}
use Rattle.p9_serve.specs.Life.{Arrives, ArrivesAt, HasRounds, Moment, Pass, answered_at, history}
use Rattle.p9_serve.specs.Life.{stay}
use Rattle.p9_serve.specs.Life.{written_at}
use Rattle.p9_serve.specs.Coming.{GivesOut, Newcomer, streams_of, taken_in}
use Rattle.p9_serve.specs.Rounds.{Running, new_server, untold}
use Rattle.p9_serve.specs.Run.{ClientSocket, Ends, IsServedTo, Known}
use Rattle.p9_serve.specs.Served.{WasServed, WasServedTo}
use Rattle.p9_serve.specs.Visits.{IsAnswered, Visit, visits_in}

-- the state and all replies are those of the run of the openings, messages and closings, in their
-- order; nothing inside a hidden directory has changed, and no byte that any client was answered
-- depends on what is there
pub record IsLife (hidden : List NodeRef) (before : State) (moments : List Moment) (after : State)
    : Type 0 where
  pub run : IsRun before (history moments) after
  pub promised : IsPromised hidden before (events_of (history moments)) after
      (concat (replies_of (history moments)))

-- what a client was sent, and what is pending for it, is its own replies
pub record IsSent (key : ℕ) (moments : List Moment) : Type 0 where
  pub pending : List ℕ
  pub own : concat (replies_of (answered_at key (stay key moments)))
      ≡ written_at key (stay key moments) ++ pending

-- a connection's stream holds what it held at first and then what was written at the key; that, with
-- what is pending, is the replies of the key's turns
pub record HoldsReplies {S : Type 0} (contents : S → Option (List ℕ)) (key : ℕ) (held : List ℕ)
    (moments : List Moment) (conn : Connection S) : Type 0 where
  pub holds : contents conn.stream ≡ Some (held ++ written_at key moments)
  pub own : concat (replies_of (answered_at key moments))
      ≡ written_at key moments ++ conn.link.pending

module _ (S : Type 0) where
  -- a life from clients to clients
  pub record HasLived (remaining contents : S → Option (List ℕ)) (old new : Serving S) : Type 0
    where
      pub moments : List Moment
      pub passed : Pass remaining contents moments old new
      pub life : IsLife old.guard.hidden old.guard.state moments new.guard.state

  -- from a new server, through any rounds, to the end of all sessions
  abbrev pub EveryLifeIsPromised : Type 0
  EveryLifeIsPromised =
      (remaining contents : S → Option (List ℕ)) (guard after : Guarded)
      (nows : List ℕ) (last : ℕ) (running : Running S)
      → IsGuardedState guard.hidden guard.start guard.state
      → AllByRecursion (λ clock. clock < 2 ^ 32) nows → last < 2 ^ 32
      → HasRounds remaining contents nows
      (new_server (record { guard = guard; slots = [] })) running
      → IsFinished last running.serving after
      → (end : Serving S) × (after ≡ end.guard)
      × HasLived remaining contents (record { guard = guard; slots = [] }) end

  -- the life of a guard that was served, from a new server over it to the guard that is left
  pub record HasServedLife (remaining contents : S → Option (List ℕ)) (guard left : Guarded)
      : Type 0 where
    pub end : Serving S
    pub left_is : left ≡ end.guard
    pub lived : HasLived remaining contents (record { guard = guard; slots = [] }) end

  -- a guard that was served has such a life
  abbrev pub EveryServedGuardIsPromised : Type 0
  EveryServedGuardIsPromised =
      (remaining contents : S → Option (List ℕ)) (guard left : Guarded) (rounds : ℕ)
      (before after : Option (List ℕ))
      → WasServed remaining contents guard rounds before after left
      → HasServedLife remaining contents guard left

  -- in any moments, each client that arrives is answered
  abbrev pub EachVisitIsAnswered : Type 0
  EachVisitIsAnswered =
      (remaining contents : S → Option (List ℕ)) (moments : List Moment) (old new : Serving S)
      (passed : Pass remaining contents moments old new)
      → AllByRecursion (IsAnswered remaining contents)
      (visits_in remaining contents moments old new passed)

  -- the life of a guard that was served to clients, who are the first ones of those that were to
  -- come to its listener: each of them was dropped, or its visit is in that life, in their order,
  -- and it was answered
  pub record HasAnswered (remaining contents : S → Option (List ℕ)) (coming : Option (List S))
      (guard left : Guarded) : Type 0 where
    pub life : HasServedLife remaining contents guard left
    pub newcomers : List (Newcomer S)
    pub still : Option (List S)
    pub given : GivesOut coming still (streams_of newcomers)
    pub visits : List (Visit S)
    pub visits_are : visits ≡ visits_in remaining contents life.lived.moments
        (record { guard = guard; slots = [] }) life.end life.lived.passed
    pub entered : map (λ visit. visit.stream) visits ≡ taken_in newcomers
    pub answered : AllByRecursion (IsAnswered remaining contents) visits

  -- so has each guard that was served to them
  abbrev pub EachClientGetsItsReplies : Type 0
  EachClientGetsItsReplies =
      (remaining contents : S → Option (List ℕ)) (coming : Option (List S)) (guard left : Guarded)
      (rounds : ℕ) (before after : Option (List ℕ))
      → WasServedTo remaining contents coming guard rounds before after left
      → HasAnswered remaining contents coming guard left

  -- what a client that arrives at a key is sent is its own replies, until the key is given to
  -- another, also where another had it before
  abbrev pub ClientsAreSentTheirReplies : Type 0
  ClientsAreSentTheirReplies =
      (remaining contents : S → Option (List ℕ)) (earlier later : List Moment)
      (old new : Serving S) (key : ℕ)
      → Pass remaining contents (earlier ++ Arrives key ∷ later) old new → IsSent key later

  -- a stream whose content is known holds the replies to its client, as long as that has the key
  abbrev pub StreamsHoldTheReplies : Type 0
  StreamsHoldTheReplies =
      (remaining contents : S → Option (List ℕ)) (key : ℕ) (old first new : Serving S)
      (arrives : ArrivesAt remaining contents key old first) (moments : List Moment)
      (conn : Connection S) (held : List ℕ)
      → Pass remaining contents moments first new → stay key moments ≡ moments
      → slot_at new.slots key ≡ Some conn → contents arrives.stream ≡ Some held
      → HoldsReplies contents key held moments conn

-- what an input offers has such a life
pub record IsPromisedOffer (offered : Offered) : Type 0 where
  pub offer : Offer
  pub offer_is : offered ≡ Ok offer
  pub left : Guarded
  pub life : HasServedLife ClientSocket untold untold offer.guard left

-- where serving an input ends with status 0, the input offers a guard, whose life was promised
abbrev pub EveryServingIsPromised : Type 0
EveryServingIsPromised =
    (offered : Offered) (rounds : ℕ) (w : Known) → Ends offered rounds w 0
    → IsPromisedOffer offered

module _ (S : Type 0) where
  -- what an input offers has the life of a guard that was served to clients, each of which was
  -- answered
  pub record IsAnsweredOffer (remaining contents : S → Option (List ℕ)) (coming : Option (List S))
      (offered : Offered) (left : Guarded) : Type 0 where
    pub offer : Offer
    pub offer_is : offered ≡ Ok offer
    pub answered : HasAnswered S remaining contents coming offer.guard left

  -- from the bytes of an input to those of each client
  abbrev pub InputsBecomeReplies : Type 0
  InputsBecomeReplies =
      (remaining contents : S → Option (List ℕ)) (coming : Option (List S)) (offered : Offered)
      (rounds : ℕ) (w : Known) (left : Guarded)
      → IsServedTo remaining contents coming offered rounds w left
      → IsAnsweredOffer remaining contents coming offered left
