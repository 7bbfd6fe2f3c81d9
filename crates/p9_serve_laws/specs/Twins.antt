-- What one server may do, its twin may do.
use Rattle.std.specs.Prelude.{◌≡◌, ℕ, ◌<◌, ◌^◌, List, Option}
use Rattle.std.specs.List.{AllByRecursion}
use Rattle.p9_step.specs.State.{State}
use Rattle.p9_guard.specs.Guard.{Guarded}
use Rattle.p9_guard_laws.specs.Alike.{AreAlike}
use Rattle.p9_clients.specs.Serving.{IsFinished, Serving, in_state}
use Rattle.p9_serve.specs.Life.{Acts, Arrives, HasRounds, Leaves, Moment, Pass}
use Rattle.p9_serve.specs.Rounds.{HasRound, Running}
use Rattle.p9_serve.specs.Served.{WasServed}
use Rattle.p9_serve.specs.declared.server.Round.{Round}
use Rattle.p9_serve_laws.specs.Accounts.{account_of, accounts_of, accounts_served}
use Rattle.p9_serve_laws.specs.Beside.{AreAlikeGuards, AreRunningTwins, AreTwins}

-- a reading of the clock at which a connection leaves has 32 bits
abbrev pub IsTimely : Moment → Type 0
IsTimely (Arrives key) = Unit {0}
IsTimely (Acts h) = Unit {0}
IsTimely (Leaves key clock) = clock < 2 ^ 32

module _ (S : Type 0) where
  -- the same moments: the same replies, and the same bytes read and written, in the same order
  -- among all connections
  abbrev pub TwinsMayPassTheSameMoments : Type 0
  TwinsMayPassTheSameMoments =
      (remaining contents : S → Option (List ℕ)) (moments : List Moment) (old new old' : Serving S)
      → AreTwins old old' → AllByRecursion IsTimely moments
      → Pass remaining contents moments old new
      → (new' : Serving S) × Pass remaining contents moments old' new' × AreTwins new new'

  -- the same round, at the same reading of the clock
  abbrev pub TwinsMayHaveTheSameRound : Type 0
  TwinsMayHaveTheSameRound =
      (remaining contents : S → Option (List ℕ)) (clock : ℕ) (old new old' : Running S)
      (round : Round)
      → AreRunningTwins old old' → (had : HasRound remaining contents clock old new round)
      → (new' : Running S) × (had' : HasRound remaining contents clock old' new' round)
      × (account_of remaining contents clock old' new' round had'
      ≡ account_of remaining contents clock old new round had)
      × AreRunningTwins new new'

  -- rounds one after another
  abbrev pub TwinsMayHaveTheSameRounds : Type 0
  TwinsMayHaveTheSameRounds =
      (remaining contents : S → Option (List ℕ)) (clocks : List ℕ) (old new old' : Running S)
      → AreRunningTwins old old' → (had : HasRounds remaining contents clocks old new)
      → (new' : Running S) × (had' : HasRounds remaining contents clocks old' new')
      × (accounts_of remaining contents clocks old' new' had'
      ≡ accounts_of remaining contents clocks old new had)
      × AreRunningTwins new new'

  -- the end of all sessions
  abbrev pub TwinsMayEndTheSame : Type 0
  TwinsMayEndTheSame =
      (last : ℕ) (old old' : Serving S) (left : Guarded)
      → AreTwins old old' → last < 2 ^ 32 → IsFinished last old left
      → (left' : Guarded) × IsFinished last old' left' × AreAlikeGuards left left'

  -- a guard in a state that is alike may be served the same, and an alike state is left
  abbrev pub AlikeGuardsMayBeServedTheSame : Type 0
  AlikeGuardsMayBeServedTheSame =
      (remaining contents : S → Option (List ℕ)) (guard left : Guarded) (other : State)
      (rounds : ℕ) (before after : Option (List ℕ))
      → AreAlike guard.hidden guard.state other
      → (served : WasServed remaining contents guard rounds before after left)
      → (left' : Guarded)
      × (served' : WasServed remaining contents (in_state guard other) rounds before after left')
      × (accounts_served remaining contents (in_state guard other) left' rounds before after served'
      ≡ accounts_served remaining contents guard left rounds before after served)
      × AreAlikeGuards left left'
