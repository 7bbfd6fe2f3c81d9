-- A server's rounds: at most one client is taken in, and then each has a turn.
use Rattle.std.specs.Prelude.{◌≡◌, ℕ, zero, suc, ◌≤◌, ◌||◌, Bool, true, false, List, [], ◌∷◌, Option}
use Rattle.std.specs.Prelude.{None, if◌then◌else◌, length}
use Rattle.p9_clients.specs.Serving.{HasTurns, IsTakenIn, Serving, has_nobody}
use Rattle.p9_clients.specs.declared.clients.Tally.{Tally}
use Rattle.p9_serve.specs.Coming.{GivesOut, Newcomer, streams_of, taken_in}
use Rattle.p9_serve.specs.Pace.{Pacing, is_due, new_pacing, pacing_after}
use Rattle.p9_serve.specs.declared.server.Round.{Round}

-- the clients of a server, and what its rounds so far say of when it accepts and rests
pub record Running (S : Type 0) : Type 0 where
  pub serving : Serving S
  pub pace : Pacing

-- a server that had no round yet
abbrev pub new_server : {S : Type 0} → Serving S → Running S
new_server serving = record { serving = serving; pace = new_pacing }

-- whether the next round accepts: where that is due, and where there is no client
abbrev pub accepts_now : {S : Type 0} → Running S → Bool
accepts_now running = is_due running.pace || has_nobody running.serving

-- an accept took in nobody, or one client, whose stream is this one
abbrev pub Accepts : {S : Type 0} → Serving S → Serving S → ℕ → Type 0
Accepts old new zero = new ≡ old
Accepts {S} old new (suc zero) = (stream : S) × IsTakenIn stream old new
Accepts {S} old new (suc (suc more)) = ⊥

-- an accept where one is made; else nobody is taken in
abbrev pub AcceptsIf : {S : Type 0} → (made : Bool) → Serving S → Serving S → (accepted : ℕ)
    → Type 0
AcceptsIf true old new accepted = Accepts old new accepted
AcceptsIf false old new accepted = (new ≡ old) × (accepted ≡ 0)

-- the stream of the client that an accept took in, if one was made and took in one
abbrev pub entered_by : {S : Type 0} → (made : Bool) (old new : Serving S) (accepted : ℕ)
    → AcceptsIf made old new accepted → List S
entered_by true old new zero accepts = []
entered_by true old new (suc zero) accepts = accepts.0 ∷ []
entered_by true old new (suc (suc more)) accepts = []
entered_by false old new accepted accepts = []

-- a round's turns, as they are counted
abbrev pub tally_of : Round → Tally
tally_of round = record { moved = round.moved; closed = round.closed }

-- a round at this reading of the clock, over streams whose bytes may be known: an accept, if
-- one is made, and then a turn of each connection
pub record HasRound {S : Type 0} (remaining contents : S → Option (List ℕ)) (clock : ℕ)
    (old new : Running S) (round : Round) : Type 0 where
  pub between : Serving S
  pub accepted : AcceptsIf (accepts_now old) old.serving between round.accepted
  pub turned : HasTurns remaining contents clock between new.serving (tally_of round)
  pub pace_is : new.pace ≡ pacing_after old.pace round

-- a server's rounds so far, and who is still to come to its listener, where that is known
pub record Hosting (S : Type 0) : Type 0 where
  pub running : Running S
  pub coming : Option (List S)

-- an accept, where one is made, and who came: nobody where none is made, and else one client at
-- most, who was taken in or dropped
pub record Admits {S : Type 0} (made : Bool) (old new : Serving S) (coming left : Option (List S))
    (accepted : ℕ) : Type 0 where
  pub accepts : AcceptsIf made old new accepted
  pub newcomers : List (Newcomer S)
  pub few : length newcomers ≤ (if made then 1 else 0)
  pub given : GivesOut coming left (streams_of newcomers)
  pub entered : entered_by made old new accepted accepts ≡ taken_in newcomers

module _ {S : Type 0} (remaining contents : S → Option (List ℕ)) where
  -- the stream of the client that was taken in in a round, if one was
  abbrev pub entered_in : (clock : ℕ) (old new : Running S) (round : Round)
      → HasRound remaining contents clock old new round → List S
  entered_in clock old new round had =
      entered_by (accepts_now old) old.serving had.between round.accepted had.accepted

  -- a round, and who came
  pub record HasHostedRound (clock : ℕ) (old new : Hosting S) (round : Round) : Type 0 where
    pub had : HasRound remaining contents clock old.running new.running round
    pub newcomers : List (Newcomer S)
    pub few : length newcomers ≤ (if accepts_now old.running then 1 else 0)
    pub given : GivesOut old.coming new.coming (streams_of newcomers)
    pub entered : entered_in clock old.running new.running round had ≡ taken_in newcomers

-- of a socket no bytes are known
abbrev pub untold : {S : Type 0} → S → Option (List ℕ)
untold socket = None
