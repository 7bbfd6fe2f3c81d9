-- A guard that was served: a new server over it, its rounds, and the end of all sessions.
use Rattle.std.specs.Prelude.{◌≡◌, ℕ, ◌≤◌, ◌<◌, ◌^◌, List, [], ◌∷◌, Option, length}
use Rattle.std.specs.List.{AllByRecursion}
use Rattle.std.specs.Io.KnownBytes.{Appends}
use Rattle.p9_guard.specs.Guard.{Guarded}
use Rattle.p9_guard_laws.specs.Guarded.{IsGuardedState}
use Rattle.p9_clients.specs.Serving.{IsFinished}
use Rattle.p9_serve.specs.Coming.{GivesOut, Newcomer, streams_of, taken_in}
use Rattle.p9_serve.specs.Life.{HasRounds, entered_all}
use Rattle.p9_serve.specs.Rounds.{Hosting, Running, new_server}

-- the last of some readings, or else the one before them
abbrev pub last_after : (before : ℕ) → List ℕ → ℕ
last_after before [] = before
last_after before (reading ∷ readings) = last_after reading readings

-- Over streams whose bytes may be known.
module _ {S : Type 0} (remaining contents : S → Option (List ℕ)) where
  -- so many rounds happened, one after another, each at a reading that the clock gave meanwhile.
  -- There was no other reading. The last one is this, or 0 where there was no round
  pub record HadRounds (rounds last : ℕ) (before after : Option (List ℕ)) (old new : Running S)
      : Type 0 where
    pub readings : List ℕ
    pub count : length readings ≡ rounds
    pub small : AllByRecursion (λ reading. reading < 2 ^ 32) readings
    pub given : Appends before after readings
    pub last_is : last ≡ last_after 0 readings
    pub happened : HasRounds remaining contents readings old new

  -- and these clients came in them, no more than one in a round
  pub record HadHostedRounds (rounds last : ℕ) (before after : Option (List ℕ))
      (old new : Hosting S) : Type 0 where
    pub had : HadRounds rounds last before after old.running new.running
    pub newcomers : List (Newcomer S)
    pub few : length newcomers ≤ rounds
    pub given : GivesOut old.coming new.coming (streams_of newcomers)
    pub entered : entered_all remaining contents had.readings old.running new.running had.happened
        ≡ taken_in newcomers

  -- only some of so many rounds happened
  pub record HadFewer (rounds : ℕ) (before after : Option (List ℕ)) (old new : Hosting S) : Type 0
    where
      pub done : ℕ
      pub fewer : done < rounds
      pub last : ℕ
      pub had : HadHostedRounds done last before after old new

  -- a guard was served: a new server over it had so many rounds, and then all sessions were ended
  -- at the last reading of the clock. This guard is left. It is not said which clients came, and
  -- what they sent
  pub record WasServed (guard : Guarded) (rounds : ℕ) (before after : Option (List ℕ))
      (left : Guarded) : Type 0 where
    pub guarded : IsGuardedState guard.hidden guard.start guard.state
    pub last : ℕ
    pub running : Running S
    pub had : HadRounds rounds last before after
        (new_server (record { guard = guard; slots = [] })) running
    pub finished : IsFinished last running.serving left

  -- and these are the clients that came, of those that were to come to its listener, no more than
  -- one in a round
  pub record WasServedTo (coming : Option (List S)) (guard : Guarded) (rounds : ℕ)
      (before after : Option (List ℕ)) (left : Guarded) : Type 0 where
    pub served : WasServed guard rounds before after left
    pub newcomers : List (Newcomer S)
    pub few : length newcomers ≤ rounds
    pub still : Option (List S)
    pub given : GivesOut coming still (streams_of newcomers)
    pub entered : entered_all remaining contents served.had.readings
        (new_server (record { guard = guard; slots = [] })) served.running served.had.happened
        ≡ taken_in newcomers
