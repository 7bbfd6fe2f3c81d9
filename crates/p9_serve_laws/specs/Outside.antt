-- What comes from outside: in a turn, in moments one after another, and in rounds.
use Rattle.std.specs.Prelude.{ℕ, Bool, false, List, [], ◌∷◌, Option, length, map}
use Rattle.p9_conn.specs.Turn.{Answered, Answering, Deeds, Ending, Over, Phase, Receiving, Sending}
use Rattle.p9_conn.specs.Turn.{phase_of}
use Rattle.p9_clients.specs.Serving.{Serving}
use Rattle.p9_serve.specs.Life.{Acts, Arrives, Leaves, Moment, Pass, Passes}
use Rattle.p9_serve_laws.specs.Accounts.{Account, Beginning, TurnAccount}

-- A turn.

-- what comes from outside in a turn: nothing does; whether memory was refused to the request; how
-- many bytes the stream took, or which bytes it gave, none where it is to be waited for; or that
-- the stream failed, or moved nothing
pub data Given : Type 0 where
  Nothing : Given
  Memory : (refused : Bool) → Given
  Takes : (count : ℕ) → Given
  Gives : (bytes : List ℕ) → Given
  Fails : Given

-- where a turn that writes or reads has closed its session, the stream failed
abbrev pub unless_closed : List Answered → Given → Given
unless_closed [] given = given
unless_closed (closing ∷ more) given = Fails

-- the mark of a request: whether an allocation failed in it
abbrev pub mark_of : List Answered → Bool
mark_of [] = false
mark_of (request ∷ more) = request.event.1

-- by what the turn is to do
abbrev pub given_in : Phase → Deeds → Given
given_in Over deeds = Nothing
given_in Sending deeds = unless_closed deeds.answered (Takes (length deeds.written))
given_in (Answering size) deeds = Memory (mark_of deeds.answered)
given_in Ending deeds = Nothing
given_in Receiving deeds = unless_closed deeds.answered (Gives deeds.read)

-- Moments.

-- what comes from outside in a moment: that a client comes, and its key; which connection has a
-- turn, at which reading of the clock, and what that is given; or which connection is ended, and
-- when
pub data Outside : Type 0 where
  Comes : (key : ℕ) → Outside
  HasTurn : (key clock : ℕ) → Given → Outside
  IsEnded : (key clock : ℕ) → Outside

module _ {S : Type 0} (remaining contents : S → Option (List ℕ)) where
  abbrev pub outside : (moment : Moment) (old new : Serving S)
      → Passes remaining contents moment old new → Outside
  outside (Arrives key) old new passes = Comes key
  outside (Acts h) old new passes =
      HasTurn h.session h.clock (given_in (phase_of passes.conn.link) h.deeds)
  outside (Leaves key clock) old new passes = IsEnded key clock

  -- of moments one after another
  abbrev pub outsides : (moments : List Moment) (old new : Serving S)
      → Pass remaining contents moments old new → List Outside
  outsides [] old new pass = []
  outsides (moment ∷ moments) old new pass =
      outside moment old pass.0 pass.1 ∷ outsides moments pass.0 new pass.2

-- Rounds.

abbrev pub given_to : TurnAccount → Given
given_to turn = given_in turn.phase turn.happening.deeds

-- what comes from outside in a round: its beginning, and what each of its turns is given, but not
-- which connections have turns
pub record RoundOutside : Type 0 where
  pub beginning : Beginning
  pub given : List Given

abbrev pub round_outside : Account → RoundOutside
round_outside account =
    record { beginning = account.beginning; given = map given_to account.turns }
