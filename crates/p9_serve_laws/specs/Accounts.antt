-- What happened in rounds, told turn by turn.
use Rattle.std.specs.Prelude.{ℕ, zero, suc, Bool, true, false, List, [], ◌∷◌, ◌++◌, Option, Some}
use Rattle.std.specs.Prelude.{None}
use Rattle.p9_guard.specs.Guard.{Guarded}
use Rattle.p9_conn.specs.Conn.{Connection}
use Rattle.p9_conn.specs.History.{Happening}
use Rattle.p9_conn.specs.Turn.{Phase, phase_of}
use Rattle.p9_conn.specs.declared.conn.Turn.{Turn}
use Rattle.p9_clients.specs.Serving.{HasTurns, Serving, TurnAt, Turned, slot_at}
use Rattle.p9_clients.specs.declared.clients.Tally.{Tally}
use Rattle.p9_serve.specs.Life.{HasRounds}
use Rattle.p9_serve.specs.Rounds.{AcceptsIf, HasRound, Running, accepts_now, new_server, tally_of}
use Rattle.p9_serve.specs.Served.{WasServed}
use Rattle.p9_serve.specs.declared.server.Round.{Round}

-- a turn: what it was to do, and then its key, its reading of the clock, what it read and wrote,
-- and what it answered
pub record TurnAccount : Type 0 where
  pub phase : Phase
  pub happening : Happening

-- how a round begins: the reading of the clock, and the key of the client that is taken in, if one
-- is
pub record Beginning : Type 0 where
  pub clock : ℕ
  pub arrival : Option ℕ

-- a round: its beginning, its turns in their order, and how it is counted
pub record Account : Type 0 where
  pub beginning : Beginning
  pub turns : List TurnAccount
  pub round : Round

-- the key of the client that an accept took in, if one was made and took in one
abbrev pub arrival_in : {S : Type 0} → (made : Bool) (old new : Serving S) (accepted : ℕ)
    → AcceptsIf made old new accepted → Option ℕ
arrival_in true old new zero accepts = None
arrival_in true old new (suc zero) accepts = Some accepts.1.key
arrival_in true old new (suc (suc more)) accepts = None
arrival_in false old new accepted accepts = None

module _ {S : Type 0} (remaining contents : S → Option (List ℕ)) where
  -- the turn at a key, if there was one
  abbrev pub turns_at : (clock key : ℕ) (conn : Option (Connection S)) (old new : Serving S)
      (turn : Option Turn) → TurnAt remaining contents clock key conn old new turn
      → List TurnAccount
  turns_at clock key None old new turn at = []
  turns_at clock key (Some conn) old new None at = []
  turns_at clock key (Some conn) old new (Some turn) at =
      record {
        phase = phase_of conn.link;
        happening = record { session = key; clock = clock; deeds = at.turned.deeds };
      }
      ∷ []

  -- the turns at so many keys, in their order
  abbrev pub turns_below : (clock keys : ℕ) (old new : Serving S) (turns : List Turn)
      → Turned remaining contents clock keys old new turns → List TurnAccount
  turns_below clock zero old new turns turned = []
  turns_below clock (suc key) old new turns turned =
      turns_below clock key old turned.0 turned.1 turned.3
      ++ turns_at clock key (slot_at turned.0.slots key) turned.0 new turned.2 turned.4

  abbrev pub turns_in : (clock : ℕ) (old new : Serving S) (tally : Tally)
      → HasTurns remaining contents clock old new tally → List TurnAccount
  turns_in clock old new tally had = turns_below clock had.bound old new had.turns had.turned

  abbrev pub account_of : (clock : ℕ) (old new : Running S) (round : Round)
      → HasRound remaining contents clock old new round → Account
  account_of clock old new round had = record {
    beginning = record {
      clock = clock;
      arrival = arrival_in (accepts_now old) old.serving had.between round.accepted had.accepted;
    };
    turns = turns_in clock had.between new.serving (tally_of round) had.turned;
    round = round;
  }

  -- of rounds one after another
  abbrev pub accounts_of : (clocks : List ℕ) (old new : Running S)
      → HasRounds remaining contents clocks old new → List Account
  accounts_of [] old new had = []
  accounts_of (clock ∷ clocks) old new had =
      account_of clock old had.0 had.1 had.2 ∷ accounts_of clocks had.0 new had.3

-- of all rounds in which a guard was served
abbrev pub accounts_served : {S : Type 0} → (remaining contents : S → Option (List ℕ))
    (guard left : Guarded) (rounds : ℕ) (before after : Option (List ℕ))
    → WasServed remaining contents guard rounds before after left → List Account
accounts_served remaining contents guard left rounds before after served =
    accounts_of remaining contents served.had.readings
    (new_server (record { guard = guard; slots = [] })) served.running served.had.happened
