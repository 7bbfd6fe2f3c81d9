-- The clients that came in a life, one after another, and what became of each.
use Rattle.std.specs.Prelude.{◌≡◌, ℕ, ◌==◌, List, [], ◌∷◌, ◌++◌, Option, if◌then◌else◌}
use Rattle.std.specs.List.{concat}
use Rattle.std.specs.Io.KnownBytes.{Appends, Consumes}
use Rattle.p9_conn.specs.Conn.{Connection, new_connection}
use Rattle.p9_conn.specs.History.{frames_in, replies_of}
use Rattle.p9_conn.specs.Laws.{ComeInOrder}
use Rattle.p9_conn.specs.Turn.{Deeds}
use Rattle.p9_clients.specs.Serving.{Serving}
use Rattle.p9_serve.specs.Life.{Acts, Arrives, Leaves, Moment, Pass, answered_at, read_at, stay}
use Rattle.p9_serve.specs.Life.{written_at}

-- a client's visit: its stream as it came, its connection after the last of its turns, and all that
-- these turns read, wrote and answered
pub record Visit (S : Type 0) : Type 0 where
  pub stream : S
  pub last : Connection S
  pub deeds : Deeds

-- all that the turns at a key did, until it is given to another client
abbrev pub deeds_at : (key : ℕ) → List Moment → Deeds
deeds_at key moments = record {
  read = read_at key (stay key moments);
  written = written_at key (stay key moments);
  answered = answered_at key (stay key moments);
}

module _ {S : Type 0} (remaining contents : S → Option (List ℕ)) where
  -- the connection at a key after its last turn, until the key is given to another client
  abbrev pub last_at : (key : ℕ) → Connection S → (moments : List Moment) (old new : Serving S)
      → Pass remaining contents moments old new → Connection S
  last_at key conn [] old new pass = conn
  last_at key conn (Arrives other ∷ moments) old new pass =
      if other == key then conn else last_at key conn moments pass.0 new pass.2
  last_at key conn (Acts h ∷ moments) old new pass =
      last_at key (if h.session == key then pass.1.had.after else conn) moments pass.0 new pass.2
  last_at key conn (Leaves other clock ∷ moments) old new pass =
      last_at key conn moments pass.0 new pass.2

  -- the visits, in the order of the arrivals
  abbrev pub visits_in : (moments : List Moment) (old new : Serving S)
      → Pass remaining contents moments old new → List (Visit S)
  visits_in [] old new pass = []
  visits_in (Arrives key ∷ moments) old new pass =
      record {
        stream = pass.1.stream;
        last = last_at key (new_connection pass.1.stream key) moments pass.0 new pass.2;
        deeds = deeds_at key moments;
      }
      ∷ visits_in moments pass.0 new pass.2
  visits_in (Acts h ∷ moments) old new pass = visits_in moments pass.0 new pass.2
  visits_in (Leaves key clock ∷ moments) old new pass = visits_in moments pass.0 new pass.2

  -- from the bytes that a client sent to those that it got: what was read of its stream is what that
  -- gave, its frames are the first ones of those bytes, and its stream holds what it held, and then
  -- the replies to these frames, up to what is pending. Of a stream that doesn't tell its bytes it
  -- isn't said which it gave, or which it holds
  pub record IsAnswered (visit : Visit S) : Type 0 where
    pub gave : Consumes (remaining visit.stream) (remaining visit.last.stream) visit.deeds.read
    pub holds : Appends (contents visit.stream) (contents visit.last.stream) visit.deeds.written
    pub frames : ComeInOrder (frames_in visit.deeds.answered) visit.deeds.read
        visit.last.link.buffer
    pub replies : concat (replies_of visit.deeds.answered)
        ≡ visit.deeds.written ++ visit.last.link.pending
