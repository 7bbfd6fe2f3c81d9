-- What happens to the exporter, one whole event after another.
use Rattle.std.specs.Prelude.{ℕ, ◌<◌, ◌^◌, List}
use Rattle.p9_wire.specs.Frame.{IsBytes}

-- a session is opened, gets a frame at a reading of the clock, and is closed at one
pub data Event : Type 0 where
  Open : (name : ℕ) → Event
  Message : (name : ℕ) (frame : List ℕ) (clock : ℕ) → Event
  Close : (name clock : ℕ) → Event

-- an event that can happen: a frame is of bytes, and a reading of the clock has 32 bits
abbrev pub IsEvent : Event → Type 0
IsEvent (Open name) = Unit {0}
IsEvent (Message name frame clock) = IsBytes frame × (clock < 2 ^ 32)
IsEvent (Close name clock) = clock < 2 ^ 32
