-- A stream over another, whose bytes may be known.
use Rattle.std.specs.Prelude.{◌≡◌, ℕ, List, [], ◌∷◌, ◌++◌, Option, Result, MatchResult, drop, length, min}
use Rattle.std.specs.Prelude.{take}
use Rattle.std.specs.Io.KnownBytes.{Consumes}
use Rattle.std.specs.Option.{option_map}
use Rattle.p9_restricted.specs.declared.passing.Place.TheVariants.{Before}
use Rattle.p9_restricted.specs.Masked.{Gate, onward}

-- bytes that were read: those that are to be given, and after them those of which too few came
pub record Holding : Type 0 where
  pub ready : List ℕ
  pub undecided : List ℕ

abbrev pub nothing_held : Holding
nothing_held = record { ready = []; undecided = [] }

-- as many of the ready bytes as there is room for are given, and are at the front of it
pub record Gives (old new : Holding) (room : List ℕ) (count : ℕ) : Type 0 where
  pub count_is : count ≡ min (length old.ready) (length room)
  pub given : take count room ≡ take count old.ready
  pub left : new ≡ record old { ready = drop count old.ready }

-- the stream below, the users who may attach, where in the frames the next byte of it is, and what
-- was read of it
pub record Over (S : Type 0) : Type 0 where
  pub stream : S
  pub gate : Gate
  pub held : Holding

-- one of which nothing was read, for these users
abbrev pub new_over : {S : Type 0} → S → List (List ℕ) → Over S
new_over stream users = record {
  stream = stream;
  gate = record { users = users; place = Before 0 };
  held = nothing_held;
}

-- what is given, where these bytes come of the stream below
abbrev pub to_give : Gate → Holding → List ℕ → List ℕ
to_give gate held bytes = held.ready ++ onward gate (held.undecided ++ bytes)

-- the bytes that are left to read, where those of the stream below are known
abbrev pub left_over : {S : Type 0} → (S → Option (List ℕ)) → Over S → Option (List ℕ)
left_over remaining all = option_map (to_give all.gate all.held) (remaining all.stream)

-- these bytes were given: of the stream below some came, and whatever comes behind those, the bytes
-- are the front of what is given of it
pub record Gave {S : Type 0} (remaining : S → Option (List ℕ)) (old new : Over S) (bytes : List ℕ)
    : Type 0 where
  pub came : List ℕ
  pub consumed : Consumes (remaining old.stream) (remaining new.stream) came
  pub front : (behind : List ℕ)
      → to_give old.gate old.held (came ++ behind) ≡ bytes ++ to_give new.gate new.held behind

-- what a read does: an error gives no byte
abbrev pub ReadGave : {S E : Type 0} → (S → Option (List ℕ)) → Over S → Over S → Result ℕ E
    → List ℕ → Type 0
ReadGave remaining old new result bytes =
    MatchResult result (λ count. Gave remaining old new (take count bytes))
    (λ error. Gave remaining old new [])

-- pieces were given, one after another; an error, and a write, give no byte
abbrev pub GaveEach : {S : Type 0} → (S → Option (List ℕ)) → List (List ℕ) → Over S → Over S
    → Type 0
GaveEach remaining [] old new = new ≡ old
GaveEach remaining (bytes ∷ pieces) old new =
    (mid : Over _) × Gave remaining old mid bytes × GaveEach remaining pieces mid new
