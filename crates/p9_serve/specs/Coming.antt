-- Who comes to a listener.
use Rattle.std.specs.Prelude.{◌≡◌, Bool, List, [], ◌∷◌, ◌++◌, Option, Some, None, if◌then◌else◌}
use Rattle.std.specs.Prelude.{map}

-- of the clients that were still to come, the first ones were given out, with these streams, where
-- it is known who is to come
abbrev pub GivesOut : {S : Type 0} → (coming left : Option (List S)) → List S → Type 0
GivesOut None left given = Unit {0}
GivesOut (Some coming) None given = ⊥
GivesOut (Some coming) (Some left) given = coming ≡ given ++ left

-- a client that was given out: its stream, and whether it was taken in, or dropped
pub record Newcomer (S : Type 0) : Type 0 where
  pub stream : S
  pub taken : Bool

abbrev pub streams_of : {S : Type 0} → List (Newcomer S) → List S
streams_of newcomers = map (λ newcomer. newcomer.stream) newcomers

-- the streams of those that were taken in
abbrev pub taken_in : {S : Type 0} → List (Newcomer S) → List S
taken_in [] = []
taken_in (newcomer ∷ newcomers) =
    (if newcomer.taken then newcomer.stream ∷ [] else []) ++ taken_in newcomers
