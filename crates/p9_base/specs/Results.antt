-- Values that may be refused, and what a list does, one item after another, until one is refused.
use Rattle.std.specs.Prelude.{Bool, List, [], ◌∷◌, Option, None, Some, Result, Ok, Err}
use Rattle.std.specs.Prelude.{if◌then◌else◌}

-- what comes of a value, unless it is an error
abbrev pub and_then : {S T E : Type 0} → Result S E → (S → Result T E) → Result T E
and_then (Ok value) continue = continue value
and_then (Err error) continue = Err error

-- The tests that are before a result, one after another. Proofs don't unfold them unless they say
-- so, and thus take one test at a time.

-- goes on where the test passes
unfoldable pub need : {X E : Type 0} → Bool → E → Result X E → Result X E
need test error rest = if test then rest else Err error

-- goes on with the value, where there is one
unfoldable pub obtain : {X Y E : Type 0} → Option X → E → (X → Result Y E) → Result Y E
obtain None error rest = Err error
obtain (Some x) error rest = rest x

-- goes on where there is no error
unfoldable pub unless : {X E : Type 0} → Option E → Result X E → Result X E
unless None rest = rest
unless (Some error) rest = Err error

-- what the items make of a start, in their order: the last value, or the first error
abbrev pub try_fold : {S X E : Type 0} → (S → X → Result S E) → S → List X → Result S E
try_fold step start [] = Ok start
try_fold step start (x ∷ xs) = and_then (step start x) (λ next. try_fold step next xs)
