-- What one call of a stream does, whose bytes may be known.
use Rattle.std.specs.Prelude.{◌≡◌, ◌≤◌, ℕ, List, ◌++◌, Option, Result, MatchResult, drop, length}
use Rattle.std.specs.Prelude.{take}
use Rattle.std.specs.Io.KnownBytes.{Appends, Consumes, Keeps}

-- bytes came, as many as counted, after those that were there before
pub record CameBehind (remaining remaining' : Option (List ℕ)) (count : ℕ) (old new : List ℕ)
    : Type 0 where
  pub read : List ℕ
  pub count_is : length read ≡ count
  pub behind : new ≡ old ++ read
  pub consumed : Consumes remaining remaining' read

-- one read; an error changes no byte
abbrev pub HasRead : {E : Type 0} → (remaining remaining' : Option (List ℕ)) → Result ℕ E
    → (old new : List ℕ) → Type 0
HasRead remaining remaining' result old new =
    MatchResult result (λ count. CameBehind remaining remaining' count old new)
    (λ error. (new ≡ old) × Keeps remaining remaining')

-- as many bytes as counted went out at the front
pub record WentOut (contents contents' : Option (List ℕ)) (count : ℕ) (old new : List ℕ)
    : Type 0 where
  pub within : count ≤ length old
  pub left : new ≡ drop count old
  pub appended : Appends contents contents' (take count old)

-- one write; an error changes no byte
abbrev pub HasWritten : {E : Type 0} → (contents contents' : Option (List ℕ)) → Result ℕ E
    → (old new : List ℕ) → Type 0
HasWritten contents contents' result old new =
    MatchResult result (λ count. WentOut contents contents' count old new)
    (λ error. (new ≡ old) × Keeps contents contents')
