-- Why a line is refused.
use Rattle.std.specs.Prelude.{◌≡◌, ℕ, ◌-◌, List, length, Result, Err}
use Rattle.p9_words.specs.declared.error.Fault.{Fault}
use Rattle.p9_words.specs.declared.error.WordsError.{WordsError}
use Rattle.p9_words.specs.declared.error.WordsError.TheVariants.{Unexpected, NoMemory}

-- what was read of a line is a fault at the place and with the expected word that an error names,
-- unless an allocation failed
abbrev pub IsWordsError : List ℕ → Result (List ℕ) Fault → WordsError → Type 0
IsWordsError line read NoMemory = Unit {0}
IsWordsError line read (Unexpected at expected) =
    (left : ℕ) × (at ≡ length line - left)
    × (read ≡ Err (record { left = left; expected = expected }))
