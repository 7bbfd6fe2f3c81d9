-- The words of the laws.
use Rattle.std.specs.Prelude.{◌≡◌, ℕ, List, Result, Ok}
use Rattle.p9_wire.specs.Laws.{Spelling}
use Rattle.p9_wire.specs.Frame.{IsBytes}
use Rattle.p9_words.specs.declared.error.Fault.{Fault}
use Rattle.p9_words.specs.Reading.{frame_of_words}

-- what is printed of a message is read as the frame that spells it
abbrev pub ReadsBack : {M : Type 0} → (ℕ → M → List ℕ) → Spelling M → Type 0
ReadsBack {M} words Spells =
    (frame : List ℕ) (tag : ℕ) (m : M) → IsBytes frame → Spells frame tag m
    → frame_of_words (words tag m) ≡ Ok frame

-- what one way reads, the other reads too, whatever the turn
abbrev pub ReadsTheSame : (List ℕ → Result (List ℕ) Fault) → (ℕ → List ℕ → Result (List ℕ) Fault)
    → Type 0
ReadsTheSame whole omitting =
    (turn : ℕ) (line frame : List ℕ) → whole line ≡ Ok frame → omitting turn line ≡ Ok frame
