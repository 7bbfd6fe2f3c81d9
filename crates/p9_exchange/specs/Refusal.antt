-- Why nothing is written.
use Rattle.std.specs.Prelude.{◌≡◌, ℕ, ◌-◌, List, length, Result, Ok, Err}
use Rattle.p9_words.specs.declared.error.Fault.{Fault}
use Rattle.p9_exchange.specs.declared.refusal.Refusal.{Refusal}
use Rattle.p9_exchange.specs.declared.refusal.Refusal.TheVariants.{BadLine}
use Rattle.p9_base.specs.declared.stop.Stop.{Stop}
use Rattle.p9_base.specs.declared.stop.Stop.TheVariants.{Refused, NoMemory}

-- a fault of a line, by the line's number and the place in the line
abbrev pub or_refused : {X : Type 0} → ℕ × List ℕ → Result X Fault → Result X Refusal
or_refused numbered (Ok x) = Ok x
or_refused numbered (Err fault) =
    Err (BadLine numbered.0 (length numbered.1 - fault.left) fault.expected)

-- what stops is the reason that is printed, unless an allocation failed
abbrev pub IsStop : {X : Type 0} → Result X Refusal → Stop Refusal → Type 0
IsStop made NoMemory = Unit {0}
IsStop made (Refused refusal) = made ≡ Err refusal

-- what a function returned, seen by view, is what is made, unless an allocation failed
abbrev pub Makes : {X Y : Type 0} → (X → Y) → Result X (Stop Refusal) → Result Y Refusal → Type 0
Makes view (Ok x) made = made ≡ Ok (view x)
Makes view (Err stop) made = IsStop made stop
