-- The bad lines of a world's text.
use Rattle.std.specs.Prelude.{◌≡◌, ℕ, Option, Some, None, Result, Ok, Err}
use Rattle.p9_world.specs.declared.error.LineFault.{LineFault}
use Rattle.p9_world.specs.declared.faults.BadLine.{BadLine}
use Rattle.p9_world.specs.World.{World}

-- a bad line, as its number and what is wrong there
abbrev pub fault_view : BadLine → ℕ × LineFault
fault_view bad = (bad.line, bad.kind)

-- what comes of reading on: the statement's change, or what is wrong with it, and then any world
abbrev pub IsReadOn : Result World (ℕ × LineFault) → World → Option BadLine → Type 0
IsReadOn step new None = step ≡ Ok new
IsReadOn step new (Some bad) = step ≡ Err (fault_view bad)
