-- What a function that may lack memory has to answer.
use Rattle.std.specs.Prelude.{◌≡◌, Bool, true, false, List, Result, Ok, Err, Vec, map}
use Rattle.std.specs.Prelude.{if◌then◌else◌}
use Rattle.p9_nsline.specs.declared.line.Line.{Line}
use Rattle.p9_nsline.specs.Line.{NumberedLine, line_view}
use Rattle.p9_base.specs.declared.fault.Fault as fault
use Rattle.p9_base.specs.declared.fault.Fault.TheVariants as faults
use Rattle.p9_nsline.specs.declared.fault.OpFault.TheVariants.{Path}
use Rattle.p9_nsline.specs.declared.fault.OpFault.{OpFault}
use Rattle.p9_base.specs.declared.stop.Stop.{Stop}
use Rattle.p9_base.specs.declared.stop.Stop.TheVariants.{Refused, NoMemory}
use Rattle.p9_nsline.specs.Space.{Space}

-- the value, or the fault; a failed allocation says nothing
abbrev pub Gives : {X : Type 0} → Result X OpFault → Result X (Stop OpFault) → Type 0
Gives answer (Ok value) = answer ≡ Ok value
Gives answer (Err (Refused fault)) = answer ≡ Err fault
Gives answer (Err NoMemory) = Unit {0}

-- the name space is the answer's; at a fault it is unchanged; of a failed allocation nothing is
-- said
abbrev pub Acts : {U : Type 0} → Result Space OpFault → Space → Space → Result U (Stop OpFault) → Type 0
Acts answer old new (Ok u) = answer ≡ Ok new
Acts answer old new (Err (Refused fault)) = (answer ≡ Err fault) × (new ≡ old)
Acts answer old new (Err NoMemory) = Unit {0}

-- a failed allocation, among the faults of a walk
abbrev pub is_memory : fault.Fault → Bool
is_memory faults.OutOfMemory = true
is_memory other = false

-- why a walk ends
abbrev pub walk_stop : fault.Fault → Stop OpFault
walk_stop fault = if is_memory fault then NoMemory else Refused (Path fault)

-- the lines, or the fault
abbrev pub GivesLines : {A : Type 0} → Result (List NumberedLine) OpFault → Result (Vec Line A) (Stop OpFault)
    → Type 0
GivesLines answer (Ok lines) = answer ≡ Ok (map line_view lines.items)
GivesLines answer (Err (Refused fault)) = answer ≡ Err fault
GivesLines answer (Err NoMemory) = Unit {0}
