-- Why an input is not sealed.
use Rattle.std.specs.Prelude.{ℕ, Bool, List, [], ◌∷◌, Option, Some, None, if◌then◌else◌}
use Rattle.p9_base.specs.declared.node_ref.NodeRef.{NodeRef}
use Rattle.p9_base.specs.declared.stop.Stop.{Stop}
use Rattle.p9_base.specs.declared.stop.Stop.TheVariants.{Refused as RefusedInput}
use Rattle.p9_base.specs.declared.stop.Stop.TheVariants.{NoMemory as OutOfMemory}
use Rattle.p9_cert.specs.Policy.{policy_of}
use Rattle.p9_fixed.specs.Change.{first_change}
use Rattle.p9_fixed.specs.declared.change.Change.{Change}
use Rattle.p9_nsline.specs.Space.{Report}
use Rattle.p9_prepared.specs.NameSpace.{NameSpace}
use Rattle.p9_prepared.specs.declared.refusal.Refusal.{Refusal}
use Rattle.p9_seal.specs.declared.error.SealError.{SealError}
use Rattle.p9_seal.specs.declared.error.SealError.TheVariants.{Refused, NoMemory}
use Rattle.p9_seal.specs.declared.error.Vacuity.{Vacuity}
use Rattle.p9_seal.specs.declared.error.Vacuity.TheVariants.{FailedOperation, NothingHidden}
use Rattle.p9_seal.specs.declared.error.Vacuity.TheVariants.{NoUsers}

-- there is no listed user
abbrev pub without_users : List (List ℕ) → Option Vacuity
without_users [] = Some NoUsers
without_users (user ∷ users) = None

-- no directory is hidden; else these users are looked at
abbrev pub without_hidden : List NodeRef → List (List ℕ) → Option Vacuity
without_hidden [] users = Some NothingHidden
without_hidden (dir ∷ dirs) users = without_users users

-- an operation failed, and this is the first; else these are looked at
abbrev pub with_reports : List Report → List NodeRef → List (List ℕ) → Option Vacuity
with_reports [] hidden users = without_hidden hidden users
with_reports (report ∷ reports) hidden users = Some (FailedOperation report.0 report.1)

-- the first reason why a yes over the name space would say little
abbrev pub vacuity_of : NameSpace → Option Vacuity
vacuity_of space = with_reports space.reports space.world.hidden space.world.users

-- the same, unless it is wanted anyway
abbrev pub vacuity_against : Bool → NameSpace → Option Vacuity
vacuity_against anyway space = if anyway then None else vacuity_of space

-- the first node that some listed user can change, of all that they come to by a certificate of
-- these rows, where a fixed name space is wished
abbrev pub change_against : Bool → NameSpace → List NodeRef → Option Change
change_against fixed space rows =
    if fixed
    then first_change (policy_of space.world) space.world.forest space.table rows
    else None

-- the error of an input that is refused, or of a failed allocation
abbrev pub error_of_stop : {A : Type 0} → Stop Refusal → SealError A
error_of_stop (RefusedInput refusal) = Refused refusal
error_of_stop OutOfMemory = NoMemory
