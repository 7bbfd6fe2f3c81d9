-- The names of servers.
use Rattle.std.specs.Prelude.{ℕ, List, Option, Some, None, Result, Ok, Err, if◌then◌else◌}
use Rattle.std.specs.List.{list_any}
use Rattle.std.specs.Str.{bytes_eq}
use Rattle.p9_world.specs.declared.unfit.Unfit.{Unfit as UnfitFor}
use Rattle.p9_world.specs.Unfit.{unfit_server}
use Rattle.p9_admin.specs.declared.reason.Reason.{Reason}
use Rattle.p9_admin.specs.declared.reason.Reason.TheVariants.{SameServer, Unfit}

-- a name that no server has yet, unless something is against it
abbrev pub unless_taken : Option UnfitFor → List ℕ → List (List ℕ) → Result (List ℕ) Reason
unless_taken (Some unfit) name servers = Err (Unfit unfit)
unless_taken None name servers =
    if list_any (λ other. bytes_eq other name) servers then Err SameServer else Ok name

-- the name of one server more
abbrev pub new_server : List ℕ → List (List ℕ) → Result (List ℕ) Reason
new_server name servers = unless_taken (unfit_server name) name servers
