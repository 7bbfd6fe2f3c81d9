-- The directories that are to be hidden.
use Rattle.std.specs.Prelude.{◌≡◌, ℕ, ◌&&◌, Bool, true, false, List, [], ◌∷◌, ◌++◌, find, Option, None, Some}
use Rattle.std.specs.Prelude.{Result, Ok, Err, not, ◌||◌, length, nat_lt, take}
use Rattle.std.specs.List.{list_any}
use Rattle.std.specs.Str.{bytes_eq}
use Rattle.p9_base.specs.declared.stop.Stop.{Stop}
use Rattle.p9_base.specs.declared.stop.Stop.TheVariants.{Refused}
use Rattle.p9_base.specs.Results.{and_then}
use Rattle.p9_clean.specs.Path.{elements_of, is_rooted}
use Rattle.p9_world.specs.declared.unfit.Unfit.{Unfit as UnfitFor}
use Rattle.p9_world.specs.Unfit.{unfit_name}
use Rattle.p9_admin.specs.declared.hide.Hide.{Hide}
use Rattle.p9_admin.specs.declared.hide.HideFault.{HideFault}
use Rattle.p9_admin.specs.declared.hide.HideFault.TheVariants.{NoServer, Root, Unfit, UnknownServer}

-- a directory of a server: the server's name, and the names from its root on
abbrev pub Place : Type 0
Place = List ℕ × List (List ℕ)

-- a text is the name of a server and a colon
abbrev pub is_named : List ℕ → List ℕ → Bool
is_named text server = bytes_eq (server ++ 58 ∷ []) text

-- the only server
abbrev pub only_server : List (List ℕ) → Result (List ℕ) HideFault
only_server (server ∷ []) = Ok server
only_server servers = Err NoServer

-- the server that was found
abbrev pub found_server : Option (List ℕ) → Result (List ℕ) HideFault
found_server None = Err UnknownServer
found_server (Some server) = Ok server

-- where a path leads: the only server, or the one that is named before the path
abbrev pub place_of : Bool → List (List ℕ) → List (List ℕ) → Result Place HideFault
place_of true elements servers = and_then (only_server servers) (λ server. Ok (server, elements))
place_of false [] servers = Err UnknownServer
place_of false (front ∷ names) servers =
    and_then (found_server (find (is_named front) servers)) (λ server. Ok (server, names))

-- the first reason against these names
abbrev pub first_reason : Option UnfitFor → Option UnfitFor → Option UnfitFor
first_reason None other = other
first_reason (Some unfit) other = Some unfit

abbrev pub unfit_names : List (List ℕ) → Option UnfitFor
unfit_names [] = None
unfit_names (name ∷ names) = first_reason (unfit_name name) (unfit_names names)

-- a place, unless something is against its names
abbrev pub unless_unfit : Option UnfitFor → Place → Result Place HideFault
unless_unfit None place = Ok place
unless_unfit (Some unfit) place = Err (Unfit unfit)

-- a place that may be hidden: it is no root
abbrev pub hidable : Place → Result Place HideFault
hidable (server, []) = Err Root
hidable (server, name ∷ names) =
    unless_unfit (unfit_names (name ∷ names)) (server, name ∷ names)

-- the directory that a value names
abbrev pub hide_asked : List ℕ → List (List ℕ) → Result Place HideFault
hide_asked value servers =
    and_then (place_of (is_rooted value) (elements_of value) servers) hidable

-- a stop is for this reason, or an allocation failed
abbrev pub StopsFor : Result Place HideFault → Stop HideFault → Type 0
StopsFor asked stop = (fault : HideFault) → stop ≡ Refused fault → asked ≡ Err fault

-- the place of what is to be hidden
abbrev pub place_view : Hide → Place
place_view hide = (hide.server, hide.path.items)

-- names are equal, one by one
abbrev pub names_eq : List (List ℕ) → List (List ℕ) → Bool
names_eq [] [] = true
names_eq [] (n ∷ ns) = false
names_eq (m ∷ ms) [] = false
names_eq (m ∷ ms) (n ∷ ns) = bytes_eq m n && names_eq ms ns

-- a directory is to be hidden
abbrev pub is_at : Place → Place → Bool
is_at place other = bytes_eq place.0 other.0 && names_eq place.1 other.1

abbrev pub is_hidden : List Place → Place → Bool
is_hidden hides place = list_any (λ hide. is_at hide place) hides

-- what is inside a directory is packed: it is not hidden, or that is asked for
abbrev pub is_entered : List Place → Bool → Place → Bool
is_entered hides with_hidden place = with_hidden || not (is_hidden hides place)

-- a directory is inside another of the same server
abbrev pub is_below : Place → Place → Bool
is_below place other =
    bytes_eq place.0 other.0
    && (nat_lt (length other.1) (length place.1)
    && names_eq (take (length other.1) place.1) other.1)
