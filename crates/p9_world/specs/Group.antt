-- A line 'group NAME LEADER [MEMBER ...]'.
use Rattle.std.specs.Prelude.{◌≡◌, ℕ, ◌&&◌, Bool, true, false, not, List, [], ◌∷◌, Result, Ok}
use Rattle.std.specs.Prelude.{is_some}
use Rattle.std.specs.List.{list_all, list_any}
use Rattle.std.specs.Str.{bytes_eq}
use Rattle.p9_base.specs.Group.{group_of, with_group}
use Rattle.p9_base.specs.User.{is_user}
use Rattle.p9_base.specs.Results.{need}
use Rattle.p9_world.specs.declared.error.LineFault.{LineFault}
use Rattle.p9_world.specs.declared.error.LineFault.TheVariants.{BadUser, Duplicate}
use Rattle.p9_base.specs.declared.stop.Stop.{Stop}
use Rattle.p9_base.specs.declared.stop.Stop.TheVariants.{Refused, NoMemory}
use Rattle.p9_world.specs.World.{World}

-- no text is there twice
abbrev pub are_distinct : List (List ℕ) → Bool
are_distinct [] = true
are_distinct (text ∷ texts) = not (list_any (bytes_eq text) texts) && are_distinct texts

-- what comes of a world by 'group NAME LEADER [MEMBER ...]': a group of this name, which has none
-- yet, of this leader and these members
abbrev pub group_line : (name leader : List ℕ) (members : List (List ℕ)) → World
    → Result World LineFault
group_line name leader members w =
    need (list_all is_user (name ∷ leader ∷ members)) BadUser (
    need (not (is_some (group_of name w.groups))) Duplicate (
    need (are_distinct members) Duplicate (
    Ok (record w {
      groups = with_group name (record { leader = leader; members = members }) w.groups;
    }))))

-- an error of a reader of users: one of them is none, or an allocation fails
abbrev pub IsBadUser : Stop LineFault → Bool → Type 0
IsBadUser (Refused fault) valid = (fault ≡ BadUser) × (valid ≡ false)
IsBadUser NoMemory valid = Unit {0}
