-- A line 'user NAME'.
use Rattle.std.specs.Prelude.{ℕ, not, List, [], ◌∷◌, ◌++◌, Result, Ok}
use Rattle.p9_base.specs.User.{is_listed_user, is_user}
use Rattle.p9_base.specs.Results.{need}
use Rattle.p9_world.specs.declared.error.LineFault.{LineFault}
use Rattle.p9_world.specs.declared.error.LineFault.TheVariants.{BadUser, Duplicate}
use Rattle.p9_world.specs.World.{World}

-- what comes of a world by 'user NAME': the user joins those that are listed
abbrev pub user_line : List ℕ → World → Result World LineFault
user_line name w =
    need (is_user name) BadUser (
    need (not (is_listed_user w.users name)) Duplicate (
    Ok (record w { users = w.users ++ name ∷ [] })))
