-- Why a world can't have what a text or a number says.
use Rattle.std.specs.Prelude.{ℕ, ◌&&◌, nat_le, List, Option, Some, None, Result, Ok, Err}
use Rattle.std.specs.Prelude.{if◌then◌else◌}
use Rattle.p9_base.specs.Name.{is_name}
use Rattle.p9_base.specs.User.{is_user}
use Rattle.p9_tree.specs.Bytes.{file_max}
use Rattle.p9_world.specs.declared.unfit.Unfit.{Unfit}
use Rattle.p9_world.specs.declared.unfit.Unfit.TheVariants.{BlankInName, BlankInServer}
use Rattle.p9_world.specs.declared.unfit.Unfit.TheVariants.{BlankInUser, NotName, NotServer, NotUser}
use Rattle.p9_world.specs.declared.unfit.Unfit.TheVariants.{TooLarge}
use Rattle.p9_world.specs.Server.{is_server_name}
use Rattle.p9_world.specs.Word.{is_plain}

-- why no file has this name
abbrev pub unfit_name : List ℕ → Option Unfit
unfit_name text =
    if is_name text then (if is_plain text then None else Some BlankInName) else Some NotName

-- why no user or group has this name
abbrev pub unfit_user : List ℕ → Option Unfit
unfit_user text =
    if is_user text then (if is_plain text then None else Some BlankInUser) else Some NotUser

-- why no server has this name
abbrev pub unfit_server : List ℕ → Option Unfit
unfit_server text =
    if is_user text && is_server_name text
    then (if is_plain text then None else Some BlankInServer)
    else Some NotServer

-- why no file has so many bytes
abbrev pub unfit_size : ℕ → Result (Unit {0}) Unfit
unfit_size len = if nat_le len file_max then Ok tt else Err TooLarge
