-- The current directory of a namespace file.
use Rattle.std.specs.Prelude.{Result, Ok, Err, if◌then◌else◌}
use Rattle.p9_base.specs.declared.fault.Fault.TheVariants.{NotDirectory}
use Rattle.p9_base.specs.Results.{and_then}
use Rattle.p9_tree.specs.Forest.{is_dir_of}
use Rattle.p9_space.specs.Place.{file_ref}
use Rattle.p9_space.specs.Trail.{here}
use Rattle.p9_nsline.specs.declared.fault.OpFault.{OpFault}
use Rattle.p9_nsline.specs.declared.fault.OpFault.TheVariants.{Path}
use Rattle.p9_nsline.specs.Find.{found}
use Rattle.p9_nsline.specs.Flags.{Word}
use Rattle.p9_nsline.specs.Environment.{Environment}
use Rattle.p9_nsline.specs.Space.{Space}

-- `cd`: into a directory, by the trail on which it was found
abbrev pub entered : Environment → Space → Word → Result Space OpFault
entered environment space dir =
    and_then (found environment space dir) (λ trail.
    if is_dir_of (file_ref (here trail) space.table) environment.forest
    then Ok (record space { current = trail })
    else Err (Path NotDirectory))
