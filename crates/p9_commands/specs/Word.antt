-- The words for the program's commands.
use Rattle.std.specs.Prelude.{ℕ, List, Option, Some, None, codes, if◌then◌else◌}
use Rattle.std.specs.Str.{bytes_eq}
use Rattle.p9_commands.specs.declared.command.Command.{Command}
use Rattle.p9_commands.specs.declared.command.Command.TheVariants.{Play, Check, Verify, Ns}

-- the command of a word
abbrev pub command_of : List ℕ → Option Command
command_of word =
    if bytes_eq word (codes "play") then Some Play
    else if bytes_eq word (codes "check") then Some Check
    else if bytes_eq word (codes "verify") then Some Verify
    else if bytes_eq word (codes "ns") then Some Ns
    else None
