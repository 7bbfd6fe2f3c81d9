-- What the words of the command line ask for, and how `clap` is told to read them.
use Rattle.std.specs.Prelude.{List, [], ◌∷◌, Option, Some, None, codes, true}
use Rattle.std.specs.Prelude.{if◌then◌else◌}
use Rattle.std.specs.Str.{bytes_eq}
use Rattle.clap.specs.Words.{App, Text, new_app, with_subcommand}
use Rattle.p9_fcall.specs.declared.words.Command.{Command}
use Rattle.p9_fcall.specs.declared.words.Command.TheVariants.{Frames, Exchange}

-- the command of a word
abbrev pub known : Text → Option Command
known word =
    if bytes_eq word (codes "frames") then Some Frames
    else if bytes_eq word (codes "exchange") then Some Exchange
    else None

-- the command that the words ask for, of which the first is the program's name: `frames` if no word
-- follows it; if one follows, the command of that name; if more do, none
abbrev pub asked_by : List Text → Option Command
asked_by [] = Some Frames
asked_by (program ∷ []) = Some Frames
asked_by (program ∷ word ∷ []) = known word
asked_by (program ∷ word ∷ another ∷ more) = None

-- the command that is asked for by a subcommand's name, as `clap` read it, and by the words: the
-- only word has to be the name
abbrev pub asked_with : Option Text → List Text → Option Command
asked_with None [] = Some Frames
asked_with None (program ∷ []) = Some Frames
asked_with None (program ∷ word ∷ more) = None
asked_with (Some name) [] = None
asked_with (Some name) (program ∷ []) = None
asked_with (Some name) (program ∷ word ∷ []) = if bytes_eq word name then known name else None
asked_with (Some name) (program ∷ word ∷ another ∷ more) = None

-- a command without a help flag
abbrev pub without_help : Text → App
without_help name = let app = new_app name in
    record app { top = record app.top { disable_help_flag = true } }

-- the program without its subcommands: it has no flags
abbrev pub bare_program : App
bare_program = let app = without_help (codes "p9_fcall") in record app {
  top = record app.top { disable_version_flag = true; disable_help_subcommand = true };
}

-- with the subcommand of this name
abbrev pub with_command : Text → App → App
with_command name app = with_subcommand app (without_help name).top

-- the program: these subcommands, and nothing else
abbrev pub program_app : App
program_app = with_command (codes "exchange") (with_command (codes "frames") bare_program)
