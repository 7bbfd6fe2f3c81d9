-- What the words of the command line ask for, and how `clap` is set up to read them.
use Rattle.std.specs.Prelude.{◌≡◌, ℕ, zero, suc, Bool, MatchBool, List, [], ◌∷◌, Option, Some, None}
use Rattle.std.specs.Prelude.{codes, false, option_and_then, true, if◌then◌else◌}
use Rattle.std.specs.List.{list_any}
use Rattle.std.specs.Net.Grammar.{IsSocketText}
use Rattle.std.specs.Str.{bytes_eq}
use Rattle.std.specs.declared.net.socket_addr.SocketAddr.{SocketAddr}
use Rattle.clap.specs.Faults.{fault_of}
use Rattle.clap.specs.Words.{App, Row, Rule, Text, first_of, new_app, new_rule, subcommand_of}
use Rattle.clap.specs.Words.{with_rule, with_subcommand}
use Rattle.clap.specs.declared.builder.action.ArgAction.TheVariants.{Set}
use Rattle.clap.specs.declared.builder.command.Command.{Command as Subcommand}
use Rattle.clap.specs.declared.builder.command.Command.TheViews.{out-Command}
use Rattle.p9_base.specs.Decimal.{number_of}
use Rattle.p9_commands.specs.Word.{command_of}
use Rattle.p9_commands.specs.declared.command.Command.{Command as Named}
use Rattle.p9_commands.specs.declared.command.Command.TheVariants.{Play}
use Rattle.p9_asked.specs.declared.words.Asked.{Asked}
use Rattle.p9_asked.specs.declared.words.Asked.TheVariants.{Command, Serve}

-- Commands.

-- the command that the words ask for, of which the first is the program's name: `play` if no word
-- follows it; if one follows, the command of that word; if more do, none
abbrev pub asked_by : List Text → Option Named
asked_by [] = Some Play
asked_by (program ∷ []) = Some Play
asked_by (program ∷ word ∷ []) = command_of word
asked_by (program ∷ word ∷ another ∷ more) = None

-- the command that is asked for by a subcommand's name, as `clap` read it, and by the words: the
-- only word has to be the name
abbrev pub asked_with : Option Text → List Text → Option Named
asked_with None [] = Some Play
asked_with None (program ∷ []) = Some Play
asked_with None (program ∷ word ∷ more) = None
asked_with (Some name) [] = None
asked_with (Some name) (program ∷ []) = None
asked_with (Some name) (program ∷ word ∷ []) = if bytes_eq word name then command_of name else None
asked_with (Some name) (program ∷ word ∷ another ∷ more) = None

-- How `clap` is set up.

-- a command without a help flag
abbrev pub without_help : Text → App
without_help name = let app = new_app name in
    record app { top = record app.top { disable_help_flag = true } }

-- the program without its subcommands: it has no flags
abbrev pub bare_program : App
bare_program = let app = without_help (codes "p9") in record app {
  top = record app.top { disable_version_flag = true; disable_help_subcommand = true };
}

-- with the subcommand of this name
abbrev pub with_command : Text → App → App
with_command name app = with_subcommand app (without_help name).top

-- an option of one letter, which has to be there, with one value
abbrev pub option : Text → ℕ → Rule
option name letter =
    record (new_rule name) { short = Some letter; action = Some Set; required = true }

-- the subcommand that serves, with the options -a and -r
abbrev pub serve_app : App
serve_app =
    with_rule (with_rule (without_help (codes "serve")) (option (codes "address") 97))
    (option (codes "rounds") 114)

-- a subcommand has no option that those below it have too
abbrev pub IsLocal : Subcommand → Type 0
IsLocal command = (out-Command command).has_globals ≡ false

-- the program: these subcommands, and nothing else
abbrev pub program_app : App
program_app =
    with_subcommand
    (with_command (codes "ns")
    (with_command (codes "verify")
    (with_command (codes "check") (with_command (codes "play") bare_program)))) serve_app.top

-- Serving.

-- whether `--` is among the words
abbrev pub has_end : List Text → Bool
has_end words = list_any (λ word. bytes_eq word (codes "--")) words

-- the text of an option of `serve`, among what `clap` read of a subcommand
abbrev pub value_of : Text → Text × List Row → Option Text
value_of option (name, rows) = if bytes_eq name (codes "serve") then first_of option rows else None

-- the same, as `clap` reads the words
abbrev pub value_in : Text → List Text → Option Text
value_in option words = option_and_then (value_of option) (subcommand_of program_app words)

-- an IP address and a port are written by a text
abbrev pub IsAddress : Option Text → SocketAddr → Type 0
IsAddress None address = ⊥
IsAddress (Some text) address = IsSocketText text address

-- a number that is not 0
abbrev pub above_zero : ℕ → Option ℕ
above_zero zero = None
above_zero (suc less) = Some (suc less)

-- the rounds that a text writes: a decimal number from 1 to 1,000,000,000
abbrev pub rounds_in : Option Text → Option ℕ
rounds_in text = option_and_then above_zero (option_and_then (number_of 1000000001) text)

-- the texts of the options write these, and the words have no `--`
pub record WritesOptions (words : List Text) (address_text rounds_text : Option Text)
    (address : SocketAddr) (rounds : ℕ) : Type 0 where
  pub no_end : has_end words ≡ false
  pub address_is : IsAddress address_text address
  pub rounds_are : rounds_in rounds_text ≡ Some rounds

-- the words ask to serve: `clap` takes them, and the options write this address and these rounds
pub record AsksToServe (words : List Text) (address : SocketAddr) (rounds : ℕ) : Type 0 where
  pub taken : fault_of program_app words ≡ []
  pub options : WritesOptions words (value_in (codes "address") words)
      (value_in (codes "rounds") words) address rounds

-- What is asked for.

-- the words ask for a command, or to serve
abbrev pub Asks : List Text → Asked → Type 0
Asks words (Command command) = asked_by words ≡ Some command
Asks words (Serve address rounds) = AsksToServe words address rounds

-- what the words ask for; nothing only where they ask for nothing
abbrev pub IsAsked : List Text → Option Asked → Type 0
IsAsked words None = (asked : Asked) → Asks words asked → ⊥
IsAsked words (Some asked) = Asks words asked

-- How it is read.

-- a command, or none
abbrev pub IsCommand : Option Named → Option Asked → Type 0
IsCommand command None = command ≡ None
IsCommand command (Some (Command named)) = command ≡ Some named
IsCommand command (Some (Serve address rounds)) = ⊥

-- a server of an address and rounds of which this holds; none only where it holds of none
abbrev pub IsRead : (SocketAddr → ℕ → Type 0) → Option Asked → Type 0
IsRead Holds None = (address : SocketAddr) (rounds : ℕ) → Holds address rounds → ⊥
IsRead Holds (Some (Command command)) = ⊥
IsRead Holds (Some (Serve address rounds)) = Holds address rounds

-- by the subcommand that `clap` read, with its name, and by the words
abbrev pub IsAskedIn : Option (Text × List Row) → List Text → Option Asked → Type 0
IsAskedIn None words asked = IsCommand (asked_with None words) asked
IsAskedIn (Some (name, rows)) words asked =
    MatchBool (bytes_eq name (codes "serve"))
    (IsRead (WritesOptions words (first_of (codes "address") rows)
    (first_of (codes "rounds") rows)) asked)
    (IsCommand (asked_with (Some name) words) asked)
