-- The commands over an input: their names, and how they end.
use Rattle.std.specs.Prelude.{◌≡◌, ℕ, List, Option, Some, None, codes, if◌then◌else◌}
use Rattle.std.specs.Str.{bytes_eq}
use Rattle.clap.specs.Matches.{first_value}
use Rattle.clap.specs.declared.parser.matches.Found.{Found}
use Rattle.p9_prepared.specs.Prepared.{prepared_of}
use Rattle.p9_prepared.specs.declared.prepared.Needs.TheVariants.{Nothing}
use Rattle.p9_explain.specs.Explained.{IsExplained}
use Rattle.p9_map.specs.Picture.{IsMapped}
use Rattle.p9_view.specs.Tree.{IsInputShown}
use Rattle.p9_inputs.specs.Sealed.{IsSealing}
use Rattle.p9_inputs.specs.declared.command.InputCommand.{InputCommand}
use Rattle.p9_inputs.specs.declared.command.InputCommand.TheVariants.{Seal, Explain, Tree, Map}

-- the command of a name
abbrev pub command_named : List ℕ → Option InputCommand
command_named name =
    if bytes_eq name (codes "seal") then Some Seal
    else if bytes_eq name (codes "explain") then Some Explain
    else if bytes_eq name (codes "tree") then Some Tree
    else if bytes_eq name (codes "map") then Some Map
    else None

-- how a command ends over an input, with these options: its exit status, and what it appends
abbrev pub IsRun : (A : Type 0) → InputCommand → (options : Found) (input : List ℕ) (status : ℕ)
    (out_before out_after err_before err_after : List ℕ) → Type 0
IsRun A Seal options input status out_before out_after err_before err_after =
    IsSealing A options input status out_before out_after err_before err_after
IsRun A Explain options input status out_before out_after err_before err_after =
    IsExplained (prepared_of Nothing input) status out_before out_after × (err_after ≡ err_before)
IsRun A Tree options input status out_before out_after err_before err_after =
    IsInputShown (prepared_of Nothing input) (first_value options (codes "user")) status out_before
    out_after err_before err_after
IsRun A Map options input status out_before out_after err_before err_after =
    IsMapped (prepared_of Nothing input) status out_before out_after err_before err_after
