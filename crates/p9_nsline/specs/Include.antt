-- The lines of the files that a namespace file includes.
use Rattle.std.specs.Prelude.{List, Option, Some, None, Result, Ok, Err, if◌then◌else◌}
use Rattle.std.specs.Str.{is_utf8}
use Rattle.p9_base.specs.declared.fault.Fault.TheVariants.{PhaseError}
use Rattle.p9_base.specs.Results.{and_then}
use Rattle.p9_tree.specs.Node.{Node, is_dir}
use Rattle.p9_tree.specs.Forest.{node_of}
use Rattle.p9_nsline.specs.declared.fault.OpFault.{OpFault}
use Rattle.p9_nsline.specs.declared.fault.OpFault.TheVariants.{Path, BadInclude}
use Rattle.p9_nsline.specs.Find.{found_file}
use Rattle.p9_nsline.specs.Flags.{Word}
use Rattle.p9_nsline.specs.Line.{BadLineOf, NumberedLine, lines_in}
use Rattle.p9_nsline.specs.Environment.{Environment}
use Rattle.p9_nsline.specs.Space.{Space}

-- the lines of an included file; if one is of bad form, none of them acts
abbrev pub or_bad_include : Result (List NumberedLine) BadLineOf
    → Result (List NumberedLine) OpFault
or_bad_include (Ok lines) = Ok lines
or_bad_include (Err bad) = Err BadInclude

-- the lines of a file, if it is one and may be included
abbrev pub file_lines : Option Node → Result (List NumberedLine) OpFault
file_lines None = Err (Path PhaseError)
file_lines (Some n) =
    if is_dir n then Err BadInclude else if is_utf8 n.bytes then or_bad_include (lines_in n.bytes)
    else Err BadInclude

-- the lines of the file that a word names
abbrev pub included_lines : Environment → Space → Word → Result (List NumberedLine) OpFault
included_lines environment space path =
    and_then (found_file environment space path) (λ file. file_lines (node_of file environment.forest))
