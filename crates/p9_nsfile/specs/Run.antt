-- What the lines of a namespace file make of a mount table, as namespace(6).
use Rattle.std.specs.Prelude.{ℕ, zero, suc, List, [], ◌∷◌, ◌++◌, Option, Some, None, Result, Ok}
use Rattle.std.specs.Prelude.{Err, fold, unwrap_or}
use Rattle.p9_base.specs.Results.{and_then}
use Rattle.p9_space.specs.Table.{MountRow}
use Rattle.p9_nsline.specs.declared.fault.OpFault.{OpFault}
use Rattle.p9_nsline.specs.declared.fault.OpFault.TheVariants.{NotOffered, TooDeep}
use Rattle.p9_nsline.specs.declared.operation.Operation.{Operation}
use Rattle.p9_nsline.specs.declared.operation.Operation.TheVariants.{Mount, Bind, Cd, Unmount}
use Rattle.p9_nsline.specs.declared.operation.Operation.TheVariants.{Clear, Include, Import}
use Rattle.p9_nsline.specs.Bind.{bound_by, mounted_by, unmounted_by, with_table}
use Rattle.p9_nsline.specs.Directory.{entered}
use Rattle.p9_nsline.specs.Environment.{Environment}
use Rattle.p9_nsline.specs.Flags.{Word}
use Rattle.p9_nsline.specs.Include.{included_lines}
use Rattle.p9_nsline.specs.Line.{BadLineOf, NumberedLine, lines_in}
use Rattle.p9_nsline.specs.Space.{Report, Space, beginning}

-- how deep included files may be nested
abbrev pub nested_max : ℕ
nested_max = 8

-- a fault is reported with its line, and the operation does nothing
abbrev pub reported : ℕ → Space → Result Space OpFault → Space
reported line space (Ok next) = next
reported line space (Err fault) = record space { reports = space.reports ++ (line, fault) ∷ [] }

module _ (environment : Environment) where
  -- what an operation makes of the name space
  abbrev pub acted : (Space → Word → Result Space OpFault) → Space → Operation Word
      → Result Space OpFault
  acted include space (Mount flags server old spec) = mounted_by environment space flags server old spec
  acted include space (Bind flags new old) = bound_by environment space flags new old
  acted include space (Cd dir) = entered environment space dir
  acted include space (Unmount new old) = unmounted_by environment space new old
  acted include space Clear = Ok (with_table space [])
  acted include space (Include path) = include space path
  acted include space Import = Err NotOffered

  -- what a line does; in an included file it is the outermost line that is reported
  abbrev pub line_done : (ℕ → Space → Word → Result Space OpFault) → Option ℕ → Space → NumberedLine
      → Space
  line_done include outer space line =
      let number = unwrap_or outer line.0 in
      reported number space (acted (include number) space line.1)

  -- the lines of a file that is included by a line, where so many files may still be nested
  unfoldable pub included : (left line : ℕ) → Space → Word → Result Space OpFault
  included zero line space path = Err TooDeep
  included (suc left) line space path =
      and_then (included_lines environment space path)
      (λ lines. Ok (fold (line_done (included left) (Some line)) space lines))

  -- the lines of a text, one after another
  abbrev pub lines_done : ℕ → Option ℕ → Space → List NumberedLine → Space
  lines_done left outer space lines = fold (line_done (included left) outer) space lines

  -- the mount table that a text makes of another, and its reports; a line of bad form refuses the
  -- whole text
  abbrev pub run_of : List ℕ → List MountRow → Result (List MountRow × List Report) BadLineOf
  run_of text table =
      and_then (lines_in text) (λ lines.
      let space = lines_done nested_max None (beginning table) lines in
      Ok (space.table, space.reports))
