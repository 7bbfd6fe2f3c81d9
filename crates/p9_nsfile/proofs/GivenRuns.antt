-- A run names only nodes that were made, in the mount table and as the current directory.
use Rattle.std.proofs.Common.{◌≡◌, ℕ, zero, suc, ◌<◌, ◌≤◌, true, List, [], ◌∷◌, Option, Some, None}
use Rattle.std.proofs.Common.{Result, Ok, Err, length, unwrap_or, fold, refl, sym, ap, subst, ◌∙◌}
use Rattle.std.specs.Result.{IfOk}
use Rattle.p9_tree.specs.Forest.{IsForest}
use Rattle.p9_space.specs.Given.{is_table_given}
use Rattle.p9_space.specs.Table.{MountRow}
use Rattle.p9_nsline.specs.declared.fault.OpFault.{OpFault}
use Rattle.p9_nsline.specs.declared.operation.Operation.{Operation}
use Rattle.p9_nsline.specs.declared.operation.Operation.TheVariants.{Mount, Bind, Cd, Unmount}
use Rattle.p9_nsline.specs.declared.operation.Operation.TheVariants.{Clear, Include, Import}
use Rattle.p9_nsline.specs.Environment.{Environment}
use Rattle.p9_nsline.specs.Flags.{Word}
use Rattle.p9_nsline.specs.Include.{included_lines}
use Rattle.p9_nsline.specs.Line.{NumberedLine}
use Rattle.p9_nsline.specs.Space.{Space, beginning}
use Rattle.p9_nsline.proofs.GivenBinds as each
use Rattle.p9_nsline.proofs.GivenFinds.{holds-then, root_trail-given}
use Rattle.p9_nsfile.specs.declared.run.TheConstants.{NESTED_MAX}
use Rattle.p9_nsfile.specs.Given.{KeepsGiven}
use Rattle.p9_nsfile.specs.Run.{acted, included, line_done, lines_done, reported}

module _ (environment : Environment) (sound : IsForest environment.forest) (some : 0 < length environment.forest)
    (named : length environment.servers ≤ length environment.forest) where
  abbrev IsMade : Space → Type 0
  IsMade space = each.IsMade environment sound some named space

  abbrev IsKept : Result Space OpFault → Type 0
  IsKept answer = each.IsKept environment sound some named answer

  -- what including a file keeps
  abbrev IncludeKeeps : (Space → Word → Result Space OpFault) → Type 0
  IncludeKeeps include = (space : Space) (path : Word) → IsMade space → IsKept (include space path)

  acted-given : (include : Space → Word → Result Space OpFault) → IncludeKeeps include
      → (space : Space) (operation : Operation Word) → IsMade space
      → IsKept (acted environment include space operation)
  acted-given include keeps space (Mount flags server old spec) made =
      each.mounted_by-given environment sound some named space made flags server old spec
  acted-given include keeps space (Bind flags new old) made =
      each.bound_by-given environment sound some named space made flags new old
  acted-given include keeps space (Cd dir) made =
      each.entered-given environment sound some named space made dir
  acted-given include keeps space (Unmount new old) made =
      each.unmounted_by-given environment sound some named space made new old
  acted-given include keeps space Clear made = record { table = refl; current = made.current }
  acted-given include keeps space (Include path) made = keeps space path made
  acted-given include keeps space Import made = tt

  reported-given : (line : ℕ) (space : Space) (answer : Result Space OpFault) → IsMade space
      → IsKept answer → IsMade (reported line space answer)
  reported-given line space (Ok next) made kept = kept
  reported-given line space (Err fault) made kept = record {
    table = made.table;
    current = made.current;
  }

  module _ (include : ℕ → Space → Word → Result Space OpFault)
      (keeps : (line : ℕ) → IncludeKeeps (include line)) (outer : Option ℕ) where
    lines-given : (space : Space) (lines : List NumberedLine) → IsMade space
        → IsMade (fold (line_done environment include outer) space lines)
    lines-given space [] made = made
    lines-given space (line ∷ lines) made =
        let number = unwrap_or outer line.0 in
        lines-given (line_done environment include outer space line) lines
        (reported-given number space (acted environment (include number) space line.1) made
        (acted-given (include number) (keeps number) space line.1 made))

  included-given : (left line : ℕ) → IncludeKeeps (included environment left line)
  unfolding included
  included-given zero line space path made = tt
  included-given (suc left) line space path made =
      holds-then (λ lines. Unit {0}) IsMade (included_lines environment space path)
      (λ lines. Ok (fold (line_done environment (included environment left) (Some line)) space lines))
      (any (included_lines environment space path))
      (λ lines u. lines-given (included environment left) (included-given left) (Some line) space lines
      made)
    where
      any : (r : Result (List NumberedLine) OpFault) → IfOk r (λ lines. Unit {0})
      any (Ok lines) = tt
      any (Err fault) = tt

  pub made-given : (lines : List NumberedLine) (table : List MountRow)
      → is_table_given environment.forest table ≡ true
      → is_table_given environment.forest
      (lines_done environment NESTED_MAX None (beginning table) lines).table ≡ true
  made-given lines table given =
      (lines-given (included environment NESTED_MAX) (included-given NESTED_MAX) None (beginning table)
      lines (record { table = given; current = root_trail-given environment sound some named })).table

-- what lines make of a table
pub KeepsGiven-lines : (environment used : Environment) (lines : List NumberedLine)
    (old new : List MountRow) (begun after : Space) → IsForest environment.forest →
    used ≡ environment → begun ≡ beginning old → after ≡ lines_done used NESTED_MAX None begun lines
    → new ≡ after.table → KeepsGiven environment old new
KeepsGiven-lines environment used lines old new begun after sound same start done is =
    λ some named given.
    let all : after ≡ lines_done environment NESTED_MAX None (beginning old) lines =
    done ∙ ap (λ s. lines_done s NESTED_MAX None begun lines) same
    ∙ ap (λ space. lines_done environment NESTED_MAX None space lines) start in
    subst (λ table. is_table_given environment.forest table ≡ true)
    (sym (is ∙ ap (λ space. space.table) all))
    (made-given environment sound some named lines old given)
