-- The mount table that a namespace file makes is well-formed, and names only nodes that were made.
use Rattle.std.proofs.Common.{◌≡◌, ℕ, zero, suc, ◌<◌, ◌≤◌, Bool, true, false, List, [], ◌∷◌, Option}
use Rattle.std.proofs.Common.{Some}
use Rattle.std.proofs.Common.{None, Result, Ok, Err, cond, length, position, remove, is_some}
use Rattle.std.proofs.Common.{fold, unwrap_or, refl, subst, ◌∙◌, arith}
use Rattle.std.specs.Prelude.{if◌then◌else◌}
use Rattle.std.specs.List.{AllByRecursion, IsDistinct}
use Rattle.std.specs.Map.{keys_of, remove_entry}
use Rattle.std.specs.Option.{option_map_or}
use Rattle.std.specs.Result.{IfOk}
use Rattle.std.proofs.lemmas.Bool.Decides.{nat_tests}
use Rattle.std.proofs.lemmas.List.Elements.{All-nil}
use Rattle.std.proofs.lemmas.Map.Keys.{IsDistinct-cons, IsDistinct-head, IsDistinct-tail}
use Rattle.indexmap.specs.IndexMap.{insert_entry}
use Rattle.p9_base.specs.NodeRef.{same_node}
use Rattle.p9_base.specs.Results.{and_then}
use Rattle.p9_base.specs.declared.fault.Fault.TheVariants.{NotDirectory}
use Rattle.p9_base.specs.declared.node_ref.NodeRef.{NodeRef}
use Rattle.p9_tree.specs.Forest.{IsForest, is_dir_of}
use Rattle.p9_space.specs.Given.{is_table_given}
use Rattle.p9_space.specs.Place.{file_ref}
use Rattle.p9_space.specs.Row.{brought, is_of, joined}
use Rattle.p9_space.specs.Table.{IsTable, MountRow, bound, row_of, standing, unmounted}
use Rattle.p9_space.specs.Table.{with_members, with_row, without_member, without_row}
use Rattle.p9_space.specs.Trail.{here}
use Rattle.p9_table.specs.declared.row.Member.{Member}
use Rattle.p9_table.specs.declared.row.Order.{Order}
use Rattle.p9_table.specs.declared.table.UnmountError.{UnmountError}
use Rattle.p9_table.specs.declared.table.UnmountError.TheVariants.{NotMember, NotMounted}
use Rattle.p9_table.proofs.Tables.{IsTable-with_row, IsTable-without_row, joined-some}
use Rattle.p9_nsline.specs.Bind.{after_unmount, bound_by, has_spec, may_hold, member_nodes}
use Rattle.p9_nsline.specs.Bind.{mounted_by, put_at, root_mounted, taken_away, unmounted_by}
use Rattle.p9_nsline.specs.Bind.{with_table}
use Rattle.p9_nsline.specs.Directory.{entered}
use Rattle.p9_nsline.specs.Environment.{Environment}
use Rattle.p9_nsline.specs.Find.{found, found_file, server_root}
use Rattle.p9_nsline.specs.Flags.{Word}
use Rattle.p9_nsline.specs.Include.{included_lines}
use Rattle.p9_nsline.specs.Line.{NumberedLine, lines_in}
use Rattle.p9_nsline.specs.Space.{Report, Space, beginning}
use Rattle.p9_nsline.specs.Variable.{expanded}
use Rattle.p9_nsline.specs.declared.fault.OpFault.{OpFault}
use Rattle.p9_nsline.specs.declared.fault.OpFault.TheVariants.{KindMismatch, Path, SpecGiven}
use Rattle.p9_nsline.specs.declared.flags.Flags.{Flags}
use Rattle.p9_nsline.specs.declared.operation.Operation.{Operation}
use Rattle.p9_nsline.specs.declared.operation.Operation.TheVariants.{Mount, Bind, Cd, Unmount}
use Rattle.p9_nsline.specs.declared.operation.Operation.TheVariants.{Clear, Include, Import}
use Rattle.p9_nsline.proofs.GivenFinds.{holds-then}
use Rattle.p9_nsfile.specs.Run.{acted, included, line_done, lines_done, nested_max, reported}
use Rattle.p9_nsfile.specs.Run.{run_of}
use Rattle.p9_nsfile.proofs.GivenRuns.{made-given}
use Rattle.p9_input_laws.proofs.Results.{and_then-ok, same-ok}

-- Keys that are distinct.

-- nodes are the same either way
same-either : (a b : NodeRef) → same_node a b ≡ same_node b a
same-either a b = grind (arith, nat_tests)

-- rows under keys
abbrev Rows : Type 0 → Type 0
Rows X = List (NodeRef × X)

module _ {X : Type 0} where
  -- what holds of each key holds of each that is left
  each-without : (P : NodeRef → Type 0) (test : NodeRef → Bool) (rows : Rows X)
      → AllByRecursion P (keys_of rows) → AllByRecursion P (keys_of (remove_entry test rows))
  each-without P test [] all = tt
  each-without P test (row ∷ rows) all = by (test row.0) (each-without P test rows all.1)
    where
      by : (b : Bool) → AllByRecursion P (keys_of (remove_entry test rows))
          → AllByRecursion P (keys_of (cond b rows (row ∷ remove_entry test rows)))
      by true later = all.1
      by false later = (all.0, later)

  -- keys that are left are distinct
  distinct-without : (test : NodeRef → Bool) (rows : Rows X)
      → IsDistinct same_node (keys_of rows)
      → IsDistinct same_node (keys_of (remove_entry test rows))
  distinct-without test [] distinct = distinct
  distinct-without test (row ∷ rows) distinct =
      by (test row.0)
      (distinct-without test rows (IsDistinct-tail same_node row.0 (keys_of rows) distinct))
    where
      by : (b : Bool) → IsDistinct same_node (keys_of (remove_entry test rows))
          → IsDistinct same_node (keys_of (cond b rows (row ∷ remove_entry test rows)))
      by true later = IsDistinct-tail same_node row.0 (keys_of rows) distinct
      by false later =
          IsDistinct-cons same_node row.0 (keys_of (remove_entry test rows))
          (each-without (λ key. same_node row.0 key ≡ false) test rows
          (IsDistinct-head same_node row.0 (keys_of rows) distinct)) later

  -- what holds of each key and of one more holds of each that is there then
  each-with : (P : NodeRef → Type 0) (rows : Rows X) (key : NodeRef) (x : X) → P key
      → AllByRecursion P (keys_of rows)
      → AllByRecursion P (keys_of (insert_entry same_node rows key x))
  each-with P [] key x its all = (its, tt)
  each-with P (row ∷ rows) key x its all =
      by (same_node key row.0) (each-with P rows key x its all.1)
    where
      by : (b : Bool) → AllByRecursion P (keys_of (insert_entry same_node rows key x))
          → AllByRecursion P
          (keys_of (if b then (row.0, x) ∷ rows else row ∷ insert_entry same_node rows key x))
      by true later = all
      by false later = (all.0, later)

  -- keys stay distinct where one is put in
  distinct-with : (rows : Rows X) (key : NodeRef) (x : X) → IsDistinct same_node (keys_of rows)
      → IsDistinct same_node (keys_of (insert_entry same_node rows key x))
  distinct-with [] key x distinct = IsDistinct-cons same_node key [] tt distinct
  distinct-with (row ∷ rows) key x distinct =
      by (same_node key row.0) refl
      (distinct-with rows key x (IsDistinct-tail same_node row.0 (keys_of rows) distinct))
    where
      by : (b : Bool) → same_node key row.0 ≡ b
          → IsDistinct same_node (keys_of (insert_entry same_node rows key x))
          → IsDistinct same_node
          (keys_of (if b then (row.0, x) ∷ rows else row ∷ insert_entry same_node rows key x))
      by true same later = distinct
      by false other later =
          IsDistinct-cons same_node row.0 (keys_of (insert_entry same_node rows key x))
          (each-with (λ k. same_node row.0 k ≡ false) rows key x (same-either row.0 key ∙ other)
          (IsDistinct-head same_node row.0 (keys_of rows) distinct)) later

-- Changes of a table.

module _ (table : List MountRow) (sound : IsTable table) where
  with-sound : (key : NodeRef) (members : List Member) → 0 < length members
      → IsTable (with_row key members table)
  with-sound key members some =
      IsTable-with_row (with_row key members table) table key members refl some
      (distinct-with table key members sound.distinct) sound

  without-sound : (key : NodeRef) → IsTable (without_row key table)
  without-sound key =
      IsTable-without_row (without_row key table) table key refl
      (distinct-without (same_node key) table sound.distinct) sound

  bound-sound : (key : NodeRef) (nodes : List NodeRef) (order : Order) (create : Bool)
      → 0 < length nodes → IsTable (bound key nodes order create table)
  bound-sound key nodes order create some =
      with-sound key (joined order (brought nodes create) (standing key table))
      (joined-some order nodes create (standing key table) some)

  members-sound : (key : NodeRef) (members : List Member)
      → IsTable (with_members key members table)
  members-sound key [] = without-sound key
  members-sound key (m ∷ ms) = with-sound key (m ∷ ms) (omega arith)

  member-sound : (key node : NodeRef) (members : List Member)
      → IfOk (without_member key node table members) IsTable
  member-sound key node members = by (position (is_of node) members)
    where
      by : (i : Option ℕ)
          → IfOk (option_map_or (λ i. Ok (with_members key (remove members i) table)) i
          (Err NotMember)) IsTable
      by None = tt
      by (Some i) = members-sound key (remove members i)

  unmounted-sound : (key : NodeRef) (node : Option NodeRef)
      → IfOk (unmounted key node table) IsTable
  unmounted-sound key None = by (is_some (row_of key table))
    where
      by : (b : Bool) → IfOk (if b then Ok (without_row key table) else Err NotMounted) IsTable
      by true = without-sound key
      by false = tt
  unmounted-sound key (Some node) = by (row_of key table)
    where
      by : (row : Option (List Member))
          → IfOk (option_map_or (without_member key node table) row (Err NotMounted)) IsTable
      by None = tt
      by (Some members) = member-sound key node members

-- What an operation makes of a name space.

-- its table is well-formed
abbrev IsFine : Space → Type 0
IsFine space = IsTable space.table

-- so is what an operation makes of it, unless it is refused
abbrev IsKept : Result Space OpFault → Type 0
IsKept answer = IfOk answer IsFine

-- of any value
any : {X : Type 0} (r : Result X OpFault) → IfOk r (λ x. Unit {0})
any (Ok x) = tt
any (Err fault) = tt

-- what holds of whatever follows a value holds after it
whatever : {X : Type 0} (r : Result X OpFault) (next : X → Result Space OpFault)
    → ((x : X) → IsKept (next x)) → IsKept (and_then r next)
whatever r next all = holds-then (λ x. Unit {0}) IsFine r next (any r) (λ x u. all x)

module _ (environment : Environment) where
  module _ (space : Space) (fine : IsFine space) where
    put-sound : (key : NodeRef) (nodes : List NodeRef) (flags : Flags)
        → IsKept (put_at environment space key nodes flags)
    put-sound key [] flags = tt
    put-sound key (node ∷ nodes) flags =
        by (may_hold environment.forest flags.order key (node ∷ nodes))
      where
        by : (b : Bool)
            → IsKept (if b
            then Ok (with_table space
            (bound key (node ∷ nodes) flags.order flags.create space.table))
            else Err KindMismatch)
        by true =
            bound-sound space.table fine key (node ∷ nodes) flags.order flags.create (omega arith)
        by false = tt

    mounted-sound : (flags : Flags) (server old : Word) (spec : Option Word)
        → IsKept (mounted_by environment space flags server old spec)
    mounted-sound flags server old spec =
        whatever (server_root environment.servers (expanded environment.vars server))
        (λ root. if has_spec environment spec then Err SpecGiven
        else root_mounted environment space flags root old)
        (λ root. by (has_spec environment spec) root)
      where
        by : (b : Bool) (root : NodeRef)
            → IsKept (if b then Err SpecGiven else root_mounted environment space flags root old)
        by true root = tt
        by false root =
            whatever (found environment space old)
            (λ to. put_at environment space (here to) (root ∷ []) flags)
            (λ to. put-sound (here to) (root ∷ []) flags)

    bound_by-sound : (flags : Flags) (new old : Word)
        → IsKept (bound_by environment space flags new old)
    bound_by-sound flags new old =
        whatever (found environment space new)
        (λ from. and_then (found environment space old)
        (λ to. put_at environment space (here to) (member_nodes space.table (here from)) flags))
        (λ from. whatever (found environment space old)
        (λ to. put_at environment space (here to) (member_nodes space.table (here from)) flags)
        (λ to. put-sound (here to) (member_nodes space.table (here from)) flags))

    taken-sound : (key : NodeRef) (node : Option NodeRef) → IsKept (taken_away space key node)
    taken-sound key node =
        by (unmounted key node space.table) (unmounted-sound space.table fine key node)
      where
        by : (table : Result (List MountRow) UnmountError) → IfOk table IsTable
            → IsKept (after_unmount space table)
        by (Ok table) sound = sound
        by (Err error) sound = tt

    old-sound : (old : Word) (node : Option NodeRef)
        → IsKept (and_then (found environment space old) (λ to. taken_away space (here to) node))
    old-sound old node =
        whatever (found environment space old) (λ to. taken_away space (here to) node)
        (λ to. taken-sound (here to) node)

    unmounted_by-sound : (new : Option Word) (old : Word)
        → IsKept (unmounted_by environment space new old)
    unmounted_by-sound None old = old-sound old None
    unmounted_by-sound (Some new) old =
        whatever (found_file environment space new)
        (λ file. and_then (found environment space old)
        (λ to. taken_away space (here to) (Some file)))
        (λ file. old-sound old (Some file))

    entered-sound : (dir : Word) → IsKept (entered environment space dir)
    entered-sound dir =
        whatever (found environment space dir)
        (λ trail. if is_dir_of (file_ref (here trail) space.table) environment.forest
        then Ok (record space { current = trail }) else Err (Path NotDirectory))
        (λ trail. by (is_dir_of (file_ref (here trail) space.table) environment.forest) trail)
      where
        by : (b : Bool) (trail : List NodeRef)
            → IsKept (if b then Ok (record space { current = trail }) else Err (Path NotDirectory))
        by true trail = fine
        by false trail = tt

  -- what including a file keeps
  abbrev IncludeKeeps : (Space → Word → Result Space OpFault) → Type 0
  IncludeKeeps include = (space : Space) (path : Word) → IsFine space → IsKept (include space path)

  -- a table without rows
  none-sound : IsTable []
  unfolding IsDistinct
  none-sound = record { not_empty = All-nil (λ row. 0 < length row.1); distinct = tt }

  acted-sound : (include : Space → Word → Result Space OpFault) → IncludeKeeps include
      → (space : Space) (operation : Operation Word) → IsFine space
      → IsKept (acted environment include space operation)
  acted-sound include keeps space (Mount flags server old spec) fine =
      mounted-sound space fine flags server old spec
  acted-sound include keeps space (Bind flags new old) fine =
      bound_by-sound space fine flags new old
  acted-sound include keeps space (Cd dir) fine = entered-sound space fine dir
  acted-sound include keeps space (Unmount new old) fine = unmounted_by-sound space fine new old
  acted-sound include keeps space Clear fine = none-sound
  acted-sound include keeps space (Include path) fine = keeps space path fine
  acted-sound include keeps space Import fine = tt

  reported-sound : (line : ℕ) (space : Space) (answer : Result Space OpFault) → IsFine space
      → IsKept answer → IsFine (reported line space answer)
  reported-sound line space (Ok next) fine kept = kept
  reported-sound line space (Err fault) fine kept = fine

  module _ (include : ℕ → Space → Word → Result Space OpFault)
      (keeps : (line : ℕ) → IncludeKeeps (include line)) (outer : Option ℕ) where
    lines-sound : (space : Space) (lines : List NumberedLine) → IsFine space
        → IsFine (fold (line_done environment include outer) space lines)
    lines-sound space [] fine = fine
    lines-sound space (line ∷ lines) fine =
        let number = unwrap_or outer line.0 in
        lines-sound (line_done environment include outer space line) lines
        (reported-sound number space (acted environment (include number) space line.1) fine
        (acted-sound (include number) (keeps number) space line.1 fine))

  included-sound : (left line : ℕ) → IncludeKeeps (included environment left line)
  unfolding included
  included-sound zero line space path fine = tt
  included-sound (suc left) line space path fine =
      whatever (included_lines environment space path)
      (λ lines. Ok (fold (line_done environment (included environment left) (Some line)) space
      lines))
      (λ lines. lines-sound (included environment left) (included-sound left) (Some line) space
      lines fine)

  -- a run over an empty table makes a well-formed one
  pub run-sound : (text : List ℕ) (ran : List MountRow × List Report)
      → run_of environment text [] ≡ Ok ran → IsTable ran.0
  run-sound text ran is =
      let a = and_then-ok (lines_in text) _ ran is in
      let space = lines_done environment nested_max None (beginning []) a.0 in
      subst (λ (r : List MountRow × List Report). IsTable r.0)
      (same-ok (space.table, space.reports) ran a.2)
      (lines-sound (included environment nested_max) (included-sound nested_max) None (beginning [])
      a.0 none-sound)

  -- it names only nodes that were made, where each server that has a name is there
  pub run-given : IsForest environment.forest → 0 < length environment.forest
      → length environment.servers ≤ length environment.forest → (text : List ℕ)
      → (ran : List MountRow × List Report) → run_of environment text [] ≡ Ok ran
      → is_table_given environment.forest ran.0 ≡ true
  run-given sound some named text ran is =
      let a = and_then-ok (lines_in text) _ ran is in
      let space = lines_done environment nested_max None (beginning []) a.0 in
      subst (λ (r : List MountRow × List Report). is_table_given environment.forest r.0 ≡ true)
      (same-ok (space.table, space.reports) ran a.2)
      (made-given environment sound some named a.0 [] refl)
