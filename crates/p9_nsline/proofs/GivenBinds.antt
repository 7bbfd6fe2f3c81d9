-- What mounts, binds and the other operations keep: a name space names only nodes that were made.
use Rattle.std.proofs.Common.{◌≡◌, ◌<◌, ◌≤◌, Bool, true, false, List, [], ◌∷◌, Option, Some, None}
use Rattle.std.proofs.Common.{Result, Ok, Err, length, map, refl}
use Rattle.std.specs.Prelude.{if◌then◌else◌}
use Rattle.std.specs.List.{list_all}
use Rattle.std.specs.Result.{IfOk}
use Rattle.std.proofs.lemmas.Bool.{and_from, and_parts}
use Rattle.p9_base.specs.declared.fault.Fault.TheVariants.{NotDirectory}
use Rattle.p9_base.specs.declared.node_ref.NodeRef.{NodeRef}
use Rattle.p9_base.specs.Results.{and_then}
use Rattle.p9_tree.specs.Forest.{IsForest, is_dir_of}
use Rattle.p9_table.specs.declared.row.Member.{Member}
use Rattle.p9_table.specs.declared.table.UnmountError.{UnmountError}
use Rattle.p9_space.specs.Given.{is_given, is_table_given}
use Rattle.p9_space.specs.Place.{file_ref}
use Rattle.p9_space.specs.Table.{MountRow, bound, members_of, unmounted}
use Rattle.p9_space.specs.Trail.{here}
use Rattle.p9_table.proofs.GivenTables.{bound-given, is_member_given, members-given}
use Rattle.p9_table.proofs.GivenTables.{unmounted-given}
use Rattle.p9_nsline.specs.declared.fault.OpFault.{OpFault}
use Rattle.p9_nsline.specs.declared.fault.OpFault.TheVariants.{KindMismatch, Path, SpecGiven}
use Rattle.p9_nsline.specs.declared.flags.Flags.{Flags}
use Rattle.p9_nsline.specs.Bind.{after_unmount, bound_by, has_spec, may_hold, member_nodes}
use Rattle.p9_nsline.specs.Bind.{mounted_by, put_at, root_mounted, taken_away, unmounted_by}
use Rattle.p9_nsline.specs.Bind.{with_table}
use Rattle.p9_nsline.specs.Directory.{entered}
use Rattle.p9_nsline.specs.Find.{found, found_file, server_root}
use Rattle.p9_nsline.specs.Flags.{Word}
use Rattle.p9_nsline.specs.Environment.{Environment}
use Rattle.p9_nsline.specs.Space.{Space}
use Rattle.p9_nsline.specs.Variable.{expanded}
use Rattle.p9_nsline.proofs.GivenFinds.{IsSpaceGiven, IsTrailGiven, found-given, found_file-given}
use Rattle.p9_nsline.proofs.GivenFinds.{holds-then, last-given, server_root-given}

module _ (environment : Environment) (sound : IsForest environment.forest) (some : 0 < length environment.forest)
    (named : length environment.servers ≤ length environment.forest) where
  -- the name space names only nodes that were made
  abbrev pub IsMade : Space → Type 0
  IsMade space = IsSpaceGiven environment sound some named space

  -- so does what an operation makes of it, unless it is refused
  abbrev pub IsKept : Result Space OpFault → Type 0
  IsKept answer = IfOk answer IsMade

  module _ (space : Space) (made : IsMade space) where
    put_at-given : (key : NodeRef) (nodes : List NodeRef) (flags : Flags)
        → is_given environment.forest key ≡ true → list_all (is_given environment.forest) nodes ≡ true
        → IsKept (put_at environment space key nodes flags)
    put_at-given key nodes flags to from = by (may_hold environment.forest flags.order key nodes)
      where
        by : (b : Bool)
            → IsKept (if b
            then Ok (with_table space (bound key nodes flags.order flags.create space.table))
            else Err KindMismatch)
        by true = record {
          table =
              bound-given environment.forest space.table made.table key nodes flags.order flags.create
              to from;
          current = made.current;
        }
        by false = tt

    root_mounted-given : (flags : Flags) (root : NodeRef) (old : Word)
        → is_given environment.forest root ≡ true → IsKept (root_mounted environment space flags root old)
    root_mounted-given flags root old its =
        holds-then (IsTrailGiven environment sound some named) IsMade (found environment space old)
        (λ to. put_at environment space (here to) (root ∷ []) flags)
        (found-given environment sound some named space made old)
        (λ to all. put_at-given (here to) (root ∷ []) flags
        (last-given environment sound some named to all) (rw its refl))

    pub mounted_by-given : (flags : Flags) (server old : Word) (spec : Option Word)
        → IsKept (mounted_by environment space flags server old spec)
    mounted_by-given flags server old spec =
        holds-then (λ root. is_given environment.forest root ≡ true) IsMade
        (server_root environment.servers (expanded environment.vars server))
        (λ root. if has_spec environment spec then Err SpecGiven
        else root_mounted environment space flags root old)
        (server_root-given environment sound some named (expanded environment.vars server))
        (λ root its. by (has_spec environment spec) root its)
      where
        by : (b : Bool) (root : NodeRef) → is_given environment.forest root ≡ true
            → IsKept (if b then Err SpecGiven else root_mounted environment space flags root old)
        by true root its = tt
        by false root its = root_mounted-given flags root old its

    nodes-given : (place : NodeRef) → is_given environment.forest place ≡ true
        → list_all (is_given environment.forest) (member_nodes space.table place) ≡ true
    nodes-given place its =
        by (members_of place space.table)
        (members-given environment.forest space.table made.table place its)
      where
        by : (ms : List Member) → list_all (is_member_given environment.forest) ms ≡ true
            → list_all (is_given environment.forest) (map (λ m. m.node) ms) ≡ true
        by [] all = refl
        by (m ∷ ms) all =
            let parts = and_parts (is_member_given environment.forest m)
            (list_all (is_member_given environment.forest) ms) all in
            and_from (is_given environment.forest m.node)
            (list_all (is_given environment.forest) (map (λ m. m.node) ms)) parts.0 (by ms parts.1)

    pub bound_by-given : (flags : Flags) (new old : Word)
        → IsKept (bound_by environment space flags new old)
    bound_by-given flags new old =
        holds-then (IsTrailGiven environment sound some named) IsMade (found environment space new)
        (λ from. and_then (found environment space old)
        (λ to. put_at environment space (here to) (member_nodes space.table (here from)) flags))
        (found-given environment sound some named space made new)
        (λ from all.
        holds-then (IsTrailGiven environment sound some named) IsMade (found environment space old)
        (λ to. put_at environment space (here to) (member_nodes space.table (here from)) flags)
        (found-given environment sound some named space made old)
        (λ to each. put_at-given (here to) (member_nodes space.table (here from)) flags
        (last-given environment sound some named to each)
        (nodes-given (here from) (last-given environment sound some named from all))))

    taken_away-given : (key : NodeRef) (node : Option NodeRef) → is_given environment.forest key ≡ true
        → IsKept (taken_away space key node)
    taken_away-given key node its =
        by (unmounted key node space.table)
        (unmounted-given environment.forest space.table made.table key node its)
      where
        by : (table : Result (List MountRow) UnmountError)
            → IfOk table (λ t. is_table_given environment.forest t ≡ true)
            → IsKept (after_unmount space table)
        by (Ok table) all = record { table = all; current = made.current }
        by (Err error) all = tt

    -- the old file of an unmount
    old-given : (old : Word) (node : Option NodeRef)
        → IsKept (and_then (found environment space old) (λ to. taken_away space (here to) node))
    old-given old node =
        holds-then (IsTrailGiven environment sound some named) IsMade (found environment space old)
        (λ to. taken_away space (here to) node)
        (found-given environment sound some named space made old)
        (λ to all. taken_away-given (here to) node (last-given environment sound some named to all))

    pub unmounted_by-given : (new : Option Word) (old : Word)
        → IsKept (unmounted_by environment space new old)
    unmounted_by-given None old = old-given old None
    unmounted_by-given (Some new) old =
        holds-then (λ file. is_given environment.forest file ≡ true) IsMade
        (found_file environment space new)
        (λ file. and_then (found environment space old)
        (λ to. taken_away space (here to) (Some file)))
        (found_file-given environment sound some named space made new)
        (λ file its. old-given old (Some file))

    pub entered-given : (dir : Word) → IsKept (entered environment space dir)
    entered-given dir =
        holds-then (IsTrailGiven environment sound some named) IsMade (found environment space dir)
        (λ trail. if is_dir_of (file_ref (here trail) space.table) environment.forest
        then Ok (record space { current = trail }) else Err (Path NotDirectory))
        (found-given environment sound some named space made dir)
        (λ trail all. by (is_dir_of (file_ref (here trail) space.table) environment.forest) trail all)
      where
        by : (b : Bool) (trail : List NodeRef) → IsTrailGiven environment sound some named trail
            → IsKept (if b then Ok (record space { current = trail }) else Err (Path NotDirectory))
        by true trail all = record { table = made.table; current = all }
        by false trail all = tt
