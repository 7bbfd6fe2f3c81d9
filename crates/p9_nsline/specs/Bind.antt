-- Mounts, binds, and what takes them away, as bind(1).
use Rattle.std.specs.Prelude.{◌&&◌, Bool, true, false, not, nat_lt, List, [], ◌∷◌, length, map}
use Rattle.std.specs.Prelude.{Option, Some, None, Result, Ok, Err, if◌then◌else◌}
use Rattle.std.specs.Option.{option_map_or}
use Rattle.p9_base.specs.declared.node_ref.NodeRef.{NodeRef}
use Rattle.p9_base.specs.Results.{and_then}
use Rattle.p9_tree.specs.Server.{Server}
use Rattle.p9_tree.specs.Forest.{is_dir_of}
use Rattle.p9_table.specs.declared.row.Order.{Order}
use Rattle.p9_table.specs.declared.row.Order.TheVariants.{Replace, Before, After}
use Rattle.p9_table.specs.declared.table.UnmountError.{UnmountError}
use Rattle.p9_table.specs.declared.table.UnmountError.TheVariants as u
use Rattle.p9_space.specs.Table.{MountRow, bound, members_of, unmounted}
use Rattle.p9_space.specs.Trail.{here}
use Rattle.p9_nsline.specs.declared.fault.OpFault.{OpFault}
use Rattle.p9_nsline.specs.declared.fault.OpFault.TheVariants.{KindMismatch, NotMounted, NotMember}
use Rattle.p9_nsline.specs.declared.fault.OpFault.TheVariants.{SpecGiven}
use Rattle.p9_nsline.specs.declared.flags.Flags.{Flags}
use Rattle.p9_nsline.specs.Find.{found, found_file, server_root}
use Rattle.p9_nsline.specs.Flags.{Word}
use Rattle.p9_nsline.specs.Environment.{Environment}
use Rattle.p9_nsline.specs.Space.{Space}
use Rattle.p9_nsline.specs.Variable.{expanded}

-- whether the nodes come in the place of what is there
abbrev pub is_replace : Order → Bool
is_replace Replace = true
is_replace Before = false
is_replace After = false

-- directories go on a directory, and a file in the place of a file: the first node is asked
abbrev pub may_hold : List Server → Order → NodeRef → List NodeRef → Bool
may_hold forest order key [] = false
may_hold forest order key (node ∷ nodes) =
    if is_dir_of key forest then is_dir_of node forest
    else not (is_dir_of node forest) && is_replace order

-- with another table
abbrev pub with_table : Space → List MountRow → Space
with_table space table = record space { table = table }

-- the nodes in the place of the key, or before or after what is there
abbrev pub put_at : Environment → Space → NodeRef → List NodeRef → Flags → Result Space OpFault
put_at environment space key nodes flags =
    if may_hold environment.forest flags.order key nodes
    then Ok (with_table space (bound key nodes flags.order flags.create space.table))
    else Err KindMismatch

-- a spec is given where it isn't empty, with the variables' values put in
abbrev pub has_spec : Environment → Option Word → Bool
has_spec environment spec =
    option_map_or (λ word. nat_lt 0 (length (expanded environment.vars word))) spec false

-- the root on the old file
abbrev pub root_mounted : Environment → Space → Flags → NodeRef → Word → Result Space OpFault
root_mounted environment space flags root old =
    and_then (found environment space old) (λ to. put_at environment space (here to) (root ∷ []) flags)

-- `mount`: the server, the spec, then the old file; the server's root itself
abbrev pub mounted_by : Environment → Space → Flags → (server old : Word) (spec : Option Word)
    → Result Space OpFault
mounted_by environment space flags server old spec =
    and_then (server_root environment.servers (expanded environment.vars server)) (λ root.
    if has_spec environment spec then Err SpecGiven else root_mounted environment space flags root old)

-- the nodes that stand for a place
abbrev pub member_nodes : List MountRow → NodeRef → List NodeRef
member_nodes table place = map (λ m. m.node) (members_of place table)

-- `bind`: the new file, which is translated, then the old one, which isn't
abbrev pub bound_by : Environment → Space → Flags → (new old : Word) → Result Space OpFault
bound_by environment space flags new old =
    and_then (found environment space new) (λ from.
    and_then (found environment space old) (λ to.
    put_at environment space (here to) (member_nodes space.table (here from)) flags))

-- why nothing is unmounted
abbrev pub unmount_fault : UnmountError → OpFault
unmount_fault u.NotMounted = NotMounted
unmount_fault u.NotMember = NotMember

-- the name space with the table that is left, or the fault
abbrev pub after_unmount : Space → Result (List MountRow) UnmountError → Result Space OpFault
after_unmount space (Ok table) = Ok (with_table space table)
after_unmount space (Err error) = Err (unmount_fault error)

-- without what is mounted on the key, or without one node of it
abbrev pub taken_away : Space → NodeRef → Option NodeRef → Result Space OpFault
taken_away space key node = after_unmount space (unmounted key node space.table)

-- `unmount`: the file of the new place, if there is one, then the old file
abbrev pub unmounted_by : Environment → Space → (new : Option Word) (old : Word)
    → Result Space OpFault
unmounted_by environment space None old =
    and_then (found environment space old) (λ to. taken_away space (here to) None)
unmounted_by environment space (Some new) old =
    and_then (found_file environment space new) (λ file.
    and_then (found environment space old) (λ to. taken_away space (here to) (Some file)))
