-- Walks over the servers and the mount table, as walk(5).
use Rattle.std.specs.Prelude.{ℕ, ◌==◌, ◌&&◌, Bool, true, false, not, List, [], ◌∷◌, Option}
use Rattle.std.specs.Prelude.{None, Some, Result, Ok, Err, is_some, codes, length, if◌then◌else◌}
use Rattle.std.specs.Option.{option_and_then, option_map, option_map_or, option_or}
use Rattle.std.specs.List.{list_any}
use Rattle.std.specs.Str.{bytes_eq}
use Rattle.p9_base.specs.declared.node_ref.NodeRef.{NodeRef}
use Rattle.p9_base.specs.declared.fault.Fault.{Fault}
use Rattle.p9_base.specs.declared.fault.Fault.TheVariants.{NotDirectory, NotFound, PermissionDenied}
use Rattle.p9_base.specs.declared.fault.Fault.TheVariants.{PhaseError, PathTooDeep}
use Rattle.p9_base.specs.Results.{and_then}
use Rattle.p9_tree.specs.Node.{Node, is_dir}
use Rattle.p9_tree.specs.Server.{Server}
use Rattle.p9_tree.specs.Forest.{node_of, child_in}
use Rattle.p9_table.specs.declared.row.Member.{Member}
use Rattle.p9_table.specs.declared.trail.Step.{Step}
use Rattle.p9_table.specs.declared.trail.Step.TheVariants.{Up, To}
use Rattle.p9_table.specs.Place.{file_of}
use Rattle.p9_table.specs.Rights.{Who, may, to_execute}
use Rattle.p9_table.specs.Table.{MountRow, members_of}
use Rattle.p9_table.specs.Trail.{here, places_max, stepped}

-- the user may search the directory; without a user everybody may
abbrev pub may_search : Option Who → Node → Bool
may_search who n = option_map_or (λ who. may who n to_execute) who true

module _ (forest : List Server) where
  -- a member is alive while its node exists
  abbrev pub is_alive : Member → Bool
  is_alive m = is_some (node_of m.node forest)

  -- and its node is a directory
  abbrev pub is_alive_dir : Member → Bool
  is_alive_dir m = option_map_or is_dir (node_of m.node forest) false

  -- the node of the name in the directory, as a place
  abbrev pub child_ref : NodeRef → List ℕ → Option NodeRef
  child_ref dir name =
      option_map (λ n. record { server = dir.server; number = n.number }) (child_in dir name forest)

  -- why no walk goes on from the members: none is alive, or none is an alive directory
  abbrev pub dir_fault : List Member → Option Fault
  dir_fault ms =
      if not (list_any is_alive ms) then Some PhaseError
      else if not (list_any is_alive_dir ms) then Some NotDirectory
      else None

  module _ (who : Option Who) where
    -- an alive directory that the user may search
    abbrev pub is_searched : Member → Bool
    is_searched m = option_map_or (λ n. is_dir n && may_search who n) (node_of m.node forest) false

    -- the child of the name in the first member that may be searched and has one
    abbrev pub child_among : List ℕ → List Member → Option NodeRef
    child_among name [] = None
    child_among name (m ∷ ms) =
        option_or (if is_searched m then child_ref m.node name else None) (child_among name ms)

    -- the child of a name, if there is one, in a member that may be searched
    abbrev pub named_child : Option (List ℕ) → Member → Option NodeRef
    named_child name m =
        if is_searched m then option_and_then (child_ref m.node) name else None

    -- the same among members
    abbrev pub named_among : Option (List ℕ) → List Member → Option NodeRef
    named_among name ms = option_and_then (λ n. child_among n ms) name

    -- where a name other than `..` leads from the members of the last place
    abbrev pub step_down : List NodeRef → List ℕ → List Member → Result Step Fault
    step_down trail name ms =
        if not (list_any is_searched ms) then Err PermissionDenied
        else option_map_or
        (λ place. if length trail == places_max then Err PathTooDeep else Ok (To place))
        (child_among name ms) (Err NotFound)

    -- where a name leads from the members of the last place
    abbrev pub step_among : List NodeRef → List ℕ → List Member → Result Step Fault
    step_among trail name ms =
        if not (list_any is_alive ms) then Err PhaseError
        else if not (list_any is_alive_dir ms) then Err NotDirectory
        else if bytes_eq name (codes "..") then Ok Up
        else step_down trail name ms

module _ (forest : List Server) (table : List MountRow) where
  -- a step arrives where the file of the new last place is alive
  abbrev pub arrived : List NodeRef → Step → Result Step Fault
  arrived trail step =
      if is_some (file_of (here (stepped trail step)) table forest) then Ok step else Err PhaseError

  module _ (who : Option Who) where
    -- one step by a name
    abbrev pub step_of : List NodeRef → List ℕ → Result Step Fault
    step_of trail name =
        and_then (step_among forest who trail name (members_of (here trail) table)) (arrived trail)

    -- the trail after the steps by the names, or the fault of the first that is refused
    abbrev pub walk : List NodeRef → List (List ℕ) → Result (List NodeRef) Fault
    walk trail [] = Ok trail
    walk trail (name ∷ names) =
        and_then (step_of trail name) (λ step. walk (stepped trail step) names)
