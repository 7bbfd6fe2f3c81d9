-- What some listed user can change, of all that listed users come to.
use Rattle.std.specs.Prelude.{◌&&◌, List, Option, Some, option_and_then, if◌then◌else◌}
use Rattle.std.specs.Option.{option_map, option_or}
use Rattle.p9_base.specs.declared.node_ref.NodeRef.{NodeRef}
use Rattle.p9_base.specs.NodeRef.{beside}
use Rattle.p9_tree.specs.Node.{Node}
use Rattle.p9_tree.specs.Server.{Server}
use Rattle.p9_tree.specs.Forest.{children_of, node_of}
use Rattle.p9_table.specs.declared.row.Member.{Member}
use Rattle.p9_space.specs.Place.{root_place}
use Rattle.p9_space.specs.Table.{MountRow, members_of}
use Rattle.p9_step.specs.Open.{is_exclusive}
use Rattle.p9_cert.specs.Gap.{first_of, is_removable, where_true}
use Rattle.p9_cert.specs.Listed.{is_alterable, is_open}
use Rattle.p9_cert.specs.Policy.{Policy}
use Rattle.p9_fixed.specs.declared.change.Change.{Change}
use Rattle.p9_fixed.specs.declared.change.ChangeKind.{ChangeKind}
use Rattle.p9_fixed.specs.declared.change.ChangeKind.TheVariants.{Alterable, Removable, Exclusive}

module _ (policy : Policy) (forest : List Server) where
  -- how some listed user can change a node: he may write it or rules it; or so it is with the
  -- directory that it is in; or it is of exclusive use, and he may use it
  abbrev pub node_kind : NodeRef → Node → Option ChangeKind
  node_kind at n =
      if is_alterable policy.users policy.groups n then Some Alterable
      else if is_removable policy forest at n then Some Removable
      else where_true (is_exclusive n && is_open policy.users policy.groups n) Exclusive

  -- the same of a member, which nobody can change if it is gone
  abbrev pub change_kind : NodeRef → Option ChangeKind
  change_kind at = option_and_then (node_kind at) (node_of at forest)

  -- a member of a place that can be changed
  abbrev pub member_change : NodeRef → Member → Option Change
  member_change place m =
      option_map (λ kind. record { place = place; member = m.node; kind = kind })
      (change_kind m.node)

  module _ (table : List MountRow) where
    -- the first member of a place that can be changed
    abbrev pub place_change : NodeRef → Option Change
    place_change place = first_of (member_change place) (members_of place table)

    -- of a row's child, taken as a place
    abbrev pub child_change : NodeRef → Node → Option Change
    child_change row n = place_change (beside row n.number)

    -- of the row's children, by rising number
    abbrev pub children_change : NodeRef → Option Change
    children_change row = first_of (child_change row) (children_of row forest)

    -- the first of all: of the root place, or else of the rows' children, row by row
    abbrev pub first_change : List NodeRef → Option Change
    first_change rows = option_or (place_change root_place) (first_of children_change rows)
