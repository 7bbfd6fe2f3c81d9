-- Ways by which listed users come into a hidden directory, or to one that they may use, rule or
-- remove.
use Rattle.std.specs.Prelude.{◌≡◌, ℕ, Bool, List, [], ◌∷◌, Option, Some, None, IsTrue, find}
use Rattle.std.specs.Prelude.{option_and_then, if◌then◌else◌}
use Rattle.std.specs.List.{list_any}
use Rattle.std.specs.Option.{option_map}
use Rattle.std.specs.Str.{bytes_eq}
use Rattle.p9_base.specs.declared.node_ref.NodeRef.{NodeRef}
use Rattle.p9_base.specs.NodeRef.{beside, same_node}
use Rattle.p9_tree.specs.Node.{Node, is_dir}
use Rattle.p9_tree.specs.Server.{Server}
use Rattle.p9_tree.specs.Forest.{child_in, node_of}
use Rattle.p9_tree.specs.Inside.{is_hidden, is_inside}
use Rattle.p9_table.specs.declared.row.Member.{Member}
use Rattle.p9_space.specs.Place.{root_place}
use Rattle.p9_space.specs.Table.{MountRow, members_of}
use Rattle.p9_cert.specs.Gap.{first_of, is_removable, where_true}
use Rattle.p9_cert.specs.Listed.{is_open, is_owned, may_pass}
use Rattle.p9_cert.specs.Policy.{Policy}
use Rattle.p9_judge.specs.declared.breach.BreachKind.{BreachKind}
use Rattle.p9_judge.specs.declared.breach.BreachKind.TheVariants.{Inside, Open, Owned, Removable}
use Rattle.p9_judge.specs.declared.breach.Step.{Step}

-- the node is one of the place's members
abbrev pub is_member_of_place : List MountRow → (place at : NodeRef) → Bool
is_member_of_place table place at = list_any (λ m. same_node m.node at) (members_of place table)

module _ (policy : Policy) where
  -- a listed user's name
  abbrev pub is_listed : List ℕ → Bool
  is_listed user = list_any (bytes_eq user) policy.users

  -- the user may search the directory, or rules it
  abbrev pub may_be_passed_by : Node → List ℕ → Bool
  may_be_passed_by n user = may_pass n (record { user = user; groups = policy.groups })

  -- the first listed user who may do so; a file can't be passed
  abbrev pub first_passer : Node → Option (List ℕ)
  first_passer n = if is_dir n then find (may_be_passed_by n) policy.users else None

  module _ (forest : List Server) where
    -- the first listed user who may pass a member, if it is a directory that exists
    abbrev pub passer_of : NodeRef → Option (List ℕ)
    passer_of at = option_and_then first_passer (node_of at forest)

    -- the step's user is that one
    abbrev pub IsByFirst : Step → Type 0
    IsByFirst step = passer_of step.member ≡ Some step.user

    -- what is wrong with a hidden directory
    abbrev pub hidden_kind : NodeRef → Node → Option BreachKind
    hidden_kind at n =
        if is_open policy.users policy.groups n then Some Open
        else if is_owned policy.users policy.groups n then Some Owned
        else where_true (is_removable policy forest at n) Removable

    -- what is wrong with a member, whatever the certificate: it is inside a hidden directory, or it
    -- is hidden and not safe there; one that is gone is safe
    abbrev pub breach_kind : NodeRef → Option BreachKind
    breach_kind at =
        if is_inside at policy.hidden forest then Some Inside
        else if is_hidden at policy.hidden
        then option_and_then (hidden_kind at) (node_of at forest)
        else None

    -- the member, with what is wrong with it
    abbrev pub breaching : Member → Option (NodeRef × BreachKind)
    breaching m = option_map (λ kind. (m.node, kind)) (breach_kind m.node)

    module _ (table : List MountRow) where
      -- the first member of a place with which something is wrong
      abbrev pub place_breach : NodeRef → Option (NodeRef × BreachKind)
      place_breach place = first_of breaching (members_of place table)

      -- one step: a member of the place is a directory that the step's user, a listed one, may
      -- search or rules; and it has a child of the step's name
      pub record IsPassed (place : NodeRef) (step : Step) (child : Node) : Type 0 where
        pub member : IsTrue (is_member_of_place table place step.member)
        pub listed : IsTrue (is_listed step.user)
        pub dir : Node
        pub there : node_of step.member forest ≡ Some dir
        pub is_directory : IsTrue (is_dir dir)
        pub passes : IsTrue (may_be_passed_by dir step.user)
        pub named : child_in step.member step.name forest ≡ Some child

      -- the steps lead from the one place to the other: the next place is the child as a place
      abbrev pub Lead : NodeRef → List Step → NodeRef → Type 0
      Lead place [] last = place ≡ last
      Lead place (step ∷ steps) last =
          (child : Node) × IsPassed place step child
          × Lead (beside step.member child.number) steps last

      -- the steps lead from the root place to a place that has the member, and the kind is the
      -- first that applies to it
      pub record IsBreach (steps : List Step) (member : NodeRef) (kind : BreachKind) : Type 0 where
        pub place : NodeRef
        pub way : Lead root_place steps place
        pub member_of_place : IsTrue (is_member_of_place table place member)
        pub fault : breach_kind member ≡ Some kind
