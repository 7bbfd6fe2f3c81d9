-- Who can change what listed users come to.
use Rattle.std.specs.Prelude.{ℕ, Bool, List, Option, find, option_and_then}
use Rattle.std.specs.Option.{option_map}
use Rattle.p9_base.specs.declared.node_ref.NodeRef.{NodeRef}
use Rattle.p9_base.specs.NodeRef.{beside}
use Rattle.p9_tree.specs.Node.{Node}
use Rattle.p9_tree.specs.Server.{Server}
use Rattle.p9_tree.specs.Forest.{node_of}
use Rattle.p9_space.specs.Rights.{Who}
use Rattle.p9_cert.specs.Listed.{may_alter, may_use}
use Rattle.p9_cert.specs.Policy.{Policy}
use Rattle.p9_fixed.specs.declared.change.Change.{Change}
use Rattle.p9_fixed.specs.declared.change.ChangeKind.{ChangeKind}
use Rattle.p9_fixed.specs.declared.change.ChangeKind.TheVariants.{Alterable, Removable, Exclusive}

-- the first listed user who passes the test at the node
abbrev pub first_who : Policy → (Node → Who → Bool) → Node → Option (List ℕ)
first_who policy test n =
    find (λ user. test n (record { user = user; groups = policy.groups })) policy.users

-- the directory that the node is in
abbrev pub parent_of : List Server → NodeRef → Option NodeRef
parent_of forest at =
    option_map (beside at) (option_and_then (λ (n : Node). n.parent) (node_of at forest))

module _ (policy : Policy) (forest : List Server) where
  -- the first listed user who may write the node or rules it
  abbrev pub alterer_of : NodeRef → Option (List ℕ)
  alterer_of at = option_and_then (first_who policy may_alter) (node_of at forest)

  -- the first one who can change the member so
  abbrev pub by_kind : ChangeKind → NodeRef → Option (List ℕ)
  by_kind Alterable at = alterer_of at
  by_kind Removable at = option_and_then alterer_of (parent_of forest at)
  by_kind Exclusive at = option_and_then (first_who policy may_use) (node_of at forest)

  abbrev pub changer_of : Change → Option (List ℕ)
  changer_of change = by_kind change.kind change.member
