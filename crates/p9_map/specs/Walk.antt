-- The walk of a breach: the steps from the root place on, and the member that they lead to.
use Rattle.std.specs.Prelude.{ℕ, ◌+◌, List, [], ◌∷◌, Option, Some, None, length, position}
use Rattle.std.specs.Prelude.{if◌then◌else◌}
use Rattle.std.specs.Option.{option_map, option_map_or, option_or}
use Rattle.p9_base.specs.declared.node_ref.NodeRef.{NodeRef}
use Rattle.p9_base.specs.NodeRef.{beside, same_node}
use Rattle.p9_tree.specs.Forest.{child_in}
use Rattle.p9_tree.specs.Server.{Server}
use Rattle.p9_judge.specs.declared.breach.Breach.{Breach}
use Rattle.p9_judge.specs.declared.breach.BreachKind.{BreachKind}
use Rattle.p9_judge.specs.declared.breach.Step.{Step}
use Rattle.p9_map.specs.declared.walk.Hop.{Hop}

-- a breach as it is drawn: its steps, the member that they lead to, and what is wrong with that
pub record Walk : Type 0 where
  pub steps : List Step
  pub member : NodeRef
  pub kind : BreachKind

abbrev pub walk_of : {A : Type 0} → Breach A → Walk
walk_of breach = record { steps = breach.steps.items; member = breach.member; kind = breach.kind }

-- that of a breach, if there is one
abbrev pub walk_in : {A : Type 0} → Option (Breach A) → Option Walk
walk_in breach = option_map walk_of breach

-- the place that a step leads to: the child of its name in its member
abbrev pub place_after : List Server → Step → NodeRef
place_after forest step =
    option_map_or (λ child. beside step.member child.number)
    (child_in step.member step.name forest) step.member

-- the hops from a place on: from it to the member that is passed, and from that to the next place
abbrev pub hops_from : List Server → (place : NodeRef) → List Step → (member : NodeRef) → List Hop
hops_from forest place [] member = record { from = place; to = member } ∷ []
hops_from forest place (s ∷ ss) member =
    record { from = place; to = s.member } ∷ record { from = s.member; to = place_after forest s }
    ∷ hops_from forest (place_after forest s) ss member

-- the number of a node on the walk, from 1: that of the first step that passes it, or one more for the
-- member that the walk leads to
abbrev pub number_on : List Step → (member at : NodeRef) → Option ℕ
number_on steps member at =
    option_or (option_map (λ i. i + 1) (position (λ s. same_node s.member at) steps))
    (if same_node member at then Some (length steps + 1) else None)
