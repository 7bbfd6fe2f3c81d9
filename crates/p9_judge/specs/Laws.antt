-- Laws of breaches.
use Rattle.std.specs.Prelude.{List}
use Rattle.p9_base.specs.declared.node_ref.NodeRef.{NodeRef}
use Rattle.p9_tree.specs.Server.{Server}
use Rattle.p9_tree.specs.Forest.{IsForest}
use Rattle.p9_space.specs.Table.{MountRow}
use Rattle.p9_cert.specs.Closed.{IsClosed}
use Rattle.p9_cert.specs.Policy.{Policy}
use Rattle.p9_cert.specs.Safe.{Set}
use Rattle.p9_judge.specs.declared.breach.BreachKind.{BreachKind}
use Rattle.p9_judge.specs.declared.breach.Step.{Step}
use Rattle.p9_judge.specs.Breach.{IsBreach}

-- no world and mount table have both a closed certificate and a breach
abbrev pub NoBreachWhereClosed : Type 0
NoBreachWhereClosed =
    (policy : Policy) (forest : List Server) (table : List MountRow) (certified : Set)
    (steps : List Step) (member : NodeRef) (kind : BreachKind) → IsForest forest
    → IsClosed policy forest table certified
    → IsBreach policy forest table steps member kind → ⊥
