-- Each change that a request makes lets the forest evolve.
use Rattle.std.proofs.Common.{◌≡◌, ℕ, List, [], ◌∷◌, inl, inr, Some, refl, sym, ap, ◌∙◌, arith}
use Rattle.p9_tree.specs.Node.{Node, is_dir}
use Rattle.p9_tree.specs.Server.{Server, added, node_at, with_changed, with_dropped}
use Rattle.p9_tree.specs.Forest.{next_of, node_of, server_at}
use Rattle.p9_step.specs.ForestChange.{ForestChange, EditNode, AddNode, DropNode, Edit, Mark, applied}
use Rattle.p9_step.specs.ForestChange.{all_applied, edited}
use Rattle.p9_step.proofs.Members.{member-changed_at, member-dropped_at, member-joined}
use Rattle.p9_step.proofs.Evolves.{Evolved, Evolves, evolves-same, evolves-tree, evolves-twice}

-- an edit leaves the node's number, and what it is
pub record Keeps (edit : Edit) (n : Node) : Type 0 where
  pub number : (edited edit n).number ≡ n.number
  pub dir : is_dir (edited edit n) ≡ is_dir n

-- what lets the forest evolve
abbrev pub IsSteady : List Server → ForestChange → Type 0
IsSteady forest (EditNode at edit) = (n : Node) → node_of at forest ≡ Some n → Keeps edit n
IsSteady forest (AddNode server node) = node.number ≡ next_of server forest
IsSteady forest (DropNode at) = Unit {0}

-- the same of each of them, one after another
abbrev pub AllSteady : List Server → List ForestChange → Type 0
AllSteady forest [] = Unit {0}
AllSteady forest (change ∷ changes) =
    IsSteady forest change × AllSteady (applied change forest) changes

evolved-edit : (s : Server) (k : ℕ) (f : Node → Node)
    → ((n : Node) → node_at k s.nodes ≡ Some n
    → ((f n).number ≡ n.number) × (is_dir (f n) ≡ is_dir n)) → Evolved s (with_changed k f s)
evolved-edit s k f keeps = record {
  next = omega arith;
  was = λ n there below. let old = member-changed_at n k f s.nodes there in
      elim old.2 [
        | inl same ↦ (old.0, old.1, ap (λ (m : Node). m.number) (sym same), ap is_dir (sym same))
        | inr new ↦ (let kept = keeps old.0 new.1 in (
          old.0,
          old.1,
          sym kept.0 ∙ ap (λ (m : Node). m.number) (sym new.0),
          sym kept.1
              ∙ ap is_dir (sym new.0),
        ))
      ];
}

evolved-drop : (s : Server) (k : ℕ) → Evolved s (with_dropped k s)
evolved-drop s k = record {
  next = omega arith;
  was = λ n there below. (n, member-dropped_at n k s.nodes there, refl, refl);
}

evolved-add : (s : Server) (y : Node) → y.number ≡ s.next → Evolved s (added s y)
evolved-add s y number = record {
  next = omega arith;
  was = λ n there below. elim (member-joined n y s.nodes there) [
    | inl old ↦ (n, old, refl, refl)
    | inr new ↦ (let same : n.number ≡ s.next = ap (λ (m : Node). m.number) new ∙ number in
        absurd (omega arith))
  ];
}

-- after a steady change the forest has evolved
pub evolves-applied : (forest : List Server) (change : ForestChange) → IsSteady forest change
    → Evolves forest (applied change forest)
unfolding applied
evolves-applied forest (EditNode at edit) steady =
    evolves-tree forest at.server (with_changed at.number (edited edit))
    (evolved-edit (server_at at.server forest) at.number (edited edit)
    (λ n found. let kept = steady n found in (kept.number, kept.dir)))
evolves-applied forest (AddNode server node) steady =
    evolves-tree forest server (λ s. added s node)
    (evolved-add (server_at server forest) node steady)
evolves-applied forest (DropNode at) steady =
    evolves-tree forest at.server (with_dropped at.number)
    (evolved-drop (server_at at.server forest) at.number)

-- and after all of them
pub evolves-all : (forest : List Server) (changes : List ForestChange) → AllSteady forest changes
    → Evolves forest (all_applied changes forest)
evolves-all forest [] steady = evolves-same forest
evolves-all forest (change ∷ changes) steady =
    evolves-twice forest (applied change forest) (all_applied changes (applied change forest))
    (evolves-applied forest change steady.0)
    (evolves-all (applied change forest) changes steady.1)

-- a mark keeps any node
pub keeps-mark : (user : List ℕ) (now : ℕ) (n : Node) → Keeps (Mark user now) n
unfolding edited
keeps-mark user now n = record { number = refl; dir = refl }
