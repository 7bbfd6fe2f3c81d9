-- Edits that leave a node's standing.
use Rattle.std.proofs.Common.{◌≡◌, ℕ, false, List, [], ◌∷◌, Option, Some, None, inl, refl}
use Rattle.p9_base.specs.declared.node_ref.NodeRef.{NodeRef}
use Rattle.p9_base.specs.NodeRef.{beside}
use Rattle.p9_tree.specs.Node.{Node}
use Rattle.p9_tree.specs.Forest.{node_of}
use Rattle.p9_tree.specs.Inside.{is_inside}
use Rattle.p9_step.specs.ForestChange.{ForestChange, Mark, applied, edited, Cut, Edit, EditNode, Overwrite}
use Rattle.p9_step.specs.ForestChange.{Touch}
use Rattle.p9_step.specs.End.{parent_marked}
use Rattle.p9_guard_laws.specs.Guarded.{Premises}
use Rattle.p9_guard_laws.proofs.Scene.{Scene, premises_in}
use Rattle.p9_guard_laws.proofs.Moves.{Lawful, LawfulChange, SameStanding, evolves, LawfulEdit}
use Rattle.p9_guard_laws.proofs.Stays.{outside_stays}
use Rattle.p9_guard_laws.proofs.Parents.{parent_outside, settled, settled_parent}

-- a mark leaves the node's standing
pub mark_stands : (premises : Premises) (user : List ℕ) (now : ℕ) (x : Node)
    → SameStanding premises x (edited (Mark user now) x)
unfolding edited
mark_stands premises user now x =
    record {
      parent = refl;
      kind = refl;
      rights =
          inl (record { mode = refl; uid = refl; gid = refl });
    }

pub touch_stands : (premises : Premises) (now : ℕ) (x : Node)
    → SameStanding premises x (edited (Touch now) x)
unfolding edited
touch_stands premises now x =
    record {
      parent = refl;
      kind = refl;
      rights =
          inl (record { mode = refl; uid = refl; gid = refl });
    }

pub cut_stands : (premises : Premises) (size : ℕ) (x : Node) → SameStanding premises x (edited (Cut size) x)
unfolding edited
cut_stands premises size x =
    record {
      parent = refl;
      kind = refl;
      rights =
          inl (record { mode = refl; uid = refl; gid = refl });
    }

pub write_stands : (premises : Premises) (offset : ℕ) (bytes : List ℕ) (x : Node)
    → SameStanding premises x (edited (Overwrite offset bytes) x)
unfolding edited
write_stands premises offset bytes x =
    record {
      parent = refl;
      kind = refl;
      rights =
          inl (record { mode = refl; uid = refl; gid = refl });
    }

module _ (scene : Scene) where
  pub one_edit : (r : NodeRef) (e : Edit) → is_inside r scene.hidden scene.forest ≡ false
      → ((y : Node) → SameStanding (premises_in scene) y (edited e y))
      → LawfulEdit (premises_in scene) scene.forest r e
  one_edit r e out stands = record { outside = out; standing = λ y there. stands y }

  -- two edits of one node, one after the other
  pub two_edits : (r : NodeRef) (x : Node) (a b : Edit) → node_of r scene.forest ≡ Some x
      → is_inside r scene.hidden scene.forest ≡ false
      → ((y : Node) → SameStanding (premises_in scene) y (edited a y))
      → ((y : Node) → SameStanding (premises_in scene) y (edited b y))
      → Lawful (premises_in scene) scene.forest (EditNode r a ∷ EditNode r b ∷ [])
  two_edits r x a b e out sa sb =
      let first = one_edit r a out sa in (
        first,
        (
          record {
            outside =
                outside_stays (premises_in scene) scene.forest (applied (EditNode r a) scene.forest)
                scene.good.ordered
                (evolves (premises_in scene) scene.forest scene.good.ordered (EditNode r a) first) r
                (settled scene r x e) out;
            standing = λ y there. sb y;
          },
          tt,
        ),
      )

  -- a mark of the parent after another lawful change of the node
  pub marks_lawful : (r : NodeRef) (x : Node) (change : ForestChange) (user : List ℕ) (now : ℕ)
      (parent : Option ℕ) → LawfulChange (premises_in scene) scene.forest change
      → node_of r scene.forest ≡ Some x → x.parent ≡ parent
      → is_inside r scene.hidden scene.forest ≡ false
      → Lawful (premises_in scene) (applied change scene.forest) (parent_marked user now r parent)
  marks_lawful r x change user now None l e q out = tt
  marks_lawful r x change user now (Some p) l e q out = (
    record {
      outside =
          outside_stays (premises_in scene) scene.forest (applied change scene.forest)
          scene.good.ordered
          (evolves (premises_in scene) scene.forest scene.good.ordered change l) (beside r p)
          (settled_parent scene r x p e q)
          (parent_outside scene r x p e q out);
      standing = λ y there. mark_stands (premises_in scene) user now y;
    },
    tt,
  )
