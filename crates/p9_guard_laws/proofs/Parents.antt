-- The directory that a node is in.
use Rattle.std.proofs.Common.{◌≡◌, ℕ, ◌<◌, true, false, List, Option, Some, None, inl, arith, refl}
use Rattle.std.proofs.Common.{ap}
use Rattle.std.specs.Option.{option_map_or}
use Rattle.std.proofs.lemmas.Bool.{or_left}
use Rattle.p9_base.specs.declared.node_ref.NodeRef.{NodeRef}
use Rattle.p9_base.specs.NodeRef.{beside}
use Rattle.p9_base.specs.User.{is_listed_user}
use Rattle.p9_tree.specs.Node.{Node}
use Rattle.p9_tree.specs.Forest.{next_of, node_of}
use Rattle.p9_tree.specs.Inside.{is_barred, is_hidden, is_inside}
use Rattle.p9_inside.proofs.Forests.{keeps_node}
use Rattle.p9_inside.proofs.Facts.{clash, lt_test, not_true}
use Rattle.p9_inside.proofs.Looks.{node_below, not_barred, not_inside, parent_below}
use Rattle.p9_inside.proofs.Looks.{parent_not_barred}
use Rattle.p9_space.specs.Rights.{may, rules, to_write}
use Rattle.p9_step.specs.State.{who_of}
use Rattle.p9_step.specs.Rights.{may_write_parent}
use Rattle.p9_cert.specs.Listed.{is_alterable, may_alter}
use Rattle.p9_guard_laws.proofs.Scene.{Scene, outer_of}
use Rattle.p9_guard_laws.proofs.Basics.{some_may}
use Rattle.p9_guard_laws.proofs.Stays.{Settled}
use Rattle.p9_guard_laws.proofs.Walks.{SafeMember}

module _ (scene : Scene) where
  pub settled : (r : NodeRef) (x : Node) → node_of r scene.forest ≡ Some x → Settled scene.forest r
  settled r x e =
      inl
      (lt_test r.number (next_of r.server scene.forest)
      (node_below scene.forest scene.good.ordered r x e))

  pub settled_parent : (r : NodeRef) (x : Node) (p : ℕ) → node_of r scene.forest ≡ Some x
      → x.parent ≡ Some p → Settled scene.forest (beside r p)
  settled_parent r x p e q =
      inl (lt_test p (next_of r.server scene.forest)
      (let a : r.number < next_of r.server scene.forest =
      node_below scene.forest scene.good.ordered r x e in
      let b : p < r.number = parent_below scene.forest scene.good.ordered r x p e q in omega arith))

  pub parent_outside : (r : NodeRef) (x : Node) (p : ℕ) → node_of r scene.forest ≡ Some x
      → x.parent ≡ Some p → is_inside r scene.hidden scene.forest ≡ false
      → is_inside (beside r p) scene.hidden scene.forest ≡ false
  parent_outside r x p e q out =
      not_inside scene.hidden scene.forest scene.good.ordered (beside r p)
      (parent_not_barred scene.hidden scene.forest r x p e q out)

  -- the parent is the same, and so who may write it
  pub may_write_parent-outer : (user : List ℕ) (r : NodeRef) (x : Node)
      → node_of r scene.forest ≡ Some x → is_inside r scene.hidden scene.forest ≡ false
      → may_write_parent (who_of scene.setting user) (outer_of scene) r x
      ≡ may_write_parent (who_of scene.setting user) scene.forest r x
  may_write_parent-outer user r x e out = go x.parent refl
    where
      go : (p : Option ℕ) → x.parent ≡ p
          → may_write_parent (who_of scene.setting user) (outer_of scene) r x
          ≡ may_write_parent (who_of scene.setting user) scene.forest r x
      go None q = rw q refl
      go (Some p) q =
          rw q (ap (λ o. option_map_or (λ n. may (who_of scene.setting user) n to_write) o false)
          (keeps_node scene.hidden scene.forest (beside r p) (parent_outside r x p e q out)))

  -- a file that a listed user may remove isn't hidden
  pub removable : (r : NodeRef) (x : Node) (user : List ℕ) → SafeMember scene r
      → node_of r scene.forest ≡ Some x → is_listed_user scene.setting.users user ≡ true
      → may_write_parent (who_of scene.setting user) scene.forest r x ≡ true
      → is_barred r scene.hidden scene.forest ≡ false
  unfolding is_alterable
  removable r x user h e listed can =
      not_barred scene.hidden scene.forest scene.good.ordered r
      (not_true (is_hidden r scene.hidden) (λ hid. at x.parent refl hid can)) h.outside
    where
      there : (p : ℕ) → x.parent ≡ Some p → is_hidden r scene.hidden ≡ true → (o : Option Node)
          → node_of (beside r p) scene.forest ≡ o
          → option_map_or (λ n. may (who_of scene.setting user) n to_write) o false ≡ true → ⊥
      there p q hid None w t = let b : false ≡ true = t in cc
      there p q hid (Some d) w t =
          let who = who_of scene.setting user in
          clash (is_alterable scene.setting.users scene.setting.groups d)
          (some_may (λ u. may_alter d (who_of scene.setting u)) scene.setting.users user listed
          (or_left (may who d to_write) (rules who d) t)) (h.guarded hid x e p d q w)

      at : (p : Option ℕ) → x.parent ≡ p → is_hidden r scene.hidden ≡ true
          → option_map_or
          (λ parent. option_map_or (λ n. may (who_of scene.setting user) n to_write)
          (node_of (beside r parent) scene.forest) false) p false ≡ true
          → ⊥
      at None q hid t = let b : false ≡ true = t in cc
      at (Some p) q hid t = there p q hid (node_of (beside r p) scene.forest) refl t
