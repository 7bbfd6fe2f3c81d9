-- What a listed user finds at a member that is fixed, in a forest that is the sealed one apart from
-- times of last access.
use Rattle.std.proofs.Common.{◌≡◌, ◌∙◌, ℕ, true, false, List, Option, Some, None}
use Rattle.std.proofs.Common.{refl, sym, ap}
use Rattle.std.specs.Option.{option_map_or}
use Rattle.std.proofs.lemmas.Bool.{or_parts}
use Rattle.p9_base.specs.Group.{GroupRow}
use Rattle.p9_base.specs.NodeRef.{beside}
use Rattle.p9_base.specs.User.{is_listed_user}
use Rattle.p9_base.specs.declared.node_ref.NodeRef.{NodeRef}
use Rattle.p9_tree.specs.Forest.{node_of}
use Rattle.p9_tree.specs.Node.{Node}
use Rattle.p9_tree.specs.Server.{Server}
use Rattle.p9_tree.specs.Unread.{all_unread}
use Rattle.p9_space.specs.Rights.{Who, may, rules, to_write}
use Rattle.p9_step.specs.Open.{is_exclusive}
use Rattle.p9_step.specs.Rights.{may_write_parent}
use Rattle.p9_step.specs.State.{Setting, who_of}
use Rattle.p9_cert.specs.Listed.{is_alterable, is_open, is_passable, may_alter}
use Rattle.p9_cert.specs.Rows.{is_row}
use Rattle.p9_guard_laws.proofs.Basics.{none_may}
use Rattle.p9_fixed_laws.specs.States.{IsFixedMember, Sealed}
use Rattle.p9_fixed_laws.proofs.Unread.{AreUnread, node_there}

-- What listed users may do with two such nodes is the same.
module _ (users : List (List ℕ)) (groups : List GroupRow) (m n : Node) (same : AreUnread m n) where
  pub alterable-unread : is_alterable users groups m ≡ is_alterable users groups n
  unfolding is_alterable
  alterable-unread = ap (λ x. is_alterable users groups x) same

  pub open-unread : is_open users groups m ≡ is_open users groups n
  unfolding is_open
  open-unread = ap (λ x. is_open users groups x) same

  pub passable-unread : is_passable users groups m ≡ is_passable users groups n
  unfolding is_passable
  passable-unread = ap (λ x. is_passable users groups x) same

-- a forest that is the sealed one, apart from times of last access
pub record Scene : Type 0 where
  pub sealed : Sealed
  pub setting : Setting
  pub forest : List Server
  pub same : all_unread forest ≡ all_unread sealed.forest

module _ (scene : Scene) where
  -- what is known of the node
  pub record IsStill (at : NodeRef) (n : Node) : Type 0 where
    pub unaltered : is_alterable scene.setting.users scene.setting.groups n ≡ false
    pub kept : (p : ℕ) (d : Node) → n.parent ≡ Some p → node_of (beside at p) scene.forest ≡ Some d
        → is_alterable scene.setting.users scene.setting.groups d ≡ false
    pub shared : is_exclusive n ≡ true
        → is_open scene.setting.users scene.setting.groups n ≡ false
    pub covered : is_passable scene.setting.users scene.setting.groups n ≡ true
        → is_row scene.sealed.rows at ≡ true

  pub still : (at : NodeRef) (n : Node) → IsFixedMember scene.sealed scene.setting at
      → node_of at scene.forest ≡ Some n → IsStill at n
  still at n fixed found =
      let users = scene.setting.users in
      let groups = scene.setting.groups in
      let there = node_there scene.forest scene.sealed.forest scene.same at n found in
      let m : Node = there.0 in
      let its = fixed.fixed m there.1 in
      record {
        unaltered = sym (alterable-unread users groups m n there.2) ∙ its.unaltered;
        kept =
            λ p d parent dir.
            let above =
            node_there scene.forest scene.sealed.forest scene.same (beside at p) d dir in
            sym (alterable-unread users groups above.0 d above.2)
            ∙ its.kept p above.0 (ap (λ (x : Node). x.parent) there.2 ∙ parent) above.1;
        shared =
            λ exclusive. sym (open-unread users groups m n there.2)
            ∙ its.shared (ap (λ (x : Node). is_exclusive x) there.2 ∙ exclusive);
        covered =
            λ pass. fixed.covered m there.1 (passable-unread users groups m n there.2 ∙ pass);
      }

  module _ (user : List ℕ) (listed : is_listed_user scene.setting.users user ≡ true) where
    abbrev who : Who
    who = who_of scene.setting user

    unaltered-parts : (n : Node) → is_alterable scene.setting.users scene.setting.groups n ≡ false
        → (may who n to_write ≡ false) × (rules who n ≡ false)
    unfolding is_alterable
    unaltered-parts n tight =
        or_parts (may who n to_write) (rules who n)
        (none_may (λ u. may_alter n (who_of scene.setting u)) scene.setting.users user listed tight)

    -- the user may not write it
    pub not-written : (at : NodeRef) (n : Node) → IsStill at n → may who n to_write ≡ false
    not-written at n its = (unaltered-parts n its.unaltered).0

    -- nor does he rule it
    pub not-ruled : (at : NodeRef) (n : Node) → IsStill at n → rules who n ≡ false
    not-ruled at n its = (unaltered-parts n its.unaltered).1

    -- nor may he write the directory that it is in
    pub parent-not-written : (at : NodeRef) (n : Node) → IsStill at n
        → may_write_parent who scene.forest at n ≡ false
    parent-not-written at n its = go n.parent refl
      where
        dir : (p : ℕ) → n.parent ≡ Some p → (o : Option Node)
            → node_of (beside at p) scene.forest ≡ o
            → option_map_or (λ d. may who d to_write) o false ≡ false
        dir p parent None found = refl
        dir p parent (Some d) found = (unaltered-parts d (its.kept p d parent found)).0

        go : (o : Option ℕ) → n.parent ≡ o → may_write_parent who scene.forest at n ≡ false
        go None e = rw e refl
        go (Some p) e = rw e (dir p e (node_of (beside at p) scene.forest) refl)
