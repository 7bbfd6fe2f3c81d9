-- A wstat.
use Rattle.std.proofs.Common.{◌≡◌, ℕ, Bool, true, false, List, [], ◌∷◌, Option, Some, None, ◌||◌}
use Rattle.std.proofs.Common.{inl, refl, sym, ap, ◌∙◌, is_some, ◌&&◌, inr, ◌⊎◌, subst}
use Rattle.std.proofs.Common.{option_and_then}
use Rattle.std.specs.Prelude.{if◌then◌else◌, unwrap_or}
use Rattle.std.specs.Option.{option_or}
use Rattle.std.specs.Str.{bytes_eq}
use Rattle.std.proofs.lemmas.Bool.{or_left, or_right, and_parts}
use Rattle.p9_base.specs.declared.fault.Fault.TheVariants.{PermissionDenied, PhaseError, UnknownFid}
use Rattle.p9_base.specs.declared.fault.Fault.TheVariants.{FixedField}
use Rattle.p9_base.specs.declared.node_ref.NodeRef.{NodeRef}
use Rattle.p9_base.specs.NodeRef.{beside}
use Rattle.p9_base.specs.User.{is_listed_user}
use Rattle.p9_base.specs.declared.mode.Mode.{Mode}
use Rattle.p9_base.specs.Mode.{mode_of, is_dir as is_dir_mode}
use Rattle.p9_base.specs.Group.{is_member, leads}
use Rattle.p9_tree.specs.Node.{Node, is_dir}
use Rattle.p9_tree.specs.Server.{Server}
use Rattle.p9_tree.specs.Forest.{node_of}
use Rattle.p9_tree.specs.Inside.{is_inside}
use Rattle.p9_inside.proofs.Forests.{keeps_child}
use Rattle.p9_inside.proofs.Facts.{some_same, or_cases}
use Rattle.p9_inside.proofs.Looks.{parent_not_barred}
use Rattle.p9_space.specs.Rights.{rules, Who}
use Rattle.p9_wire.specs.Stat.{StatFields}
use Rattle.p9_fids.specs.Fid.{fid_at}
use Rattle.p9_step.specs.State.{Session, fid_file, fid_ref, who_of}
use Rattle.p9_step.specs.ForestChange.{edited, EditNode, Rewrite}
use Rattle.p9_step.specs.End.{parent_marked}
use Rattle.p9_step.specs.Qid.{stat_of}
use Rattle.p9_step.specs.Wstat.{Touched, gid_fault, has_sibling, is_any, length_fault, may_give}
use Rattle.p9_step.specs.Wstat.{mode_fault, name_fault, node_change, rewriting, ruling_fault}
use Rattle.p9_step.specs.Wstat.{touched_of, wstat_answer, wstat_fault}
use Rattle.p9_step.proofs.Permits.{Permits, kind_kept, no_if, nothing_refuses}
use Rattle.p9_cert.specs.Listed.{is_owned}
use Rattle.p9_guard_laws.specs.Guarded.{Premises}
use Rattle.p9_guard_laws.proofs.Scene.{SafeFids, Scene, premises_in, outer_of}
use Rattle.p9_guard_laws.proofs.Held.{who_in}
use Rattle.p9_guard_laws.proofs.Basics.{some_may}
use Rattle.p9_guard_laws.proofs.Moves.{Lawful, SameStanding, LawfulEdit, SameRights}
use Rattle.p9_guard_laws.proofs.Agrees.{Agrees, agrees_changes, agrees_given, agrees_need}
use Rattle.p9_guard_laws.proofs.Agrees.{agrees_unless, fid_found}
use Rattle.p9_guard_laws.proofs.Fids.{fid_file-outer, fid_member}
use Rattle.p9_guard_laws.proofs.Parents.{may_write_parent-outer}
use Rattle.p9_guard_laws.proofs.Edits.{marks_lawful}

new_kind : (mode : Option Mode) (n : Node)
    → ((m : Mode) → mode ≡ Some m → is_dir_mode m ≡ is_dir n)
    → is_dir_mode (unwrap_or mode n.mode) ≡ is_dir n
new_kind None n kept = refl
new_kind (Some m) n kept = kept m refl

module _ (premises : Premises) (user : List ℕ) (f : List Server) (at : NodeRef) (n : Node) (t : Touched)
    (none : wstat_fault (who_in premises user) f at n t ≡ None)
    (listed : is_listed_user premises.policy.users user ≡ true) (now : ℕ) where
  abbrev who : Who
  who = who_in premises user

  -- the node after the wstat
  abbrev m : Node
  m = edited (Rewrite (node_change user now t)) n

  permits : Permits who f at n t
  permits = nothing_refuses who f at n t none

  -- who changes the mode rules the node
  mode_rules : (bits : ℕ) → t.mode ≡ Some bits → rules who n ≡ true
  mode_rules bits is =
      let mine : ruling_fault who n bits ≡ None = rw is at permits.ruled in
      no_if PermissionDenied (rules who n) mine

  -- who gives it to a group may do so
  gives : (gid : List ℕ) → t.gid ≡ Some gid → may_give who n gid ≡ true
  gives gid is =
      let mine : gid_fault who n gid ≡ None = rw is at permits.gid in
      no_if PermissionDenied (may_give who n gid) mine

  -- a node that the user rules before and after is owned before and after
  owned_both : rules who n ≡ true → rules who m ≡ true
      → (is_owned premises.policy.users premises.policy.groups n ≡ true)
      × (is_owned premises.policy.users premises.policy.groups m ≡ true)
  unfolding is_owned
  owned_both before after = (
    some_may (λ u. rules (who_in premises u) n) premises.policy.users user listed before,
    some_may (λ u. rules (who_in premises u) m) premises.policy.users user listed after,
  )

  -- the owner stays the owner
  by_owner : bytes_eq n.uid user ≡ true → (is_owned premises.policy.users premises.policy.groups n ≡ true)
      × (is_owned premises.policy.users premises.policy.groups m ≡ true)
  unfolding edited
  by_owner own =
      owned_both (or_left (bytes_eq n.uid user) (leads premises.policy.groups n.gid user) own)
      (or_left (bytes_eq n.uid user) (leads premises.policy.groups m.gid user) own)

  -- who leads both groups rules the node before and after
  by_leader : (gid : List ℕ) → t.gid ≡ Some gid → leads premises.policy.groups n.gid user ≡ true
      → leads premises.policy.groups gid user ≡ true
      → (is_owned premises.policy.users premises.policy.groups n ≡ true)
      × (is_owned premises.policy.users premises.policy.groups m ≡ true)
  unfolding edited
  by_leader gid is old new =
      owned_both (or_right (bytes_eq n.uid user) (leads premises.policy.groups n.gid user) old)
      (or_right (bytes_eq n.uid user) (leads premises.policy.groups m.gid user)
      (ap (λ o. leads premises.policy.groups (unwrap_or o n.gid) user) is ∙ new))

  by_group : (gid : List ℕ) → t.gid ≡ Some gid
      → (is_owned premises.policy.users premises.policy.groups n ≡ true)
      × (is_owned premises.policy.users premises.policy.groups m ≡ true)
  by_group gid is =
      elim (or_cases (bytes_eq n.uid user && is_member premises.policy.groups gid user)
      (leads premises.policy.groups n.gid user && leads premises.policy.groups gid user) (gives gid is)) [
        | inl owner ↦ by_owner (and_parts (bytes_eq n.uid user) _ owner).0
        | inr leader ↦
            (let both = and_parts (leads premises.policy.groups n.gid user) _ leader in
            by_leader gid is both.0 both.1)
      ]

  by_mode : t.gid ≡ None → rules who n ≡ true
      → (is_owned premises.policy.users premises.policy.groups n ≡ true)
      × (is_owned premises.policy.users premises.policy.groups m ≡ true)
  unfolding edited
  by_mode is rule =
      owned_both rule
      (ap (λ o. bytes_eq n.uid user || leads premises.policy.groups (unwrap_or o n.gid) user) is
      ∙ rule)

  pub rewrite_stands : SameStanding premises n m
  unfolding edited
  rewrite_stands = record {
    parent = refl;
    kind =
        new_kind (option_and_then mode_of t.mode) n (kind_kept n t.mode permits.mode);
    rights = go t.mode t.gid refl refl;
  }
    where
      go : (mode : Option ℕ) (gid : Option (List ℕ)) → t.mode ≡ mode → t.gid ≡ gid
          → SameRights n m
          ⊎ ((is_owned premises.policy.users premises.policy.groups n ≡ true)
          × (is_owned premises.policy.users premises.policy.groups m ≡ true))
      go mode (Some g) a b = inr (by_group g b)
      go (Some bits) None a b = inr (by_mode b (mode_rules bits a))
      go None None a b =
          inl (record {
            mode = ap (λ o. unwrap_or (option_and_then mode_of o) n.mode) a;
            uid = refl;
            gid = ap (λ o. unwrap_or o n.gid) b;
          })

module _ (scene : Scene) where
  sibling-outer : (r : NodeRef) (x : Node) (name : List ℕ) → node_of r scene.forest ≡ Some x
      → is_inside r scene.hidden scene.forest ≡ false
      → has_sibling (outer_of scene) r x name ≡ has_sibling scene.forest r x name
  sibling-outer r x name e out = go x.parent refl
    where
      go : (p : Option ℕ) → x.parent ≡ p
          → has_sibling (outer_of scene) r x name ≡ has_sibling scene.forest r x name
      go None q = rw q refl
      go (Some p) q =
          rw q (ap is_some (keeps_child scene.hidden scene.forest (beside r p) name
          (parent_not_barred scene.hidden scene.forest r x p e q out)))

  name-outer : (user : List ℕ) (r : NodeRef) (x : Node) (name : Option (List ℕ))
      → node_of r scene.forest ≡ Some x → is_inside r scene.hidden scene.forest ≡ false
      → option_and_then (name_fault (who_of scene.setting user) (outer_of scene) r x) name
      ≡ option_and_then (name_fault (who_of scene.setting user) scene.forest r x) name
  name-outer user r x None e out = refl
  name-outer user r x (Some name) e out =
      rw (
        may_write_parent-outer scene user r x e out,
        sibling-outer r x name e
            out,
      ) refl

  wstat_fault-outer : (user : List ℕ) (r : NodeRef) (x : Node) (t : Touched)
      → node_of r scene.forest ≡ Some x → is_inside r scene.hidden scene.forest ≡ false
      → wstat_fault (who_of scene.setting user) (outer_of scene) r x t
      ≡ wstat_fault (who_of scene.setting user) scene.forest r x t
  wstat_fault-outer user r x t e out =
      ap (λ o. option_or (option_and_then (mode_fault x) t.mode) (
      option_or o (
      option_or (option_and_then (length_fault (who_of scene.setting user) x) t.length) (
      option_or (option_and_then (ruling_fault (who_of scene.setting user) x) t.mode) (
      option_or (option_and_then (ruling_fault (who_of scene.setting user) x) t.mtime) (
      option_and_then (gid_fault (who_of scene.setting user) x) t.gid))))))
      (name-outer user r x t.name e out)

  rewriting_lawful : (user : List ℕ) (now : ℕ) (r : NodeRef) (x : Node) (t : Touched)
      → is_listed_user scene.setting.users user ≡ true → node_of r scene.forest ≡ Some x
      → is_inside r scene.hidden scene.forest ≡ false
      → wstat_fault (who_of scene.setting user) scene.forest r x t ≡ None
      → Lawful (premises_in scene) scene.forest (rewriting user now r x t)
  rewriting_lawful user now r x t listed e out none = go (is_any t)
    where
      first : LawfulEdit (premises_in scene) scene.forest r (Rewrite (node_change user now t))
      first = record {
        outside = out;
        standing =
            λ y there. subst
            (λ (z : Node). SameStanding (premises_in scene) z
            (edited (Rewrite (node_change user now t)) z))
            (some_same x y (sym e ∙ there))
            (rewrite_stands (premises_in scene) user scene.forest r x t none listed now);
      }

      go : (b : Bool)
          → Lawful (premises_in scene) scene.forest
          (if b then EditNode r (Rewrite (node_change user now t)) ∷ parent_marked user now r
          x.parent else [])
      go true = (
        first,
        marks_lawful scene r x (EditNode r (Rewrite (node_change user now t)))
            user now x.parent first e refl out,
      )
      go false = tt

  pub wstat-agrees : (session : Session) (now fid : ℕ) (wanted : StatFields)
      → SafeFids scene session.fids
      → Agrees scene (wstat_answer scene.setting (outer_of scene) session now fid wanted)
      (wstat_answer scene.setting scene.forest session now fid wanted)
  wstat-agrees session now fid wanted h =
      agrees_given scene (fid_at fid session.fids) UnknownFid _ _ (λ v at.
      let s = fid_found (premises_in scene) scene.start scene.forest session.fids fid v h at in
      let r = fid_ref scene.setting.table v in
      let out = (fid_member scene v s).outside in
      rw (fid_file-outer scene v s)
      (agrees_given scene (fid_file scene.setting.table scene.forest v) PhaseError _ _ (λ x e.
      agrees_need scene _ FixedField _ _ (λ _.
      rw (wstat_fault-outer v.user r x (touched_of (stat_of r x) wanted) e out)
      (agrees_unless scene
      (wstat_fault (who_of scene.setting v.user) scene.forest r x (touched_of (stat_of r x) wanted))
      _ _ (λ none.
      agrees_changes scene (rewriting v.user now r x (touched_of (stat_of r x) wanted))
      session _
      (rewriting_lawful v.user now r x (touched_of (stat_of r x) wanted) s.listed e out none)
      h))))))
