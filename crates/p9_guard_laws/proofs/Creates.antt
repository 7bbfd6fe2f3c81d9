-- A creation.
use Rattle.std.proofs.Common.{◌≡◌, ℕ, ◌<◌, length, Bool, true, false, List, [], ◌∷◌}
use Rattle.std.proofs.Common.{Some, ◌||◌, inl, arith, refl, ap, ◌∙◌, is_some, inr, ◌++◌}
use Rattle.std.proofs.Common.{◌⊎◌, subst}
use Rattle.std.specs.Prelude.{is_none, if◌then◌else◌, nat_lt}
use Rattle.std.specs.Option.{option_map_or}
use Rattle.std.specs.List.{list_any}
use Rattle.std.proofs.lemmas.Bool.{or_left, or_right}
use Rattle.p9_base.specs.declared.fault.Fault.TheVariants.{FidOpen, NotDirectory, PermissionDenied}
use Rattle.p9_base.specs.declared.fault.Fault.TheVariants.{PhaseError, UnknownFid, BadOpenMode}
use Rattle.p9_base.specs.declared.fault.Fault.TheVariants.{IsDirectory, BadFileName}
use Rattle.p9_base.specs.declared.fault.Fault.TheVariants.{CreationForbidden, FileExists}
use Rattle.p9_base.specs.declared.fault.Fault.TheVariants.{PathTooDeep, QidsUsedUp}
use Rattle.p9_base.specs.declared.node_ref.NodeRef.{NodeRef}
use Rattle.p9_base.specs.NodeRef.{beside}
use Rattle.p9_base.specs.User.{is_listed_user}
use Rattle.p9_base.specs.declared.mode.Mode.{Mode}
use Rattle.p9_base.specs.Mode.{mode_of}
use Rattle.p9_base.specs.Name.{is_name}
use Rattle.p9_tree.specs.Node.{Node, is_dir}
use Rattle.p9_tree.specs.Server.{Server, added, next_max, node_at}
use Rattle.p9_tree.specs.Forest.{next_of, node_of, child_in, server_at}
use Rattle.p9_tree.specs.Inside.{is_barred, is_hidden}
use Rattle.p9_tree.proofs.Lookups.{node_at-past}
use Rattle.p9_inside.proofs.Forests.{keeps_child, keeps_next}
use Rattle.p9_inside.proofs.Facts.{clash, lt_test, not_some, not_true, some_same, lt_of}
use Rattle.p9_inside.proofs.Looks.{node_below, node_number}
use Rattle.p9_space.specs.Given.{is_given}
use Rattle.p9_space.specs.Place.{first_node}
use Rattle.p9_space.specs.Rights.{may, to_write, to_execute, to_read}
use Rattle.p9_space.specs.Trail.{here, places_max}
use Rattle.p9_table.specs.declared.row.Member.{Member}
use Rattle.p9_space.specs.Table.{members_of}
use Rattle.p9_space.specs.Walk.{is_alive, is_alive_dir}
use Rattle.p9_fids.specs.Fid.{Fid, fid_at}
use Rattle.p9_step.specs.State.{Session, fid_ref, who_of}
use Rattle.p9_step.specs.ForestChange.{Mark, applied, EditNode, AddNode}
use Rattle.p9_step.specs.declared.opening.Opening.{Opening}
use Rattle.p9_step.specs.Opening.{newly_opened, opening_of}
use Rattle.p9_step.specs.Create.{create_answer, created, creation, permitting}
use Rattle.p9_step.proofs.Found.{node_at-added, server_at-tree_changed_at}
use Rattle.p9_step.proofs.NodeRefs.{here-pushed}
use Rattle.p9_guard_laws.proofs.Scene.{SafeFid, SafeFids, Scene, premises_in, outer_of}
use Rattle.p9_guard_laws.proofs.Held.{HeldPlace, HeldFid}
use Rattle.p9_guard_laws.proofs.Basics.{each_weaker}
use Rattle.p9_guard_laws.proofs.Moves.{SameStanding, evolves, LawfulEdit, Evolves, LawfulAdd}
use Rattle.p9_guard_laws.proofs.Moves.{Newcomer}
use Rattle.p9_guard_laws.proofs.Stays.{members_new, outside_stays, fids_stay, new_outside, new_safe}
use Rattle.p9_guard_laws.proofs.Stays.{place_stays}
use Rattle.p9_guard_laws.proofs.Good.{Good, good-applied}
use Rattle.p9_guard_laws.proofs.Walks.{SafeMember, here_safe, SafeMembers, node-outer, any-outer}
use Rattle.p9_guard_laws.proofs.Walks.{each_push}
use Rattle.p9_guard_laws.proofs.Agrees.{Agrees, agrees_given, agrees_need, agrees_ok}
use Rattle.p9_guard_laws.proofs.Agrees.{fid_found, fids_changed}
use Rattle.p9_guard_laws.proofs.Parents.{settled}
use Rattle.p9_guard_laws.proofs.Used.{used_open}
use Rattle.p9_guard_laws.proofs.Edits.{mark_stands}

module _ (scene : Scene) where
  permitting_safe : (ms : List Member) → SafeMembers scene ms → (m : Member)
      → permitting ms ≡ Some m → SafeMember scene m.node
  permitting_safe [] h m e = not_some m e
  permitting_safe (x ∷ xs) h m e = go x.create e (permitting_safe xs h.1 m)
    where
      go : (b : Bool) → (if b then Some x else permitting xs) ≡ Some m
          → (permitting xs ≡ Some m → SafeMember scene m.node) → SafeMember scene m.node
      go true t later =
          subst (λ (z : Member). SafeMember scene z.node) (some_same x m t)
          h.0
      go false t later = later t

  -- a directory that a listed user may write isn't hidden
  open_target : (t : NodeRef) (d : Node) (user : List ℕ) → SafeMember scene t
      → node_of t scene.forest ≡ Some d → is_listed_user scene.setting.users user ≡ true
      → may (who_of scene.setting user) d to_write ≡ true
      → is_barred t scene.hidden scene.forest ≡ false
  open_target t d user h e listed can =
      let who = who_of scene.setting user in
      used_open scene t d user h e listed
      (or_left (may who d to_read || may who d to_write) (may who d to_execute)
      (or_right (may who d to_read) (may who d to_write) can))

  -- a new node in an open directory, on which its fid is
  module _ (session : Session) (now fid : ℕ) (v : Fid) (t : NodeRef) (d : Node) (name : List ℕ)
      (asked : Mode) (opening : Opening) (h : SafeFids scene session.fids)
      (at : fid_at fid session.fids ≡ Some v) (s : SafeFid scene v)
      (pass : SafeMember scene t) (e : node_of t scene.forest ≡ Some d)
      (open_dir : is_barred t scene.hidden scene.forest ≡ false) where
    abbrev n : Node
    n = created v.user now (next_of t.server scene.forest) d name asked

    abbrev q : NodeRef
    q = beside t (next_of t.server scene.forest)

    abbrev g : List Server
    g = applied (AddNode t.server n) scene.forest

    low : t.number < next_of t.server scene.forest
    low = node_below scene.forest scene.good.ordered t d e

    same_number : d.number ≡ t.number
    same_number = node_number scene.forest t d e

    lawful_add : LawfulAdd (premises_in scene) scene.forest t.server n
    lawful_add = record {
      at_next = refl;
      under = t.number;
      parent = ap Some same_number;
      below = low;
      open_parent = open_dir;
    }

    ev : Evolves (premises_in scene) scene.forest g
    ev = evolves (premises_in scene) scene.forest scene.good.ordered (AddNode t.server n) lawful_add

    good_g : Good (premises_in scene) scene.start g
    good_g = good-applied (premises_in scene) scene.start scene.forest scene.good (AddNode t.server n)
        lawful_add

    lawful_mark : LawfulEdit (premises_in scene) g t (Mark v.user now)
    lawful_mark = record {
      outside =
          outside_stays (premises_in scene) scene.forest g scene.good.ordered ev t
          (settled scene t d e)
          pass.outside;
      standing = λ y there. mark_stands (premises_in scene) v.user now y;
    }

    there : node_of q g ≡ Some n
    unfolding applied
    there =
        ap (λ (z : Server). node_at (next_of t.server scene.forest) z.nodes)
        (server_at-tree_changed_at t (λ z. added z n) scene.forest d e)
        ∙ node_at-added (server_at t.server scene.forest) n
        (node_at-past (next_of t.server scene.forest) (server_at t.server scene.forest).nodes
        (scene.good.ordered.below t.server)) refl

    newcomer : Newcomer (premises_in scene) scene.forest q n
    newcomer = go (ev.node q n there)
      where
        go : ((x : Node) × (node_of q scene.forest ≡ Some x) × SameStanding (premises_in scene) x n)
            ⊎ Newcomer (premises_in scene) scene.forest q n
            → Newcomer (premises_in scene) scene.forest q n
        go (inl old) =
            absurd (let a : next_of t.server scene.forest < next_of t.server scene.forest =
            node_below scene.forest scene.good.ordered q old.0 old.1 in
            omega arith)
        go (inr new) = new

    place : HeldPlace (premises_in scene) scene.start g q
    place = record {
      given =
          lt_test (next_of t.server scene.forest) (next_of t.server g)
          (node_below g good_g.ordered q n there);
      outside =
          new_outside (premises_in scene) scene.start scene.forest g scene.good.ordered scene.good.kept
          ev q n there newcomer;
      safe = new_safe (premises_in scene) scene.start scene.forest g scene.good.ordered scene.good.kept
          ev q n there newcomer;
    }

    not_given : is_given scene.forest q ≡ false
    not_given =
        not_true (is_given scene.forest q)
        (λ b. let a : next_of t.server scene.forest < next_of t.server scene.forest =
        lt_of (next_of t.server scene.forest) (next_of t.server scene.forest) b in omega arith)

    new_shown : is_hidden
        (fid_ref scene.setting.table
        (record v { trail = v.trail ++ q ∷ []; opened = Some (newly_opened opening) })) scene.hidden
        ≡ false
    new_shown =
        rw (here-pushed v.trail q)
        (ap (λ r. is_hidden r scene.hidden)
        (ap (first_node q)
        (members_new (premises_in scene) scene.forest scene.good.kept.closed.given q not_given))
        ∙ not_true (is_hidden q scene.hidden)
        (λ hid. clash (is_given scene.forest q) (scene.good.kept.hidden q hid) not_given))

    fid_safe : HeldFid (premises_in scene) scene.start g
        (record v { trail = v.trail ++ q ∷ []; opened = Some (newly_opened opening) })
    fid_safe = record {
      listed = s.listed;
      places =
          each_push (HeldPlace (premises_in scene) scene.start g) v.trail q
          (each_weaker (HeldPlace (premises_in scene) scene.start scene.forest)
          (HeldPlace (premises_in scene) scene.start g)
          (place_stays (premises_in scene) scene.start scene.forest g scene.good.ordered
          scene.good.kept ev) v.trail s.places) place;
      shown = λ o _. new_shown;
    }

    pub creation-agrees : Agrees scene
        (creation scene.forest session now fid v t d name asked opening)
        (creation scene.forest session now fid v t d name asked opening)
    creation-agrees =
        agrees_ok scene _ (record {
          lawful = (lawful_add, (lawful_mark, tt));
          fids =
              fids_stay (premises_in scene) scene.start g (applied (EditNode t (Mark v.user now)) g)
              good_g.ordered
              good_g.kept
              (evolves (premises_in scene) g good_g.ordered (EditNode t (Mark v.user now)) lawful_mark)
              _
              (fids_changed (premises_in scene) scene.start g session.fids fid
              (λ w.
              record w { trail = v.trail ++ q ∷ []; opened = Some (newly_opened opening) })
              v at fid_safe
              (fids_stay (premises_in scene) scene.start scene.forest g scene.good.ordered
              scene.good.kept ev session.fids h));
        })

  pub create-agrees : (session : Session) (now fid : ℕ) (name : List ℕ) (perm bits : ℕ)
      → SafeFids scene session.fids
      → Agrees scene (create_answer scene.setting (outer_of scene) session now fid name perm bits)
      (create_answer scene.setting scene.forest session now fid name perm bits)
  create-agrees session now fid name perm bits h =
      agrees_given scene (fid_at fid session.fids) UnknownFid _ _ (λ v at.
      let s = fid_found (premises_in scene) scene.start scene.forest session.fids fid v h at in
      let ms = here_safe scene v.trail s.places in
      agrees_need scene (is_none v.opened) FidOpen _ _ (λ _.
      agrees_need scene (is_name name) BadFileName _ _ (λ _.
      agrees_given scene (opening_of bits) BadOpenMode _ _ (λ opening _.
      agrees_given scene (mode_of perm) BadOpenMode _ _ (λ asked _.
      agrees_need scene _ IsDirectory _ _ (λ _.
      let members = members_of (here v.trail) scene.setting.table in
      rw (
        any-outer scene is_some members ms,
        any-outer scene (λ o. option_map_or is_dir o false) members ms,
      ) (agrees_need scene (list_any (is_alive scene.forest) members) PhaseError _ _ (λ _.
      agrees_need scene (list_any (is_alive_dir scene.forest) members) NotDirectory _ _ (λ _.
      agrees_given scene (permitting members) CreationForbidden _ _ (λ member chosen.
      let t = member.node in
      let pass = permitting_safe members ms member chosen in
      rw (node-outer scene t pass)
      (agrees_given scene (node_of t scene.forest) PhaseError _ _ (λ d e.
      agrees_need scene (is_dir d) NotDirectory _ _ (λ _.
      agrees_need scene (may (who_of scene.setting v.user) d to_write) PermissionDenied _ _ (λ can.
      let open_dir = open_target t d v.user pass e s.listed can in
      rw (
        keeps_child scene.hidden scene.forest t name open_dir,
        keeps_next scene.hidden scene.forest t.server,
      ) (agrees_need scene (is_none (child_in t name scene.forest)) FileExists _ _ (λ _.
      agrees_need scene (nat_lt (next_of t.server scene.forest) next_max) QidsUsedUp _ _ (λ _.
      agrees_need scene (nat_lt (length v.trail) places_max) PathTooDeep _ _ (λ _.
      creation-agrees session now fid v t d name asked opening h at s pass e open_dir))))))))))))))))))
