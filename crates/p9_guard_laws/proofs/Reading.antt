-- A read, of a file or of a directory.
use Rattle.std.proofs.Common.{◌≡◌, ℕ, ◌<◌, true, false, List, [], ◌∷◌, Option, Some, None, ◌||◌}
use Rattle.std.proofs.Common.{inl, arith, refl, ap, ◌∙◌, suc, ◌&&◌, inr, map}
use Rattle.std.specs.Prelude.{◌==◌, if◌then◌else◌}
use Rattle.std.specs.Option.{option_map_or}
use Rattle.std.proofs.lemmas.Bool.{or_left, and_parts}
use Rattle.p9_base.specs.declared.fault.Fault.TheVariants.{PhaseError, UnknownFid}
use Rattle.p9_base.specs.declared.fault.Fault.TheVariants.{BadDirectoryOffset, FidNotOpen}
use Rattle.p9_base.specs.User.{is_listed_user}
use Rattle.p9_tree.specs.Node.{Node, is_dir}
use Rattle.p9_tree.specs.Forest.{node_of, children_of}
use Rattle.p9_tree.specs.Inside.{is_barred, is_hidden}
use Rattle.p9_inside.proofs.Forests.{keeps_children}
use Rattle.p9_inside.proofs.Facts.{eq_of, or_cases}
use Rattle.p9_inside.proofs.Looks.{not_barred}
use Rattle.p9_space.specs.Place.{first_node}
use Rattle.p9_space.specs.Rights.{may, to_write, to_execute, to_read}
use Rattle.p9_space.specs.Trail.{here}
use Rattle.p9_table.specs.declared.row.Member.{Member}
use Rattle.p9_space.specs.Table.{members_of}
use Rattle.p9_fids.specs.declared.opened.Opened.{Opened}
use Rattle.p9_fids.specs.Fid.{Fid, fid_at, changed_fid, opened_as}
use Rattle.p9_fids.specs.declared.opened.Cursor.{Cursor}
use Rattle.p9_step.specs.State.{Session, fid_file, fid_ref, who_of}
use Rattle.p9_step.specs.ForestChange.{Touch}
use Rattle.p9_step.specs.Listing.{UnionEntry, entries_from, entries_of, entry_at, is_listed, listing}
use Rattle.p9_step.specs.Read.{cursor_at, entries_or_fault, listed_session, read_answer, readable}
use Rattle.p9_step.proofs.KeptFiles.{readable-is}
use Rattle.p9_guard_laws.proofs.Scene.{SafeFid, SafeFids, Scene, premises_in, outer_of}
use Rattle.p9_guard_laws.proofs.Walks.{SafeMember, here_safe, SafeMembers, node-outer, same_if}
use Rattle.p9_guard_laws.proofs.Agrees.{Agrees, agrees_changes, agrees_err, agrees_given}
use Rattle.p9_guard_laws.proofs.Agrees.{agrees_need, agrees_quiet, fid_found, fids_changed}
use Rattle.p9_guard_laws.proofs.Agrees.{agrees_if}
use Rattle.p9_guard_laws.proofs.Used.{used_open}
use Rattle.p9_guard_laws.proofs.Fids.{fid_file-outer, fid_member}
use Rattle.p9_guard_laws.proofs.Edits.{one_edit, touch_stands}

module _ (scene : Scene) where
  entries_one : (user : List ℕ) (position : ℕ) (m : Member)
      → SafeMember scene m.node
      → (is_listed scene.forest (who_of scene.setting user) position m ≡ true
      → is_barred m.node scene.hidden scene.forest ≡ false)
      → entries_of (outer_of scene) (who_of scene.setting user) position m
      ≡ entries_of scene.forest (who_of scene.setting user) position m
  entries_one user position m h shown =
      ap
      (λ o.
      if option_map_or
      (λ n. is_dir n && (position == 0 || may (who_of scene.setting user) n to_read))
      o false
      then map (entry_at position m.node) (children_of m.node (outer_of scene)) else [])
      (node-outer scene m.node h)
      ∙ same_if (is_listed scene.forest (who_of scene.setting user) position m) _ _ []
      (λ t. ap (map (entry_at position m.node))
      (keeps_children scene.hidden scene.forest m.node (shown t)).all)

  -- a later member that a listed user may read isn't hidden
  later_shown : (user : List ℕ) (position : ℕ) (m : Member)
      → is_listed_user scene.setting.users user ≡ true → SafeMember scene m.node → 0 < position
      → is_listed scene.forest (who_of scene.setting user) position m ≡ true
      → is_barred m.node scene.hidden scene.forest ≡ false
  later_shown user position m listed h later t = go (node_of m.node scene.forest) refl t
    where
      go : (o : Option Node) → node_of m.node scene.forest ≡ o
          → option_map_or
          (λ n. is_dir n && (position == 0 || may (who_of scene.setting user) n to_read)) o false
          ≡ true
          → is_barred m.node scene.hidden scene.forest ≡ false
      go None e t = let b : false ≡ true = t in absurd (cc)
      go (Some x) e t =
          let who = who_of scene.setting user in
          let parts = and_parts (is_dir x) (position == 0 || may who x to_read) t in
          let reads : may who x to_read ≡ true =
          elim (or_cases (position == 0) (may who x to_read) parts.1) [
            | inl zero ↦ (let z : position ≡ 0 = eq_of position 0 zero in absurd (omega arith))
            | inr can ↦ can
          ] in
          used_open scene m.node x user h e listed
          (or_left (may who x to_read || may who x to_write) (may who x to_execute)
          (or_left (may who x to_read) (may who x to_write) reads))

  entries_later : (user : List ℕ) (position : ℕ) (ms : List Member)
      → is_listed_user scene.setting.users user ≡ true → SafeMembers scene ms → 0 < position
      → entries_from (outer_of scene) (who_of scene.setting user) position ms
      ≡ entries_from scene.forest (who_of scene.setting user) position ms
  entries_later user position [] listed h later = refl
  entries_later user position (m ∷ ms) listed h later =
      rw (
        entries_one user position m h.0 (later_shown user position m listed h.0 later),
        entries_later user (suc position) ms listed h.1 (omega arith),
      ) refl

  listing-outer : (v : Fid) (o : Opened) → SafeFid scene v → v.opened ≡ Some o
      → listing scene.setting.table (outer_of scene) (who_of scene.setting v.user) (here v.trail)
      ≡ listing scene.setting.table scene.forest (who_of scene.setting v.user) (here v.trail)
  listing-outer v o s is =
      go (members_of (here v.trail) scene.setting.table)
      (here_safe scene v.trail s.places)
      (s.shown o is)
    where
      go : (ms : List Member) → SafeMembers scene ms
          → is_hidden (first_node (here v.trail) ms) scene.hidden ≡ false
          → entries_from (outer_of scene) (who_of scene.setting v.user) 0 ms
          ≡ entries_from scene.forest (who_of scene.setting v.user) 0 ms
      go [] h shown = refl
      go (m ∷ ms) h shown =
          rw (
            entries_one v.user 0 m h.0
                (λ t. not_barred scene.hidden scene.forest scene.good.ordered m.node shown
                h.0.outside),
            entries_later v.user 1 ms s.listed h.1 (omega arith),
          ) refl

  listed_safe : (session : Session) (fid : ℕ) (v : Fid) (o p : Opened) → SafeFid scene v
      → v.opened ≡ Some o → fid_at fid session.fids ≡ Some v → SafeFids scene session.fids
      → SafeFids scene (changed_fid fid (opened_as p) session.fids)
  listed_safe session fid v o p s is at h =
      fids_changed (premises_in scene) scene.start scene.forest session.fids fid (opened_as p) v at
      (record {
        listed = s.listed;
        places = s.places;
        shown = λ q _. s.shown o is;
      }) h

  given-agrees : (session : Session) (fid : ℕ) (v : Fid) (o : Opened) (offset : ℕ)
      (cursor : Option Cursor) (left given : List UnionEntry) → SafeFid scene v → v.opened ≡ Some o
      → fid_at fid session.fids ≡ Some v → SafeFids scene session.fids
      → Agrees scene (entries_or_fault session fid o offset cursor left given)
      (entries_or_fault session fid o offset cursor left given)
  given-agrees session fid v o offset cursor [] given s is at h =
      agrees_quiet scene (listed_session fid o offset cursor given session) _
      (listed_safe session fid v o _ s is at h)
  given-agrees session fid v o offset cursor (e ∷ es) [] s is at h = agrees_err scene _
  given-agrees session fid v o offset cursor (e ∷ es) (g ∷ gs) s is at h =
      agrees_quiet scene (listed_session fid o offset cursor (g ∷ gs) session) _
      (listed_safe session fid v o _ s is at h)

  pub read-agrees : (session : Session) (now fid offset count : ℕ) → SafeFids scene session.fids
      → Agrees scene (read_answer scene.setting (outer_of scene) session now fid offset count)
      (read_answer scene.setting scene.forest session now fid offset count)
  read-agrees session now fid offset count h =
      agrees_given scene (fid_at fid session.fids) UnknownFid _ _ (λ v at.
      let s = fid_found (premises_in scene) scene.start scene.forest session.fids fid v h at in
      agrees_given scene (readable v.opened) FidNotOpen _ _ (λ o held.
      let is = readable-is v.opened o held in
      rw (fid_file-outer scene v s)
      (agrees_given scene (fid_file scene.setting.table scene.forest v) PhaseError _ _ (λ x e.
      agrees_if scene (is_dir x) _ _ _ _
      (λ _. rw (listing-outer v o s is)
      (agrees_need scene _ BadDirectoryOffset _ _ (λ _.
      given-agrees session fid v o offset (cursor_at offset o) _ _ s is at h)))
      (λ _. agrees_changes scene _ session _ (
        one_edit scene (fid_ref scene.setting.table v) (Touch now)
            (fid_member scene v s).outside
            (touch_stands (premises_in scene) now),
        tt,
      ) h)))))
