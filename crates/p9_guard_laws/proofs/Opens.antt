-- An open.
use Rattle.std.proofs.Common.{◌≡◌, ℕ, Bool, true, false, not, List, [], ◌∷◌, Some, ◌||◌, refl, ◌&&◌}
use Rattle.std.specs.Prelude.{is_none, if◌then◌else◌}
use Rattle.std.proofs.lemmas.Bool.{and_parts}
use Rattle.p9_base.specs.declared.fault.Fault.TheVariants.{FidOpen, PermissionDenied, PhaseError}
use Rattle.p9_base.specs.declared.fault.Fault.TheVariants.{UnknownFid, BadOpenMode, ExclusiveUse}
use Rattle.p9_base.specs.declared.fault.Fault.TheVariants.{IsDirectory}
use Rattle.p9_base.specs.declared.node_ref.NodeRef.{NodeRef}
use Rattle.p9_base.specs.declared.mode.Permissions.{Permissions}
use Rattle.p9_base.specs.declared.mode.Rights.{Rights}
use Rattle.p9_base.specs.Rights.{has_right, is_granted}
use Rattle.p9_tree.specs.Node.{Node}
use Rattle.p9_tree.specs.Forest.{node_of}
use Rattle.p9_tree.specs.Inside.{is_inside}
use Rattle.p9_space.specs.Rights.{may, to_write, to_execute, to_read}
use Rattle.p9_fids.specs.Fid.{Fid, fid_at, opened_as}
use Rattle.p9_fids.specs.declared.opened.OpenMode.{OpenMode}
use Rattle.p9_fids.specs.declared.opened.OpenMode.TheVariants.{Execute, Read, ReadWrite, Write}
use Rattle.p9_step.specs.State.{Session, SessionRow, fid_file, fid_ref, who_of}
use Rattle.p9_step.specs.ForestChange.{Mark, Cut, EditNode}
use Rattle.p9_step.specs.declared.opening.Opening.{Opening}
use Rattle.p9_step.specs.Open.{is_cut, is_taken, may_open, open_answer, opened_session}
use Rattle.p9_step.specs.Open.{truncation}
use Rattle.p9_step.specs.Opening.{mode_rights, newly_opened, opening_of, wanted_by}
use Rattle.p9_guard_laws.proofs.Scene.{SafeFid, SafeFids, Scene, premises_in, outer_of}
use Rattle.p9_guard_laws.proofs.Moves.{Lawful}
use Rattle.p9_guard_laws.proofs.Agrees.{Agrees, agrees_changes, agrees_given, agrees_need}
use Rattle.p9_guard_laws.proofs.Agrees.{fid_found, fids_changed}
use Rattle.p9_guard_laws.proofs.Used.{used_shown}
use Rattle.p9_guard_laws.proofs.Fids.{fid_file-outer, fid_member}
use Rattle.p9_guard_laws.proofs.Parents.{may_write_parent-outer}
use Rattle.p9_guard_laws.proofs.Edits.{cut_stands, mark_stands, two_edits}

-- whoever is granted something is granted one of the three
some_grant : (gr gw gx r w x : Bool) → (r || w || x) ≡ true
    → ((gr || not r) && (gw || not w) && (gx || not x)) ≡ true → (gr || gw || gx) ≡ true
some_grant true gw gx r w x any all = refl
some_grant false true gx r w x any all = refl
some_grant false false true r w x any all = refl
some_grant false false false true w x any all = let b : false ≡ true = all in cc
some_grant false false false false true x any all = let b : false ≡ true = all in cc
some_grant false false false false false true any all = let b : false ≡ true = all in cc
some_grant false false false false false false any all = let b : false ≡ true = any in cc

module _ (p : Permissions) (owner member : Bool) where
  abbrev gr : Bool
  gr = has_right (λ r. r.read) p owner member

  abbrev gw : Bool
  gw = has_right (λ r. r.write) p owner member

  abbrev gx : Bool
  gx = has_right (λ r. r.execute) p owner member

  three : (gr || gw || gx) ≡ true
      → (is_granted p owner member to_read || is_granted p owner member to_write || is_granted p
      owner member to_execute) ≡ true
  three any = go gr gw gx any
    where
      go : (a b c : Bool) → (a || b || c) ≡ true
          → (((a || false) && (b || true) && (c || true)) || ((a || true) && (b || false)
          && (c || true))
          || ((a || true) && (b || true) && (c || false))) ≡ true
      go true true true e = refl
      go true true false e = refl
      go true false true e = refl
      go true false false e = refl
      go false true true e = refl
      go false true false e = refl
      go false false true e = refl
      go false false false e = let b : false ≡ true = e in cc

  granted_some : (wanted : Rights) → (wanted.read || wanted.write || wanted.execute) ≡ true
      → is_granted p owner member wanted ≡ true
      → (is_granted p owner member to_read || is_granted p owner member to_write || is_granted p
      owner member to_execute) ≡ true
  granted_some wanted any all =
      three (some_grant gr gw gx wanted.read wanted.write wanted.execute any all)

-- each opening wants something
wants_some : (o : Opening)
    → ((wanted_by o).read || (wanted_by o).write || (wanted_by o).execute) ≡ true
wants_some o = go o.mode o.truncates
  where
    go : (m : OpenMode) (t : Bool)
        → ((mode_rights m).read || ((mode_rights m).write || t) || (mode_rights m).execute) ≡ true
    go Read t = refl
    go Write t = refl
    go ReadWrite t = refl
    go Execute true = refl
    go Execute false = refl

module _ (scene : Scene) where
  opened_safe : (session : Session) (fid : ℕ) (v : Fid) (x : Node) (o : Opening)
      → SafeFid scene v → fid_file scene.setting.table scene.forest v ≡ Some x
      → may (who_of scene.setting v.user) x (wanted_by o) ≡ true
      → fid_at fid session.fids ≡ Some v → SafeFids scene session.fids
      → SafeFids scene (opened_session fid o session).fids
  opened_safe session fid v x o s e can at h =
      fids_changed (premises_in scene) scene.start scene.forest session.fids fid
      (opened_as (newly_opened o)) v at (record {
        listed = s.listed;
        places = s.places;
        shown =
            λ q _.
            used_shown scene (fid_ref scene.setting.table v) x v.user (fid_member scene v s) e
            s.listed
            (granted_some x.mode.permissions _ _ (wanted_by o) (wants_some o) can);
      }) h

  cut_lawful : (b : Bool) (r : NodeRef) (x : Node) (user : List ℕ) (now : ℕ)
      → node_of r scene.forest ≡ Some x → is_inside r scene.hidden scene.forest ≡ false
      → Lawful (premises_in scene) scene.forest
      (if b then EditNode r (Cut 0) ∷ EditNode r (Mark user now) ∷ [] else [])
  cut_lawful true r x user now e out =
      two_edits scene r x (Cut 0) (Mark user now) e out (cut_stands (premises_in scene) 0)
      (mark_stands (premises_in scene) user now)
  cut_lawful false r x user now e out = tt

  pub open-agrees : (sessions : List SessionRow) (session : Session) (now fid bits : ℕ)
      → SafeFids scene session.fids
      → Agrees scene (open_answer scene.setting (outer_of scene) sessions session now fid bits)
      (open_answer scene.setting scene.forest sessions session now fid bits)
  open-agrees sessions session now fid bits h =
      agrees_given scene (fid_at fid session.fids) UnknownFid _ _ (λ v at.
      let s = fid_found (premises_in scene) scene.start scene.forest session.fids fid v h at in
      let r = fid_ref scene.setting.table v in
      let m = fid_member scene v s in
      agrees_need scene (is_none v.opened) FidOpen _ _ (λ _.
      rw (fid_file-outer scene v s)
      (agrees_given scene (fid_file scene.setting.table scene.forest v) PhaseError _ _ (λ x e.
      agrees_given scene (opening_of bits) BadOpenMode _ _ (λ o _.
      agrees_need scene _ IsDirectory _ _ (λ _.
      rw (may_write_parent-outer scene v.user r x e m.outside)
      (agrees_need scene (may_open (who_of scene.setting v.user) scene.forest r x o)
      PermissionDenied _ _
      (λ can.
      agrees_need scene (not (is_taken scene.setting.table sessions r x)) ExclusiveUse _ _ (λ _.
      agrees_changes scene (truncation v.user now r x o) (opened_session fid o session) _
      (cut_lawful (is_cut x o) r x v.user now e m.outside)
      (opened_safe session fid v x o s e
      (and_parts (may (who_of scene.setting v.user) x (wanted_by o)) _ can).0 at h))))))))))
