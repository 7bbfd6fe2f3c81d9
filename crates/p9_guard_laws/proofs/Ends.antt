-- The end of fids: clunk, version, and closing.
use Rattle.std.proofs.Common.{◌≡◌, ℕ, Bool, true, false, List, [], ◌∷◌, Option, Some, None, refl}
use Rattle.std.proofs.Common.{sym, ap, ◌∙◌, ◌++◌}
use Rattle.std.specs.Prelude.{if◌then◌else◌, nat_le}
use Rattle.std.specs.Option.{option_map_or}
use Rattle.std.specs.Ordering.{nat_cmp}
use Rattle.std.specs.BTreeMap.{is_at}
use Rattle.p9_base.specs.declared.fault.Fault.TheVariants.{UnknownFid, SmallMsize}
use Rattle.p9_base.specs.declared.node_ref.NodeRef.{NodeRef}
use Rattle.p9_base.proofs.Rows.{each-remove}
use Rattle.p9_tree.specs.Node.{Node}
use Rattle.p9_tree.specs.Forest.{node_of}
use Rattle.p9_tree.specs.Inside.{is_inside}
use Rattle.p9_fids.specs.Fid.{Fid, FidRow, fid_at}
use Rattle.p9_step.specs.State.{Session, fid_file, fid_ref}
use Rattle.p9_step.specs.ForestChange.{DropNode, all_applied}
use Rattle.p9_step.specs.Clunk.{clunk_answer, without}
use Rattle.p9_step.specs.End.{on_end, removes_on_close, taken_out, on_ends}
use Rattle.p9_step.specs.Version.{is_known, msize_min, version_answer}
use Rattle.p9_guard_laws.proofs.Scene.{SafeFid, SafeFids, Scene, premises_in, outer_of, scene_after}
use Rattle.p9_guard_laws.proofs.Moves.{Lawful}
use Rattle.p9_guard_laws.proofs.Good.{fids-all, lawful-append, outer-all}
use Rattle.p9_guard_laws.proofs.Agrees.{Agrees, agrees_changes, agrees_given, agrees_need}
use Rattle.p9_guard_laws.proofs.Agrees.{agrees_ok, agrees_quiet, fid_found, agrees_if}
use Rattle.p9_guard_laws.proofs.Fids.{fid_file-outer, fid_member}
use Rattle.p9_guard_laws.proofs.Edits.{marks_lawful}

module _ (scene : Scene) where
  pub taken_lawful : (r : NodeRef) (x : Node) (user : List ℕ) (now : ℕ)
      → node_of r scene.forest ≡ Some x → is_inside r scene.hidden scene.forest ≡ false
      → Lawful (premises_in scene) scene.forest (taken_out user now r x)
  taken_lawful r x user now e out =
      (out, marks_lawful scene r x (DropNode r) user now x.parent out e refl out)

  pub end_lawful : (now : ℕ) (v : Fid) → SafeFid scene v
      → Lawful (premises_in scene) scene.forest (on_end scene.setting.table now scene.forest v)
  end_lawful now v s = go (removes_on_close v) (fid_file scene.setting.table scene.forest v) refl
    where
      go : (b : Bool) (o : Option Node) → fid_file scene.setting.table scene.forest v ≡ o
          → Lawful (premises_in scene) scene.forest
          (if b then option_map_or (taken_out v.user now (fid_ref scene.setting.table v)) o []
          else [])
      go false o e = tt
      go true None e = tt
      go true (Some x) e =
          taken_lawful (fid_ref scene.setting.table v) x v.user now e (fid_member scene v s).outside

  pub end-outer : (now : ℕ) (v : Fid) → SafeFid scene v
      → on_end scene.setting.table now (outer_of scene) v
      ≡ on_end scene.setting.table now scene.forest v
  end-outer now v s = rw (fid_file-outer scene v s) refl

  pub clunk-agrees : (session : Session) (now fid : ℕ) → SafeFids scene session.fids
      → Agrees scene (clunk_answer scene.setting (outer_of scene) session now fid)
      (clunk_answer scene.setting scene.forest session now fid)
  clunk-agrees session now fid h =
      agrees_given scene (fid_at fid session.fids) UnknownFid _ _ (λ v at.
      let s = fid_found (premises_in scene) scene.start scene.forest session.fids fid v h at in
      rw (end-outer now v s)
      (agrees_changes scene (on_end scene.setting.table now scene.forest v) (without fid session) _
      (end_lawful now v s) (each-remove (SafeFid scene) (is_at (nat_cmp fid)) session.fids h)))

pub ends_lawful : (scene : Scene) (now : ℕ) (fids : List FidRow) → SafeFids scene fids
    → Lawful (premises_in scene) scene.forest (on_ends scene.setting.table now scene.forest fids)
ends_lawful scene now [] h = tt
ends_lawful scene now (row ∷ rows) h =
    let changes = on_end scene.setting.table now scene.forest row.1 in
    let l = end_lawful scene now row.1 h.0 in
    let later = fids-all (premises_in scene) scene.start scene.forest scene.good changes l rows h.1 in
    lawful-append (premises_in scene) scene.start scene.forest changes
    (on_ends scene.setting.table now (all_applied changes scene.forest) rows) l
    (ends_lawful (scene_after scene changes l) now rows later)

pub ends-outer : (scene : Scene) (now : ℕ) (fids : List FidRow) → SafeFids scene fids
    → on_ends scene.setting.table now (outer_of scene) fids
    ≡ on_ends scene.setting.table now scene.forest fids
ends-outer scene now [] h = refl
ends-outer scene now (row ∷ rows) h =
    let table = scene.setting.table in
    let changes = on_end table now scene.forest row.1 in
    let l = end_lawful scene now row.1 h.0 in
    let later = fids-all (premises_in scene) scene.start scene.forest scene.good changes l rows h.1 in
    ap (λ cs. cs ++ on_ends table now (all_applied cs (outer_of scene)) rows)
    (end-outer scene now row.1 h.0)
    ∙ ap (λ g. changes ++ on_ends table now g rows)
    (sym (outer-all (premises_in scene) scene.start scene.forest scene.good changes l))
    ∙ ap (λ cs. changes ++ cs) (ends-outer (scene_after scene changes l) now rows later)

module _ (scene : Scene) where
  pub version-agrees : (session : Session) (now msize : ℕ) (version : List ℕ)
      → SafeFids scene session.fids → Agrees scene
      (version_answer scene.setting (outer_of scene) session now msize version)
      (version_answer scene.setting scene.forest session now msize version)
  version-agrees session now msize version h =
      rw (ends-outer scene now session.fids h)
      (agrees_need scene (nat_le msize_min msize) SmallMsize _ _ (λ _.
      agrees_if scene (is_known version) _ _ _ _
      (λ _. agrees_ok scene _ (record {
        lawful = ends_lawful scene now session.fids h;
        fids = tt;
      }))
      (λ _. agrees_quiet scene session _ h)))
