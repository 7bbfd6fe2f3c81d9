-- An attach.
use Rattle.std.proofs.Common.{◌≡◌, ℕ, ◌-◌, length, Bool, true, false, List, [], ◌∷◌, Option, Some}
use Rattle.std.proofs.Common.{None, refl, sym, ap, ◌∙◌, is_some}
use Rattle.std.specs.Ordering.{nat_cmp}
use Rattle.p9_base.specs.declared.fault.Fault.TheVariants.{NoAuthentication, NotDirectory}
use Rattle.p9_base.specs.declared.fault.Fault.TheVariants.{PhaseError, UnknownAttachName}
use Rattle.p9_base.specs.declared.fault.Fault.TheVariants.{UnknownUser}
use Rattle.p9_base.specs.declared.node_ref.NodeRef.{NodeRef}
use Rattle.p9_base.specs.User.{is_listed_user}
use Rattle.p9_base.proofs.Rows.{each-insert}
use Rattle.p9_clean.specs.Path.{cleaned_elements}
use Rattle.p9_tree.specs.Node.{Node, is_dir}
use Rattle.p9_tree.specs.Forest.{next_of, node_of}
use Rattle.p9_inside.proofs.Facts.{lt_test}
use Rattle.p9_inside.proofs.Looks.{node_below, root_outside}
use Rattle.p9_space.specs.Given.{is_given}
use Rattle.p9_space.specs.Place.{file_of, file_ref, first_node, root_place}
use Rattle.p9_space.specs.Trail.{here}
use Rattle.p9_step.specs.State.{Session}
use Rattle.p9_step.specs.Attach.{attach_answer, attach_walk, attached_at, listed_user}
use Rattle.p9_step.proofs.Settled.{found-listed}
use Rattle.p9_guard_laws.proofs.Scene.{SafeFid, SafeFids, Scene, premises_in, outer_of}
use Rattle.p9_guard_laws.proofs.Held.{HeldPlace}
use Rattle.p9_guard_laws.proofs.Stays.{members_new}
use Rattle.p9_guard_laws.proofs.Walks.{file-outer, each_at, walk-outer, walk_safe}
use Rattle.p9_guard_laws.proofs.Agrees.{Agrees, agrees_given, agrees_need, agrees_ok, agrees_then}
use Rattle.p9_guard_laws.proofs.Agrees.{agrees_unless}
use Rattle.p9_guard_laws.proofs.Fids.{not_opened}

module _ (scene : Scene) where
  -- a place that has a file was given
  place_given : (p : NodeRef) (n : Node) → file_of p scene.setting.table scene.forest ≡ Some n
      → is_given scene.forest p ≡ true
  place_given p n e = go (is_given scene.forest p) refl
    where
      go : (b : Bool) → is_given scene.forest p ≡ b → is_given scene.forest p ≡ true
      go true t = t
      go false t =
          let alone : file_ref p scene.setting.table ≡ p =
          ap (first_node p)
          (members_new (premises_in scene) scene.forest scene.good.kept.closed.given p t) in
          let there : node_of p scene.forest ≡ Some n = ap (λ r. node_of r scene.forest) (sym alone)
          ∙ e in
          lt_test p.number (next_of p.server scene.forest)
          (node_below scene.forest scene.good.ordered p n there)

  -- the root place, if it has a file
  root_held : is_some (file_of root_place scene.setting.table scene.forest) ≡ true
      → HeldPlace (premises_in scene) scene.start scene.forest root_place
  root_held t = go (file_of root_place scene.setting.table scene.forest) refl t
    where
      go : (o : Option Node) → file_of root_place scene.setting.table scene.forest ≡ o
          → is_some o ≡ true → HeldPlace (premises_in scene) scene.start scene.forest root_place
      go None e t = let b : false ≡ true = t in absurd (cc)
      go (Some n) e t = record {
        given = place_given root_place n e;
        outside = root_outside scene.hidden scene.forest scene.good.ordered;
        safe = scene.good.kept.closed.root;
      }

  attached-agrees : (session : Session) (fid : ℕ) (user : List ℕ) (place : NodeRef)
      → is_listed_user scene.setting.users user ≡ true
      → HeldPlace (premises_in scene) scene.start scene.forest place → SafeFids scene session.fids
      → Agrees scene (attached_at scene.setting (outer_of scene) session fid user place)
      (attached_at scene.setting scene.forest session fid user place)
  attached-agrees session fid user place listed held h =
      rw (file-outer scene place held.safe)
      (agrees_given scene (file_of place scene.setting.table scene.forest) PhaseError _ _
      (λ n there.
      agrees_need scene (is_dir n) NotDirectory _ _ (λ _.
      agrees_ok scene _ (record {
        lawful = tt;
        fids =
            each-insert (SafeFid scene) nat_cmp session.fids fid _ (record {
              listed = listed;
              places = (held, tt);
              shown = λ o is. not_opened None o refl is;
            }) h;
      }))))

  pub attach-agrees : (session : Session) (fid afid : ℕ) (uname aname : List ℕ)
      → SafeFids scene session.fids
      → Agrees scene (attach_answer scene.setting (outer_of scene) session fid afid uname aname)
      (attach_answer scene.setting scene.forest session fid afid uname aname)
  attach-agrees session fid afid uname aname h =
      agrees_unless scene _ _ _ (λ _.
      agrees_need scene _ NoAuthentication _ _ (λ _.
      agrees_given scene (listed_user uname scene.setting.users) UnknownUser _ _ (λ user found.
      let listed = found-listed uname scene.setting.users user found in
      agrees_need scene _ UnknownAttachName _ _ (λ _.
      rw (file-outer scene root_place scene.good.kept.closed.root)
      (agrees_need scene _ PhaseError _ _ (λ there.
      let root = root_held there in
      let walks = walk-outer scene user listed (root_place ∷ [])
      (cleaned_elements aname) (root, tt) in
      rw walks
      (agrees_then scene (attach_walk scene.setting scene.forest user aname) _ _ (λ trail arrives.
      attached-agrees session fid user (here trail) listed
      (each_at (HeldPlace (premises_in scene) scene.start scene.forest) trail (length trail - 1)
      root_place
      (walk_safe scene user listed (root_place ∷ [])
      (cleaned_elements aname) (root, tt) trail arrives) root) h))))))))
