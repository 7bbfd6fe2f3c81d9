-- An attach whose fid keeps a place.
use Rattle.std.proofs.Common.{◌≡◌, List, Some, None, [], ◌∷◌, ℕ, true, ap, refl, ◌∙◌}
use Rattle.std.specs.Map.{set_value}
use Rattle.std.specs.Ordering.{nat_cmp}
use Rattle.std.specs.BTreeMap.{is_at}
use Rattle.p9_base.specs.declared.node_ref.NodeRef.{NodeRef}
use Rattle.p9_base.specs.Results.{need, obtain, unless}
use Rattle.p9_tree.specs.Server.{Server}
use Rattle.p9_fids.specs.Fid.{changed_fid, fid_at, trailed, without_fid}
use Rattle.p9_fids.proofs.Places.{lookup-added, set-added}
use Rattle.p9_step.specs.Attach.{attach_answer, attached}
use Rattle.p9_step.specs.State.{Session, Setting}
use Rattle.p9_walks.specs.Reserved.{IsAttachRoom, attach_rest, unkept}
use Rattle.p9_walks.proofs.Reserved.{absent, placed}

module _ (setting : Setting) (forest : List Server) (session : Session) (fid afid : ℕ)
    (uname aname : List ℕ) (names : List (List ℕ))
    (is : IsAttachRoom setting fid afid uname aname (unkept true fid session) session names) where
  none : fid_at fid (without_fid fid session.fids) ≡ None
  none = absent fid (without_fid fid session.fids) is.free

  -- the fid that keeps the place is there
  pub attach-there : fid_at fid session.fids ≡ Some (placed is.user is.keeps.spare)
  attach-there =
      ap (fid_at fid) is.keeps.added
      ∙ lookup-added fid (without_fid fid session.fids) (placed is.user is.keeps.spare) none

  -- it goes to the place
  pub attach-goes : (place : NodeRef)
      → record session { fids = changed_fid fid (trailed (place ∷ [])) session.fids }
      ≡ attached fid is.user place (unkept true fid session)
  attach-goes place =
      ap (λ fids. record session { fids = fids })
      (rw attach-there
      (ap (λ fids. set_value (is_at (nat_cmp fid)) fids (placed is.user (place ∷ []))) is.keeps.added
      ∙ set-added fid (without_fid fid session.fids) (placed is.user is.keeps.spare)
      (placed is.user (place ∷ [])) none))

  -- no test that looks at no file refuses
  pub attach-rests : attach_answer setting forest (unkept true fid session) fid afid uname aname
      ≡ attach_rest setting forest (unkept true fid session) fid aname is.user
  unfolding obtain need unless
  attach-rests = rw (is.free, is.plain, is.listed, is.named) refl
