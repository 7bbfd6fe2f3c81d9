-- The fids of sessions of a fixed state.
use Rattle.std.proofs.Common.{◌≡◌, ◌∙◌, ℕ, false, ◌++◌, List, [], ◌∷◌, Option, Some, None}
use Rattle.std.proofs.Common.{refl, ap}
use Rattle.std.specs.BTreeMap.{is_at}
use Rattle.std.specs.List.{AllByRecursion}
use Rattle.std.specs.Ordering.{nat_cmp}
use Rattle.p9_base.proofs.Rows.{each-lookup}
use Rattle.p9_fids.specs.Fid.{Fid, FidRow, fid_at}
use Rattle.p9_fids.specs.declared.opened.Opened.{Opened}
use Rattle.p9_step.specs.End.{on_end, on_ends, removes_on_close}
use Rattle.p9_step.specs.ForestChange.{all_applied}
use Rattle.p9_step.specs.Write.{is_writable}
use Rattle.p9_fixed_laws.specs.States.{IsFixedFid}
use Rattle.p9_fixed_laws.proofs.Nodes.{Scene}

module _ (scene : Scene) where
  abbrev pub FixedFid : Fid → Type 0
  FixedFid = IsFixedFid scene.sealed scene.setting

  abbrev pub FixedFids : List FidRow → Type 0
  FixedFids fids = AllByRecursion (λ row. FixedFid row.1) fids

  -- one that is found
  pub found : (fids : List FidRow) → FixedFids fids → (fid : ℕ) (v : Fid) → fid_at fid fids ≡ Some v
      → FixedFid v
  found fids all fid v at = each-lookup FixedFid (is_at (nat_cmp fid)) fids v all at

  -- none is open to write
  pub not-writable : (v : Fid) → FixedFid v → is_writable v ≡ false
  not-writable v its = go v.opened refl
    where
      go : (o : Option Opened) → v.opened ≡ o → is_writable v ≡ false
      go None e = rw e refl
      go (Some opened) e = rw e (its.reads opened e)

  -- nor to be removed on close
  no_removal : (v : Fid) → FixedFid v → removes_on_close v ≡ false
  no_removal v its = go v.opened refl
    where
      go : (o : Option Opened) → v.opened ≡ o → removes_on_close v ≡ false
      go None e = rw e refl
      go (Some opened) e = rw e (its.stays opened e)

  -- so the end of a fid changes nothing
  pub end-nothing : (now : ℕ) (v : Fid) → FixedFid v
      → on_end scene.setting.table now scene.forest v ≡ []
  end-nothing now v its = rw (no_removal v its) refl

  -- nor does the end of all of them
  pub ends-nothing : (now : ℕ) (fids : List FidRow) → FixedFids fids
      → on_ends scene.setting.table now scene.forest fids ≡ []
  ends-nothing now [] all = refl
  ends-nothing now (row ∷ rows) all =
      ap (λ changes. changes ++ on_ends scene.setting.table now (all_applied changes scene.forest) rows)
      (end-nothing now row.1 all.0)
      ∙ ends-nothing now rows all.1
