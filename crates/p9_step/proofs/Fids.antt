-- What the machine keeps of each fid of a session.
use Rattle.std.proofs.Common.{◌≡◌, ℕ, List, [], ◌∷◌, Bool, true, false, Some, None, refl, ap, subst}
use Rattle.std.specs.Map.{lookup, remove_entry}
use Rattle.std.specs.Ordering.{nat_cmp}
use Rattle.std.specs.BTreeMap.{is_at}
use Rattle.p9_tree.specs.Server.{Server}
use Rattle.p9_space.specs.Table.{MountRow}
use Rattle.p9_fids.specs.Fid.{Fid, FidRow, fid_at, without_fid}
use Rattle.p9_step.specs.Sound.{IsWellOpen, AreWellOpen}

-- what is kept of all fids is kept of the one that is found
pub AreWellOpen-fid_at : (table : List MountRow) (forest : List Server) (fids : List FidRow)
    (fid : ℕ)
    (v : Fid) → AreWellOpen table forest fids → fid_at fid fids ≡ Some v → IsWellOpen table forest v
AreWellOpen-fid_at table forest [] fid v fit found = let none : None ≡ Some v = found in cc
AreWellOpen-fid_at table forest (row ∷ rows) fid v fit found =
    go (is_at (nat_cmp fid) row.0) refl (AreWellOpen-fid_at table forest rows fid v fit.1)
  where
    go : (b : Bool) → is_at (nat_cmp fid) row.0 ≡ b
        → (fid_at fid rows ≡ Some v → IsWellOpen table forest v) → IsWellOpen table forest v
    go true e later =
        let here : Some row.1 ≡ Some v = rw e at found in let same : row.1 ≡ v = cc in
        subst (λ (w : Fid). IsWellOpen table forest w) same fit.0
    go false e later = let further : fid_at fid rows ≡ Some v = rw e at found in later further

-- without an entry that isn't there
remove_entry-none : {X : Type 0} (test : ℕ → Bool) (rows : List (ℕ × X)) → lookup test rows ≡ None
    → remove_entry test rows ≡ rows
remove_entry-none test [] none = refl
remove_entry-none test (row ∷ rows) none = go (test row.0) refl (remove_entry-none test rows)
  where
    go : (b : Bool) → test row.0 ≡ b → (lookup test rows ≡ None → remove_entry test rows ≡ rows)
        → remove_entry test (row ∷ rows) ≡ row ∷ rows
    go true e later = let here : Some row.1 ≡ None = rw e at none in cc
    go false e later =
        let further : lookup test rows ≡ None = rw e at none in
        rw e (ap (λ r. row ∷ r) (later further))

-- a fid that isn't there is not missed
pub without_fid-none : (fid : ℕ) (fids : List FidRow) → fid_at fid fids ≡ None
    → without_fid fid fids ≡ fids
without_fid-none fid fids none = remove_entry-none (is_at (nat_cmp fid)) fids none
