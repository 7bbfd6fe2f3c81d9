-- A clunk frees its fid.
use Rattle.std.proofs.Common.{◌≡◌, ℕ, ◌<◌, Bool, true, false, List, [], ◌∷◌, Some, None, refl}
use Rattle.std.proofs.Common.{arith, length}
use Rattle.std.specs.Prelude.{◌==◌, nat_le}
use Rattle.std.specs.List.{AllByRecursion}
use Rattle.std.specs.BTreeMap.{is_at}
use Rattle.std.specs.Map.{keys_of}
use Rattle.std.specs.Ordering.{nat_cmp}
use Rattle.std.proofs.lemmas.Bool.Decides.{nat_tests}
use Rattle.p9_base.specs.Results.{obtain}
use Rattle.p9_base.proofs.Rows.{each-lookup}
use Rattle.p9_fids.specs.Fid.{Fid, FidRow, fid_at, nofid, put_fault, without_fid}
use Rattle.p9_fids.specs.Fids.{IsFids}
use Rattle.p9_step.specs.Clunk.{without}
use Rattle.p9_step.specs.Sound.{IsSession}
use Rattle.p9_manual_laws.specs.Clunks.{ClunkFreesFid}
use Rattle.p9_manual_laws.proofs.Rows.{at_is, length-removed, lookup-removed}
use Rattle.p9_manual_laws.proofs.Sessions.{session_at-changed}

-- a fid that is there has a number below that of no fid
below_nofid : (fid : ℕ) (fids : List FidRow) (v : Fid)
    → AllByRecursion (λ k. k < nofid) (keys_of fids) → fid_at fid fids ≡ Some v → fid < nofid
below_nofid fid [] v below found = let none : None ≡ Some v = found in absurd (cc)
below_nofid fid (row ∷ rows) v below found =
    go (is_at (nat_cmp fid) row.0) refl (below_nofid fid rows v below.1)
  where
    go : (b : Bool) → is_at (nat_cmp fid) row.0 ≡ b
        → (fid_at fid rows ≡ Some v → fid < nofid) → fid < nofid
    go true e later = let same = at_is fid row.0 e in let small = below.0 in omega arith
    go false e later = let there : fid_at fid rows ≡ Some v = rw e at found in later there

-- a number that was freed can be added
can_put_again : (fid : ℕ) (fids : List FidRow) (v : Fid) → IsFids fids → fid_at fid fids ≡ Some v
    → put_fault fid (without_fid fid fids) ≡ None
can_put_again fid fids v kept found =
    let small = below_nofid fid fids v kept.below found in
    let other : (fid == nofid) ≡ false = grind (arith, nat_tests, small) in
    let gone : fid_at fid (without_fid fid fids) ≡ None = lookup-removed fid fids kept.rising in
    let fewer = length-removed fid fids v found in
    let few = kept.few in
    let room : nat_le 1024 (length (without_fid fid fids)) ≡ false =
    grind (arith, nat_tests, fewer, few) in
    rw (other, gone, room) refl

pub clunk_frees_fid : ClunkFreesFid
unfolding obtain
clunk_frees_fid state name session fid now v sound has =
    let kept : IsSession state.setting state.forest session =
    each-lookup (IsSession state.setting state.forest) (is_at (nat_cmp name)) state.sessions session
    sound.served.sessions has.session_is in (
      rw (has.session_is, has.fid_is) refl,
      rw (has.session_is, has.fid_is) (record {
        session = without fid session;
        is_open = session_at-changed state name session (without fid session) has.session_is;
        gone = lookup-removed fid session.fids kept.fids.rising;
        free = can_put_again fid session.fids v kept.fids has.fid_is;
      }),
    )
