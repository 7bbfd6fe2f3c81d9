-- Rooms that are reserved for a walk.
use Rattle.std.proofs.Common.{◌≡◌, ◌≢◌, ℕ, ◌≤◌, Bool, true, false, List, Option, Some, None}
use Rattle.std.proofs.Common.{IsSome, Equal, length, is_some}
use Rattle.std.proofs.Common.{arith, refl, sym, ap, ◌∙◌}
use Rattle.std.proofs.Common.{Bor}
use Rattle.std.specs.Option.{option_copied, option_map}
use Rattle.std.specs.Prelude.{◌==◌}
use Rattle.std.specs.Ordering.{nat_cmp}
use Rattle.std.specs.Cmp.{ranked}
use Rattle.std.proofs.lemmas.Bool.Decides.{nat_tests}
use Rattle.p9_base.specs.declared.fault.Fault.TheVariants.{UnknownFid}
use Rattle.p9_base.specs.declared.node_ref.NodeRef.{NodeRef}
use Rattle.p9_space.specs.Table.{MountRow}
use Rattle.p9_fids.specs.Fid.{Fid, FidRow, changed_fid, fid_at, nofid, put_fault, trailed, with_fid}
use Rattle.p9_fids.specs.Fid.{without_fid}
use Rattle.p9_fids.specs.Held.{Held, fid_of}
use Rattle.p9_fids.proofs.Fids.{can_put}
use Rattle.p9_fids.proofs.Places.{lookup-added, lookup-beside, set-added}
use Rattle.p9_step.specs.State.{Session}
use Rattle.p9_step.specs.Walk.{moved, newfid_fault}
use Rattle.p9_walks.specs.declared.walk.Room.{Room}
use Rattle.p9_walks.specs.declared.walk.Room.TheVariants.{Added, Channels}
use Rattle.p9_walks.specs.Reserved.{IsWalkRoom, unreserved}

-- a fid that is at a trail, and not open
abbrev pub placed : (user : List ℕ) → List NodeRef → Fid
placed user trail = record { user = user; trail = trail; opened = None }

-- what is not there is nothing
pub not-there : {X : Type 0} (o : Option X) → is_some o ≡ false → o ≡ None
not-there None e = refl
not-there (Some x) e = absurd (cc)

-- a fid that can be added is not there
pub absent : (fid : ℕ) (fids : List FidRow) → put_fault fid fids ≡ None → fid_at fid fids ≡ None
absent fid fids free = not-there (fid_at fid fids) ((can_put fid fids free).free)

-- a newfid that is another fid can be added
pub newfid-free : (fid newfid : ℕ) (fids : List FidRow) → (newfid == fid) ≡ false
    → newfid_fault fid newfid fids ≡ None → put_fault newfid fids ≡ None
newfid-free fid newfid fids other free = go (newfid == nofid) refl
  where
    go : (b : Bool) → (newfid == nofid) ≡ b → put_fault newfid fids ≡ None
    go true e = let no : Some UnknownFid ≡ None = rw e at free in absurd (cc)
    go false e = rw e (rw (e, other) at free)

-- two numbers that differ are tested so
pub differ : (m n : ℕ) → m ≢ n → (m == n) ≡ false
differ m n other = grind (arith, nat_tests, other)

-- two numbers that differ don't compare as equal
apart : (fid newfid : ℕ) → (newfid == fid) ≡ false → nat_cmp fid newfid ≢ Equal
apart fid newfid other e =
    let its : fid ≡ newfid = ranked fid newfid Equal (sym e) in
    grind (arith, nat_tests, its, other)

module _ (fid newfid : ℕ) (user : List ℕ) (spare : List NodeRef) (fids rows : List FidRow)
    (other : (newfid == fid) ≡ false) (free : newfid_fault fid newfid fids ≡ None)
    (added : rows ≡ with_fid newfid (placed user spare) fids) where
  none : fid_at newfid fids ≡ None
  none = absent newfid fids (newfid-free fid newfid fids other free)

  -- the fid that keeps the place is there
  pub kept-there : fid_at newfid rows ≡ Some (placed user spare)
  kept-there = rw added (lookup-added newfid fids (placed user spare) none)

  -- the fid is there as before
  pub kept-beside : fid_at fid rows ≡ fid_at fid fids
  kept-beside = rw added (lookup-beside newfid fid fids (placed user spare) (apart fid newfid other))

  -- where the trail leads it is as one that is added there
  pub kept-moved : (trail : List NodeRef)
      → changed_fid newfid (trailed trail) rows ≡ with_fid newfid (placed user trail) fids
  kept-moved trail =
      rw kept-there
      (rw added (set-added newfid fids (placed user spare) (placed user trail) none))

-- what is seen through a reference is there
pub found-some : (o : Option (Bor Held)) (v : Fid) → option_map fid_of (option_copied o) ≡ Some v
    → IsSome o
found-some None v found = absurd (cc)
found-some (Some held) v found = refl

-- two that are found as the same are the same
pub found-same : (held v : Fid) (o : Option Fid) → Some held ≡ o → o ≡ Some v → v ≡ held
found-same held v o its found = let both : Some held ≡ Some v = its ∙ found in cc

-- what the fid that was added keeps
pub record IsKept (fid newfid : ℕ) (places : List NodeRef → ℕ) (v : Fid) (session : Session) : Type 0 where
  pub spare : List NodeRef
  pub other : (newfid == fid) ≡ false
  pub there : fid_at newfid session.fids ≡ Some (placed v.user spare)
  pub has : places v.trail ≤ length spare
  pub goes : (trail : List NodeRef) → changed_fid newfid (trailed trail) session.fids
      ≡ with_fid newfid (placed v.user trail) (without_fid newfid session.fids)

module _ {A : Type 0} (table : List MountRow) (fid newfid : ℕ) (places : List NodeRef → ℕ) where
  -- the fid is there, whatever is kept
  pub still-there : (room : Room A) (session : Session)
      → (is : IsWalkRoom table fid newfid places (unreserved (Some room) newfid session) session room)
      → fid_at fid session.fids ≡ Some is.v
  still-there Added session is =
      let kept = is.has.1 in
      kept-beside fid newfid is.v.user kept.spare _ session.fids is.has.0 is.free kept.added
      ∙ is.found
  still-there (Channels channels) session is = is.found

  pub kept : (room : Room A) (session : Session) → room ≡ Added
      → (is : IsWalkRoom table fid newfid places (unreserved (Some room) newfid session) session room)
      → IsKept fid newfid places is.v session
  kept Added session e is =
      let its = is.has.1 in
      record {
        spare = its.spare;
        other = is.has.0;
        there = kept-there fid newfid is.v.user its.spare _ session.fids is.has.0 is.free its.added;
        has = its.room;
        goes = kept-moved fid newfid is.v.user its.spare _ session.fids is.has.0 is.free its.added;
      }
  kept (Channels channels) session e is = absurd (cc)

  -- it goes where newfid is to be
  pub kept-goes : (room : Room A) (session : Session) → room ≡ Added
      → IsWalkRoom table fid newfid places (unreserved (Some room) newfid session) session room
      → (trail : List NodeRef) (v : Fid)
      → fid_at fid (unreserved (Some room) newfid session).fids ≡ Some v
      → record session { fids = changed_fid newfid (trailed trail) session.fids }
      ≡ moved fid newfid v trail (unreserved (Some room) newfid session)
  kept-goes Added session e is trail v found =
      let its = kept Added session refl is in
      let same : v ≡ is.v = found-same is.v v (fid_at fid (without_fid newfid session.fids)) (sym is.found) found in
      rw (its.other, same) (ap (λ fids. record session { fids = fids }) (its.goes trail))
  kept-goes (Channels channels) session e is trail v found = absurd (cc)

  -- the room is also one for fewer places
  pub fewer-places : (fewer : List NodeRef → ℕ) (room : Room A) (before session : Session)
      → (is : IsWalkRoom table fid newfid places before session room)
      → fewer is.v.trail ≤ places is.v.trail
      → IsWalkRoom table fid newfid fewer before session room
  fewer-places fewer Added before session is less =
      let its = is.has.1 in
      let more = its.room in
      record {
        v = is.v;
        found = is.found;
        closed = is.closed;
        free = is.free;
        has = (
          is.has.0,
          record {
            spare = its.spare;
            added = its.added;
            room = omega (arith, less, more);
          },
        );
      }
  fewer-places fewer (Channels channels) before session is less =
      let more = is.has.1 in
      record {
        v = is.v;
        found = is.found;
        closed = is.closed;
        free = is.free;
        has = (is.has.0, omega (arith, less, more), is.has.2);
      }
