-- What each outcome leads to: its changes are lawful, and the session that it leaves is one.
use Rattle.p9_space.specs.Trail.{here}
use Rattle.std.proofs.Common.{Bool, Err, List, None, Ok, Some, [], arith, false, inl, inr, refl}
use Rattle.std.proofs.Common.{subst, sym, true, ℕ, ◌<◌, ◌^◌, ◌∷◌, ◌≡◌, ◌≤◌, ◌⊎◌}
use Rattle.std.proofs.lemmas.Bool.Decides.{nat_tests}
use Rattle.std.specs.BTreeMap.{is_at}
use Rattle.std.specs.Ordering.{nat_cmp}
use Rattle.std.specs.Prelude.{codes, min, nat_le, ◌==◌}
use Rattle.p9_base.specs.Fault.{text_of}
use Rattle.p9_base.specs.User.{is_user}
use Rattle.p9_base.specs.declared.fault.Fault.TheVariants.{UnknownFid}
use Rattle.p9_base.specs.declared.node_ref.NodeRef.{NodeRef}
use Rattle.p9_base.proofs.Rows.{each-insert, each-lookup, each-remove, each-set}
use Rattle.p9_tree.specs.Forest.{IsForest}
use Rattle.p9_tree.specs.Server.{Server}
use Rattle.p9_space.specs.Given.{is_table_given}
use Rattle.p9_wire.specs.Frame.{msize_max}
use Rattle.p9_wire.specs.Message.{RMessage, Rerror, Rversion}
use Rattle.p9_fids.specs.Fid.{Fid, changed_fid, fid_at, nofid, put_fault, trailed, with_fid}
use Rattle.p9_fids.proofs.Fids.{fids-changed, fids-none, fids-with, fids-without}
use Rattle.p9_step.specs.Answer.{Answer, Outcome, outcome_of}
use Rattle.p9_step.specs.Attach.{attached}
use Rattle.p9_step.specs.ForestChange.{ForestChange, all_applied}
use Rattle.p9_step.specs.Clunk.{without}
use Rattle.p9_step.specs.End.{on_end, on_ends, taken_out}
use Rattle.p9_step.specs.Remove.{removal}
use Rattle.p9_step.specs.Sound.{IsFid, IsMsize, IsSession, IsSetting}
use Rattle.p9_step.specs.State.{Session, Setting, fid_ref}
use Rattle.p9_step.specs.Version.{msize_min}
use Rattle.p9_step.specs.Walk.{moved, newfid_fault, walked}
use Rattle.p9_step.proofs.Done.{OnDone, done-is, done-map}
use Rattle.p9_step.proofs.Ends.{node_of-inner}
use Rattle.p9_step.proofs.Evolves.{Evolves, evolves-same}
use Rattle.p9_step.proofs.Lawful.{AllLawful, evolves-lawful, lawful-on_end, lawful-on_ends}
use Rattle.p9_step.proofs.Lawful.{lawful-taken_out}
use Rattle.p9_step.proofs.OpenFids.{fits-shut}
use Rattle.p9_step.proofs.Passed.{AttachDone, ClunkDone, RemovalDone, RemoveDone, StatDone}
use Rattle.p9_step.proofs.Passed.{VersionDone, WalkDone, removal-done}
use Rattle.p9_step.proofs.Settled.{IsGivenTrail, each-evolved, fits-of, found-listed, listed-user}
use Rattle.p9_step.proofs.Settled.{place-given, session-evolved, trail-walked, users-of}

-- the changes are lawful, and the session is a session of the forest after them
pub record Kept (setting : Setting) (forest : List Server) (o : Outcome) : Type 0 where
  pub lawful : AllLawful forest o.changes
  pub session : IsSession setting (all_applied o.changes forest) o.session

-- what a request finds
pub record IsReady (setting : Setting) (forest : List Server) (session : Session) (now : ℕ) :
    Type 0 where
  pub sound : IsForest forest
  pub fixed : IsSetting setting
  pub given : is_table_given forest setting.table ≡ true
  pub its : IsSession setting forest session
  pub short : now < 2 ^ 32

module _ (setting : Setting) (forest : List Server) (session : Session) (now : ℕ)
    (ready : IsReady setting forest session now) where
  -- an outcome that changes no file
  pub kept-quiet : (left : Session) (reply : RMessage) → IsSession setting forest left
      → Kept setting forest (record { changes = []; session = left; reply = reply })
  kept-quiet left reply its = record { lawful = tt; session = its }

  -- one that leaves a session that is one already
  pub kept-changes : (changes : List ForestChange) (left : Session) (reply : RMessage)
      → AllLawful forest changes → IsSession setting forest left
      → Kept setting forest (record { changes = changes; session = left; reply = reply })
  kept-changes changes left reply lawful its = record {
    lawful = lawful;
    session =
        session-evolved setting forest (all_applied changes forest) ready.sound
        (evolves-lawful forest changes ready.sound lawful) left its;
  }

  -- the fid of the number
  pub fid-of : (fid : ℕ) (v : Fid) → fid_at fid session.fids ≡ Some v → IsFid setting forest v
  fid-of fid v found =
      each-lookup (λ w. IsFid setting forest w) (is_at (nat_cmp fid)) session.fids v
      ready.its.each found

  pub user-of : (fid : ℕ) (v : Fid) → fid_at fid session.fids ≡ Some v → is_user v.user ≡ true
  user-of fid v found =
      listed-user setting.users v.user ready.fixed.users (fid-of fid v found).listed

  -- a session with a change of one fid, in a forest that has evolved
  pub session-changed : (after : List Server) (fid : ℕ) (f : Fid → Fid) (v : Fid)
      → Evolves forest after → fid_at fid session.fids ≡ Some v → IsFid setting after (f v)
      → IsSession setting after (record session { fids = changed_fid fid f session.fids })
  session-changed after fid f v evolves found new = record {
    msize = ready.its.msize;
    fids = fids-changed fid f session.fids ready.its.fids;
    each =
        rw found (each-set (λ w. IsFid setting after w) (is_at (nat_cmp fid)) session.fids (f v) new
        (each-evolved setting forest after ready.sound evolves session.fids ready.its.each));
  }

  -- with a fid more
  pub session-with : (fid : ℕ) (v : Fid) → fid < 2 ^ 32 → put_fault fid session.fids ≡ None
      → IsFid setting forest v
      → IsSession setting forest (record session { fids = with_fid fid v session.fids })
  session-with fid v small free new = record {
    msize = ready.its.msize;
    fids = fids-with fid v session.fids small free ready.its.fids;
    each =
        each-insert (λ w. IsFid setting forest w) nat_cmp session.fids fid v new
        ready.its.each;
  }

  -- without one
  pub session-without : (fid : ℕ) → IsSession setting forest (without fid session)
  session-without fid = record {
    msize = ready.its.msize;
    fids = fids-without fid session.fids ready.its.fids;
    each =
        each-remove (λ w. IsFid setting forest w) (is_at (nat_cmp fid)) session.fids
        ready.its.each;
  }

  pub kept-version : (msize : ℕ) (o : Outcome)
      → VersionDone setting forest session now msize o → Kept setting forest o
  kept-version msize o done = by done.is
    where
      set : nat_le msize_min msize ≡ true → IsMsize (Some (min msize msize_max))
      set e = let le : msize_min ≤ msize = grind (arith, nat_tests) in (omega arith, omega arith)

      by : (o ≡ record {
        changes = on_ends setting.table now forest session.fids;
        session = record { msize = Some (min msize msize_max); fids = [] };
        reply = Rversion (min msize msize_max) (codes "9P2000");
      })
          ⊎ (o ≡ record {
            changes = [];
            session = session;
            reply = Rversion (min msize msize_max) (codes "unknown");
          })
          → Kept setting forest o
      by (inl is) = subst (Kept setting forest) (sym is) (record {
        lawful =
            lawful-on_ends setting.table now ready.short forest session.fids ready.sound
            (users-of setting forest session.fids ready.fixed ready.its.each)
            (fits-of setting forest session.fids ready.its.each);
        session = record { msize = set done.enough; fids = fids-none; each = tt };
      })
      by (inr is) =
          subst (Kept setting forest) (sym is) (kept-quiet session _ ready.its)

  pub kept-attach : (fid : ℕ) (uname aname : List ℕ) (o : Outcome) → fid < 2 ^ 32
      → AttachDone setting forest session fid uname aname o → Kept setting forest o
  kept-attach fid uname aname o small done =
      subst (Kept setting forest) (sym done.is)
      (kept-quiet (attached fid done.user (here done.trail) session) _ (session-with fid (record {
        user = done.user;
        trail = here done.trail ∷ [];
        opened = None;
      }) small done.free (record {
        listed = found-listed uname setting.users done.user done.listed;
        trail = record { some = omega arith; few = omega arith };
        given =
            rw (place-given forest setting.table (here done.trail) done.file ready.sound ready.given
            done.there) refl;
        opened = fits-shut setting.table forest _ refl;
      })))

  -- the fid is at the end of a trail
  fid-moved : (fid : ℕ) (v : Fid) (trail : List NodeRef) → fid_at fid session.fids ≡ Some v
      → v.opened ≡ None → IsGivenTrail forest trail → IsFid setting forest (trailed trail v)
  fid-moved fid v trail found shut its = record {
    listed = (fid-of fid v found).listed;
    trail = its.sizes;
    given = its.given;
    opened = fits-shut setting.table forest (trailed trail v) shut;
  }

  other_free : (fid newfid : ℕ) → newfid_fault fid newfid session.fids ≡ None
      → (newfid == fid) ≡ false → put_fault newfid session.fids ≡ None
  other_free fid newfid free other = go (newfid == nofid) refl
    where
      go : (b : Bool) → (newfid == nofid) ≡ b → put_fault newfid session.fids ≡ None
      go true e = let no : Some UnknownFid ≡ None = rw e at free in absurd (cc)
      go false e = rw e (rw (e, other) at free)

  moved-kept : (fid newfid : ℕ) (v : Fid) (trail : List NodeRef) → newfid < 2 ^ 32
      → fid_at fid session.fids ≡ Some v → v.opened ≡ None
      → newfid_fault fid newfid session.fids ≡ None → IsGivenTrail forest trail
      → IsSession setting forest (moved fid newfid v trail session)
  moved-kept fid newfid v trail small found shut free its = go (newfid == fid) refl
    where
      go : (b : Bool) → (newfid == fid) ≡ b
          → IsSession setting forest (moved fid newfid v trail session)
      go true e =
          rw e (session-changed forest fid (trailed trail) v (evolves-same forest) found
          (fid-moved fid v trail found shut its))
      go false e =
          rw e (session-with newfid (record { user = v.user; trail = trail; opened = None })
          small (other_free fid newfid free e) (record {
            listed = (fid-of fid v found).listed;
            trail = its.sizes;
            given = its.given;
            opened = fits-shut setting.table forest _ refl;
          }))

  pub kept-walk : (fid newfid : ℕ) (names : List (List ℕ)) (o : Outcome) → newfid < 2 ^ 32
      → WalkDone setting forest session fid newfid names o → Kept setting forest o
  kept-walk fid newfid names o small done =
      let v = done.v in
      let was = fid-of fid v done.found in
      let its =
      trail-walked setting forest ready.sound v.user v.trail names (record {
        sizes = was.trail;
        given = was.given;
      }) in
      elim done.is [
        | inl is ↦ subst (Kept setting forest) (sym is)
            (kept-quiet (moved fid newfid v (walked setting forest v.user v.trail names).trail
            session) _
            (moved-kept fid newfid v (walked setting forest v.user v.trail names).trail small
            done.found done.shut done.free its))
        | inr is ↦ subst (Kept setting forest) (sym is) (kept-quiet session _ ready.its)
      ]

  pub kept-clunk : (fid : ℕ) (o : Outcome) → ClunkDone setting forest session now fid o
      → Kept setting forest o
  kept-clunk fid o done =
      subst (Kept setting forest) (sym done.is)
      (kept-changes (on_end setting.table now forest done.v) (without fid session) _
      (lawful-on_end setting.table now ready.short forest done.v ready.sound
      (user-of fid done.v done.found) (fid-of fid done.v done.found).opened)
      (session-without fid))

  pub kept-stat : (fid : ℕ) (o : Outcome) → StatDone setting forest session fid o
      → Kept setting forest o
  kept-stat fid o done =
      subst (Kept setting forest) (sym done.is) (kept-quiet session _ ready.its)

  removal-kept : (fid : ℕ) (v : Fid) → fid_at fid session.fids ≡ Some v → (o : Outcome)
      → RemovalDone setting forest (without fid session) now v o → Kept setting forest o
  removal-kept fid v found o done =
      subst (Kept setting forest) (sym done.is)
      (kept-changes (taken_out v.user now (fid_ref setting.table v) done.n) (without fid session) _
      (lawful-taken_out setting.table now ready.short forest v.user (fid_ref setting.table v) done.n
      ready.sound (user-of fid v found) (record {
        not_root =
            node_of-inner forest (fid_ref setting.table v) done.n ready.sound done.there done.inner;
        empty = done.empty;
      })) (session-without fid))

  -- a refusal that is answered leaves a session too
  outcome-kept : (left : Session) (answer : Answer) → IsSession setting forest left
      → OnDone (Kept setting forest) answer → Kept setting forest (outcome_of left answer)
  outcome-kept left (Ok outcome) its kept =
      done-is (Kept setting forest) (Ok outcome) outcome kept refl
  outcome-kept left (Err fault) its kept = kept-quiet left (Rerror (text_of fault)) its

  pub kept-remove : (fid : ℕ) (o : Outcome) → RemoveDone setting forest session now fid o
      → Kept setting forest o
  kept-remove fid o done =
      let left = without fid session in
      subst (Kept setting forest) (sym done.is)
      (outcome-kept left (removal setting forest left now done.v) (session-without fid)
      (done-map (RemovalDone setting forest left now done.v) (Kept setting forest)
      (removal setting forest left now done.v) (removal-kept fid done.v done.found)
      (removal-done setting forest left now done.v)))
