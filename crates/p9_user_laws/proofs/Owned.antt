-- The answer to a message leaves a session whose fids belong to allowed users.
use Rattle.std.proofs.Common.{◌≡◌, ℕ, Bool, true, false, List, [], ◌∷◌, Option, Some, None, Ok}
use Rattle.std.proofs.Common.{◌++◌, Err, refl, subst, sym, inl, inr}
use Rattle.std.specs.Prelude.{IsTrue, ◌==◌}
use Rattle.std.specs.BTreeMap.{is_at}
use Rattle.std.specs.Ordering.{nat_cmp}
use Rattle.std.specs.Str.{bytes_eq}
use Rattle.std.proofs.lemmas.Slice.Eq.{bytes_eq-Decides}
use Rattle.p9_base.proofs.Rows.{each-insert, each-lookup, each-remove, each-set}
use Rattle.p9_base.specs.NodeRef.{beside}
use Rattle.p9_base.specs.declared.node_ref.NodeRef.{NodeRef}
use Rattle.p9_space.specs.Trail.{here}
use Rattle.p9_tree.specs.Forest.{next_of}
use Rattle.p9_tree.specs.Server.{Server}
use Rattle.p9_wire.specs.Message.{TMessage, Rcreate, Tattach, Tauth, Tclunk, Tcreate, Tflush, Topen}
use Rattle.p9_wire.specs.Message.{Tread, Tremove, Tstat, Tversion, Twalk, Twrite, Twstat}
use Rattle.p9_wire.specs.Reading.{t_message_of}
use Rattle.p9_fids.specs.Fid.{Fid, changed_fid, fid_at, opened_as, trailed, with_fid}
use Rattle.p9_step.specs.Answer.{Answer, Outcome, outcome_of}
use Rattle.p9_step.specs.Attach.{listed_user}
use Rattle.p9_step.specs.Clunk.{without}
use Rattle.p9_step.specs.Create.{created, entered}
use Rattle.p9_step.specs.ForestChange.{AddNode, EditNode, Mark}
use Rattle.p9_step.specs.Opening.{newly_opened}
use Rattle.p9_step.specs.Qid.{qid_of}
use Rattle.p9_step.specs.Remove.{removal}
use Rattle.p9_step.specs.Request.{request_of}
use Rattle.p9_step.specs.State.{Session, SessionRow, Setting, iounit_of}
use Rattle.p9_step.specs.Step.{frame_answer, message_answer}
use Rattle.p9_step.specs.Walk.{moved, walked}
use Rattle.p9_step.proofs.Done.{OnDone, done-err, done-is, done-map, done-ok, done-then}
use Rattle.p9_step.proofs.Passed.{AttachDone, ClunkDone, CreateDone, OpenDone, ReadDone, RemovalDone}
use Rattle.p9_step.proofs.Passed.{RemoveDone, StatDone, VersionDone, WalkDone, WriteDone, WstatDone}
use Rattle.p9_step.proofs.Passed.{attach-done, clunk-done, create-done, open-done, read-done}
use Rattle.p9_step.proofs.Passed.{removal-done, remove-done, stat-done, version-done, walk-done}
use Rattle.p9_step.proofs.Passed.{write-done, wstat-done}
use Rattle.p9_step.proofs.Refused.{request_of-of}
use Rattle.p9_step.proofs.Requests.{request-is}
use Rattle.p9_step.proofs.Settled.{found-listed}
use Rattle.p9_user_laws.specs.Users.{BelongTo, IsHarmless, is_among}

-- the listed user that is found has the name that is looked for
found-is : (uname : List ℕ) (users : List (List ℕ)) (user : List ℕ)
    → listed_user uname users ≡ Some user → user ≡ uname
found-is uname [] user found = let none : None ≡ Some user = found in absurd (cc)
found-is uname (u ∷ us) user found = go (bytes_eq u uname) refl (found-is uname us user)
  where
    go : (b : Bool) → bytes_eq u uname ≡ b → (listed_user uname us ≡ Some user → user ≡ uname)
        → user ≡ uname
    go true e later =
        let here : Some u ≡ Some user = rw e at found in
        let same : u ≡ user = cc in
        let named : u ≡ uname = (bytes_eq-Decides u uname).0 e in
        cc
    go false e later = later (rw e at found)

-- a message attaches as no listed user but an allowed one
abbrev pub MayAttach : (allowed listed : List (List ℕ)) → TMessage → Type 0
MayAttach allowed listed (Tattach fid afid uname aname) =
    IsTrue (is_among uname listed) → IsTrue (is_among uname allowed)
MayAttach allowed listed other = Unit {0}

-- the message of a harmless frame
harmless-message : (allowed listed : List (List ℕ)) (frame : List ℕ) (tag : ℕ) (m : TMessage)
    → t_message_of frame ≡ Some (tag, m) → IsHarmless allowed listed frame
    → MayAttach allowed listed m
harmless-message allowed listed frame tag (Tattach fid afid uname aname) read harmless =
    harmless tag fid afid uname aname read
harmless-message allowed listed frame tag (Tversion msize version) read harmless = tt
harmless-message allowed listed frame tag (Tauth afid uname aname) read harmless = tt
harmless-message allowed listed frame tag (Tflush oldtag) read harmless = tt
harmless-message allowed listed frame tag (Twalk fid newfid names) read harmless = tt
harmless-message allowed listed frame tag (Topen fid mode) read harmless = tt
harmless-message allowed listed frame tag (Tcreate fid name perm mode) read harmless = tt
harmless-message allowed listed frame tag (Tread fid offset count) read harmless = tt
harmless-message allowed listed frame tag (Twrite fid offset bytes) read harmless = tt
harmless-message allowed listed frame tag (Tclunk fid) read harmless = tt
harmless-message allowed listed frame tag (Tremove fid) read harmless = tt
harmless-message allowed listed frame tag (Tstat fid) read harmless = tt
harmless-message allowed listed frame tag (Twstat fid stat) read harmless = tt

module _ (allowed : List (List ℕ)) where
  -- a fid belongs to an allowed user
  abbrev IsOwned : Fid → Type 0
  IsOwned v = IsTrue (is_among v.user allowed)

  -- so does each fid of the session that an outcome leaves
  abbrev pub LeavesOwned : Outcome → Type 0
  LeavesOwned o = BelongTo allowed o.session

  module _ (setting : Setting) (forest : List Server) (session : Session)
      (own : BelongTo allowed session) where
    own-found : (fid : ℕ) (v : Fid) → fid_at fid session.fids ≡ Some v → IsOwned v
    own-found fid v found = each-lookup IsOwned (is_at (nat_cmp fid)) session.fids v own found

    own-with : (fid : ℕ) (v : Fid) → IsOwned v
        → BelongTo allowed (record session { fids = with_fid fid v session.fids })
    own-with fid v new = each-insert IsOwned nat_cmp session.fids fid v new own

    own-without : (fid : ℕ) → BelongTo allowed (without fid session)
    own-without fid = each-remove IsOwned (is_at (nat_cmp fid)) session.fids own

    own-changed : (fid : ℕ) (f : Fid → Fid) → ((v : Fid) → IsOwned v → IsOwned (f v))
        → BelongTo allowed (record session { fids = changed_fid fid f session.fids })
    own-changed fid f keeps = go (fid_at fid session.fids) refl
      where
        go : (o : Option Fid) → fid_at fid session.fids ≡ o
            → BelongTo allowed (record session { fids = changed_fid fid f session.fids })
        go None e = rw e own
        go (Some v) e =
            rw e (each-set IsOwned (is_at (nat_cmp fid)) session.fids (f v)
            (keeps v (own-found fid v e)) own)

    own-version : (now msize : ℕ) (o : Outcome) → VersionDone setting forest session now msize o
        → LeavesOwned o
    own-version now msize o done = elim done.is [
      | inl is ↦ subst LeavesOwned (sym is) tt
      | inr is ↦ subst LeavesOwned (sym is) own
    ]

    own-attach : (fid : ℕ) (uname aname : List ℕ) (o : Outcome)
        → (IsTrue (is_among uname setting.users) → IsTrue (is_among uname allowed))
        → AttachDone setting forest session fid uname aname o → LeavesOwned o
    own-attach fid uname aname o may done =
        let same : done.user ≡ uname = found-is uname setting.users done.user done.listed in
        let listed : IsTrue (is_among uname setting.users) =
        subst (λ (u : List ℕ). IsTrue (is_among u setting.users)) same
        (found-listed uname setting.users done.user done.listed) in
        let its : IsTrue (is_among done.user allowed) =
        subst (λ (u : List ℕ). IsTrue (is_among u allowed)) (sym same) (may listed) in
        subst LeavesOwned (sym done.is)
        (own-with fid (record {
          user = done.user;
          trail = here done.trail ∷ [];
          opened = None;
        }) its)

    own-moved : (fid newfid : ℕ) (v : Fid) (trail : List NodeRef)
        → fid_at fid session.fids ≡ Some v
        → BelongTo allowed (moved fid newfid v trail session)
    own-moved fid newfid v trail found = go (newfid == fid) refl
      where
        go : (b : Bool) → (newfid == fid) ≡ b
            → BelongTo allowed (moved fid newfid v trail session)
        go true e = rw e (own-changed fid (trailed trail) (λ w its. its))
        go false e =
            rw e (own-with newfid (record { user = v.user; trail = trail; opened = None })
            (own-found fid v found))

    own-walk : (fid newfid : ℕ) (names : List (List ℕ)) (o : Outcome)
        → WalkDone setting forest session fid newfid names o → LeavesOwned o
    own-walk fid newfid names o done = elim done.is [
      | inl is ↦ subst LeavesOwned (sym is)
          (own-moved fid newfid done.v
          (walked setting forest done.v.user done.v.trail names).trail done.found)
      | inr is ↦ subst LeavesOwned (sym is) own
    ]

    own-open : (now fid : ℕ) (o : Outcome) → OpenDone setting forest session now fid o
        → LeavesOwned o
    own-open now fid o done =
        subst LeavesOwned (sym done.is)
        (own-changed fid (opened_as (newly_opened done.opening)) (λ w its. its))

    own-create : (now fid : ℕ) (name : List ℕ) (perm : ℕ) (o : Outcome)
        → CreateDone setting forest session now fid name perm o → LeavesOwned o
    own-create now fid name perm o done = subst LeavesOwned same (own-changed fid _ (λ w its. its))
      where
        target : NodeRef
        target = done.member.node

        place : NodeRef
        place = beside target (next_of target.server forest)

        outcome : Outcome
        outcome = record {
          changes =
              AddNode target.server (created done.v.user now place.number done.dir name done.asked)
              ∷ EditNode target (Mark done.v.user now) ∷ [];
          session = entered fid (done.v.trail ++ place ∷ []) done.opening session;
          reply =
              Rcreate (qid_of place (created done.v.user now place.number done.dir name done.asked))
              (iounit_of session);
        }

        same : outcome ≡ o
        same = let e : Ok outcome ≡ Ok o = sym done.is in cc

    own-read : (now fid offset count : ℕ) (o : Outcome)
        → ReadDone setting forest session now fid offset count o → LeavesOwned o
    own-read now fid offset count o done = elim done.is [
      | inl file ↦ subst LeavesOwned (sym file.1) own
      | inr dir ↦ subst LeavesOwned (sym dir.1) (own-changed fid _ (λ w its. its))
    ]

    own-write : (now fid offset : ℕ) (bytes : List ℕ) (o : Outcome)
        → WriteDone setting forest session now fid offset bytes o → LeavesOwned o
    own-write now fid offset bytes o done = elim done.is [
      | inl none ↦ subst LeavesOwned (sym none.1) own
      | inr some ↦ subst LeavesOwned (sym some.1) own
    ]

    own-clunk : (now fid : ℕ) (o : Outcome) → ClunkDone setting forest session now fid o
        → LeavesOwned o
    own-clunk now fid o done = subst LeavesOwned (sym done.is) (own-without fid)

    own-removal : (now fid : ℕ) (v : Fid) (answer : Answer)
        → OnDone (RemovalDone setting forest (without fid session) now v) answer
        → LeavesOwned (outcome_of (without fid session) answer)
    own-removal now fid v (Ok o) removed =
        let done =
        done-is (RemovalDone setting forest (without fid session) now v) (Ok o) o removed refl in
        subst LeavesOwned (sym done.is) (own-without fid)
    own-removal now fid v (Err fault) removed = own-without fid

    own-remove : (now fid : ℕ) (o : Outcome) → RemoveDone setting forest session now fid o
        → LeavesOwned o
    own-remove now fid o done =
        subst LeavesOwned (sym done.is)
        (own-removal now fid done.v (removal setting forest (without fid session) now done.v)
        (removal-done setting forest (without fid session) now done.v))

    own-stat : (fid : ℕ) (o : Outcome) → StatDone setting forest session fid o → LeavesOwned o
    own-stat fid o done = subst LeavesOwned (sym done.is) own

    own-answer : (sessions : List SessionRow) (now : ℕ) (m : TMessage)
        → MayAttach allowed setting.users m
        → OnDone LeavesOwned (message_answer setting forest sessions session now m)
    own-answer sessions now (Tversion msize version) may =
        done-map (VersionDone setting forest session now msize) LeavesOwned _
        (own-version now msize)
        (version-done setting forest session now msize version)
    own-answer sessions now (Tauth afid uname aname) may = done-err LeavesOwned _ refl
    own-answer sessions now (Tattach fid afid uname aname) may =
        done-map (AttachDone setting forest session fid uname aname) LeavesOwned _
        (λ o. own-attach fid uname aname o may)
        (attach-done setting forest session fid afid uname aname)
    own-answer sessions now (Tflush oldtag) may = done-ok LeavesOwned _ own
    own-answer sessions now (Twalk fid newfid names) may =
        done-map (WalkDone setting forest session fid newfid names) LeavesOwned _
        (own-walk fid newfid names)
        (walk-done setting forest session fid newfid names)
    own-answer sessions now (Topen fid mode) may =
        done-map (OpenDone setting forest session now fid) LeavesOwned _
        (own-open now fid)
        (open-done setting forest session sessions now fid mode)
    own-answer sessions now (Tcreate fid name perm mode) may =
        done-map (CreateDone setting forest session now fid name perm) LeavesOwned _
        (own-create now fid name perm)
        (create-done setting forest session now fid name perm mode)
    own-answer sessions now (Tread fid offset count) may =
        done-map (ReadDone setting forest session now fid offset count) LeavesOwned _
        (own-read now fid offset count)
        (read-done setting forest session now fid offset count)
    own-answer sessions now (Twrite fid offset bytes) may =
        done-map (WriteDone setting forest session now fid offset bytes) LeavesOwned _
        (own-write now fid offset bytes)
        (write-done setting forest session now fid offset bytes)
    own-answer sessions now (Tclunk fid) may =
        done-map (ClunkDone setting forest session now fid) LeavesOwned _
        (own-clunk now fid)
        (clunk-done setting forest session now fid)
    own-answer sessions now (Tremove fid) may =
        done-map (RemoveDone setting forest session now fid) LeavesOwned _
        (own-remove now fid)
        (remove-done setting forest session now fid)
    own-answer sessions now (Tstat fid) may =
        done-map (StatDone setting forest session fid) LeavesOwned _
        (own-stat fid)
        (stat-done setting forest session fid)
    own-answer sessions now (Twstat fid stat) may =
        done-map (WstatDone setting forest session now fid stat) LeavesOwned _
        (λ o done. subst LeavesOwned (sym done.is) own)
        (wstat-done setting forest session now fid stat)

    -- the answer to a harmless frame
    pub own-frame : (sessions : List SessionRow) (now : ℕ) (frame : List ℕ)
        → IsHarmless allowed setting.users frame
        → OnDone LeavesOwned (frame_answer setting forest sessions session now frame)
    own-frame sessions now frame harmless =
        done-then LeavesOwned (request_of session frame)
        (message_answer setting forest sessions session now) (request_of-of session frame)
        (λ m is. let r = request-is session frame m is in
        let may = harmless-message allowed setting.users frame r.tag m r.read harmless in
        own-answer sessions now m may)
