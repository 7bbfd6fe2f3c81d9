-- The reply to a message has a spelling.
use Rattle.std.proofs.Common.{◌≡◌, ℕ, ◌+◌, ◌-◌, ◌≤◌, false, true, [], Option, Some, None, Ok, Err}
use Rattle.std.proofs.Common.{refl, arith, length}
use Rattle.std.specs.Prelude.{unwrap_or}
use Rattle.std.specs.Option.{option_map_or}
use Rattle.p9_base.specs.declared.fault.Fault.{Fault}
use Rattle.p9_base.specs.declared.fault.Fault.TheVariants.{Malformed, NoAuthentication, UnknownFid}
use Rattle.p9_base.specs.Fault.{fault_text_max, text_of}
use Rattle.p9_base.specs.Results.{obtain}
use Rattle.p9_base.proofs.Faults.{fault_text_is_text}
use Rattle.p9_wire.specs.Frame.{msize_max}
use Rattle.p9_wire.specs.Message.{RMessage, Rflush, TMessage, Tattach, Tauth, Tclunk, Tcreate}
use Rattle.p9_wire.specs.Message.{Tflush, Topen, Tread, Tremove, Tstat, Tversion, Twalk, Twrite}
use Rattle.p9_wire.specs.Message.{Twstat}
use Rattle.p9_wire.specs.Spelling.{RFits, RNumbersFit, TFits}
use Rattle.p9_fids.specs.Fid.{Fid, fid_at}
use Rattle.p9_step.specs.Answer.{Answer, outcome_of}
use Rattle.p9_step.specs.Clunk.{without}
use Rattle.p9_step.specs.Laws.{refusal_max, reply_max}
use Rattle.p9_step.specs.Remove.{removal, remove_answer}
use Rattle.p9_step.specs.Request.{is_version}
use Rattle.p9_step.specs.Sound.{IsMsize, IsState}
use Rattle.p9_step.specs.State.{Session, State, io_header}
use Rattle.p9_step.specs.Step.{message_answer}
use Rattle.p9_step.specs.Version.{msize_min}
use Rattle.p9_step.proofs.Done.{OnDone, done-err, done-map, done-ok}
use Rattle.p9_step.proofs.Fitting.{Replies, replies-attach, replies-clunk, replies-create}
use Rattle.p9_step.proofs.Fitting.{replies-open, replies-read, replies-removal, replies-stat}
use Rattle.p9_step.proofs.Fitting.{replies-version, replies-walk, replies-write, replies-wstat}
use Rattle.p9_step.proofs.Passed.{AttachDone, ClunkDone, CreateDone, OpenDone, ReadDone}
use Rattle.p9_step.proofs.Passed.{RemovalDone, StatDone, VersionDone, WalkDone, WriteDone}
use Rattle.p9_step.proofs.Passed.{WstatDone, attach-done, clunk-done, create-done, open-done}
use Rattle.p9_step.proofs.Passed.{read-done, removal-done, stat-done, version-done, walk-done}
use Rattle.p9_step.proofs.Passed.{write-done, wstat-done}

-- the numbers and the texts of a reply fit
unfoldable pub HasSpelling : RMessage → Type 0
HasSpelling reply = RNumbersFit reply × RFits reply

-- the text of each fault is short
short_text : (fault : Fault) → length (text_of fault) ≤ fault_text_max
short_text Malformed = omega arith
short_text other = omega arith

-- so a refusal has a spelling, as an outcome has
spelled_by : (most : ℕ) (session : Session) (a : Answer) → OnDone (Replies most) a
    → HasSpelling (outcome_of session a).reply
unfolding HasSpelling OnDone
spelled_by most session (Ok outcome) done = (done.numbers, done.fits)
spelled_by most session (Err fault) done =
    let few = short_text fault in (
      tt,
      record { short = omega (arith, few); valid = fault_text_is_text fault },
    )

-- the sizes of a session whose version is set: of its replies, of its data, and of frames
wide_msize : (msize : Option ℕ) → (msize ≡ None → false ≡ true) → IsMsize msize
    → (msize_min ≤ unwrap_or msize refusal_max)
    × (io_header + option_map_or (λ m. m - io_header) msize 0 ≤ unwrap_or msize refusal_max)
    × (unwrap_or msize refusal_max ≤ msize_max)
wide_msize None set is = let no = set refl in absurd (cc)
wide_msize (Some m) set is =
    let low = is.0 in let high = is.1 in (omega arith, omega arith, omega arith)

least_msize : (msize : Option ℕ) → IsMsize msize → refusal_max ≤ unwrap_or msize refusal_max
least_msize None is = omega arith
least_msize (Some m) is = let low = is.0 in omega arith

-- each message, in the manual's order
module _ (state : State) (session : Session) (now : ℕ) (ok : IsState state)
    (msize : IsMsize session.msize) where
  -- what is answered to a remove is answered by the session without its fid
  removed : (fid : ℕ) → msize_min ≤ reply_max session
      → HasSpelling (outcome_of session
      (remove_answer state.setting state.forest session now fid)).reply
  unfolding obtain HasSpelling
  removed fid wide = go (fid_at fid session.fids) refl
    where
      go : (o : Option Fid) → fid_at fid session.fids ≡ o
          → HasSpelling (outcome_of session
          (remove_answer state.setting state.forest session now fid)).reply
      go None e =
          rw e (spelled_by (reply_max session) session (Err UnknownFid)
          (done-err (Replies (reply_max session)) UnknownFid refl))
      go (Some v) e =
          rw e (spelled_by (reply_max session) (without fid session)
          (removal state.setting state.forest (without fid session) now v)
          (done-map (RemovalDone state.setting state.forest (without fid session) now v)
          (Replies (reply_max session))
          (removal state.setting state.forest (without fid session) now v)
          (replies-removal (reply_max session) state.setting state.forest (without fid session)
          ok.forest wide now v)
          (removal-done state.setting state.forest (without fid session) now v)))

  pub reply_spelled : (m : TMessage) → (session.msize ≡ None → is_version m ≡ true) → TFits m
      → HasSpelling (outcome_of session
      (message_answer state.setting state.forest state.sessions session now m)).reply
  reply_spelled (Tversion size version) set fits =
      spelled_by (reply_max session) session _
      (done-map (VersionDone state.setting state.forest session now size)
      (Replies (reply_max session)) _
      (replies-version (reply_max session) state.setting state.forest session ok.forest
      (least_msize session.msize msize) now size)
      (version-done state.setting state.forest session now size version))
  reply_spelled (Tauth afid uname aname) set fits =
      spelled_by (reply_max session) session (Err NoAuthentication)
      (done-err (Replies (reply_max session)) NoAuthentication refl)
  reply_spelled (Tattach fid afid uname aname) set fits =
      let w = wide_msize session.msize set msize in
      spelled_by (reply_max session) session _
      (done-map (AttachDone state.setting state.forest session fid uname aname)
      (Replies (reply_max session)) _
      (replies-attach (reply_max session) state.setting state.forest session ok.forest w.0 fid
      uname aname)
      (attach-done state.setting state.forest session fid afid uname aname))
  reply_spelled (Tflush oldtag) set fits =
      let least = least_msize session.msize msize in
      spelled_by (reply_max session) session _
      (done-ok (Replies (reply_max session))
      (record { changes = []; session = session; reply = Rflush }) (record {
        numbers = tt;
        fits = tt;
        short = omega (arith, least);
        plain = refl;
      }))
  reply_spelled (Twalk fid newfid names) set fits =
      let w = wide_msize session.msize set msize in
      spelled_by (reply_max session) session _
      (done-map (WalkDone state.setting state.forest session fid newfid names)
      (Replies (reply_max session)) _
      (λ o. replies-walk (reply_max session) state.setting state.forest session ok.forest w.0 fid
      newfid names o fits.few)
      (walk-done state.setting state.forest session fid newfid names))
  reply_spelled (Topen fid mode) set fits =
      let w = wide_msize session.msize set msize in
      spelled_by (reply_max session) session _
      (done-map (OpenDone state.setting state.forest session now fid)
      (Replies (reply_max session)) _
      (replies-open (reply_max session) state.setting state.forest session ok.forest w.0 w.1 w.2
      now fid)
      (open-done state.setting state.forest session state.sessions now fid mode))
  reply_spelled (Tcreate fid name perm mode) set fits =
      let w = wide_msize session.msize set msize in
      spelled_by (reply_max session) session _
      (done-map (CreateDone state.setting state.forest session now fid name perm)
      (Replies (reply_max session)) _
      (replies-create (reply_max session) state.setting state.forest session ok.forest w.0 w.1 w.2
      now fid name perm)
      (create-done state.setting state.forest session now fid name perm mode))
  reply_spelled (Tread fid offset count) set fits =
      let w = wide_msize session.msize set msize in
      spelled_by (reply_max session) session _
      (done-map (ReadDone state.setting state.forest session now fid offset count)
      (Replies (reply_max session)) _
      (replies-read (reply_max session) state.setting state.forest session ok.forest w.0 w.1 w.2
      now fid offset count)
      (read-done state.setting state.forest session now fid offset count))
  reply_spelled (Twrite fid offset bytes) set fits =
      let w = wide_msize session.msize set msize in
      spelled_by (reply_max session) session _
      (done-map (WriteDone state.setting state.forest session now fid offset bytes)
      (Replies (reply_max session)) _
      (replies-write (reply_max session) state.setting state.forest session ok.forest w.0 now fid
      offset bytes)
      (write-done state.setting state.forest session now fid offset bytes))
  reply_spelled (Tclunk fid) set fits =
      let w = wide_msize session.msize set msize in
      spelled_by (reply_max session) session _
      (done-map (ClunkDone state.setting state.forest session now fid)
      (Replies (reply_max session)) _
      (replies-clunk (reply_max session) state.setting state.forest session ok.forest w.0 now fid)
      (clunk-done state.setting state.forest session now fid))
  reply_spelled (Tremove fid) set fits =
      let w = wide_msize session.msize set msize in removed fid w.0
  reply_spelled (Tstat fid) set fits =
      let w = wide_msize session.msize set msize in
      spelled_by (reply_max session) session _
      (done-map (StatDone state.setting state.forest session fid) (Replies (reply_max session)) _
      (replies-stat (reply_max session) state.setting state.forest session ok.forest w.0 fid)
      (stat-done state.setting state.forest session fid))
  reply_spelled (Twstat fid stat) set fits =
      let w = wide_msize session.msize set msize in
      spelled_by (reply_max session) session _
      (done-map (WstatDone state.setting state.forest session now fid stat)
      (Replies (reply_max session)) _
      (replies-wstat (reply_max session) state.setting state.forest session ok.forest w.0 now fid
      stat)
      (wstat-done state.setting state.forest session now fid stat))
