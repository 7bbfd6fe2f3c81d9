-- Every frame of a session that is open gets one reply.
use Rattle.std.proofs.Common.{Bool, Err, List, None, Ok, Option, Result, Some, [], ap, arith, drop}
use Rattle.std.proofs.Common.{false, inl, inr, is_some, length, refl, subst, sym, true, ℕ, ◌+◌, ◌-◌}
use Rattle.std.proofs.Common.{◌<◌, ◌^◌, ◌||◌, ◌∙◌, ◌∷◌, ◌≡◌, ◌≤◌, ◌⊎◌}
use Rattle.std.proofs.lemmas.Bool.{cases_lt}
use Rattle.std.proofs.lemmas.List.{get_or-drop, get_or_past}
use Rattle.std.proofs.lemmas.Slice.Eq.{bytes_eq-Decides}
use Rattle.std.specs.BTreeMap.{is_at}
use Rattle.std.specs.Map.{lookup, remove_entry}
use Rattle.std.specs.Option.{option_map_or}
use Rattle.std.specs.Ordering.{nat_cmp}
use Rattle.std.specs.Prelude.{slice_index, unwrap_or, ◌&&◌}
use Rattle.std.specs.Str.{bytes_eq}
use Rattle.byteorder.specs.Numbers.{little_from-lt}
use Rattle.p9_base.specs.Fault.{fault_text_max, text_of}
use Rattle.p9_base.specs.Results.{and_then, obtain}
use Rattle.p9_base.specs.declared.fault.Fault.{Fault}
use Rattle.p9_base.specs.declared.fault.Fault.TheVariants.{BadDirectoryOffset, BadFileName}
use Rattle.p9_base.specs.declared.fault.Fault.TheVariants.{BadOpenMode, CreationForbidden}
use Rattle.p9_base.specs.declared.fault.Fault.TheVariants.{ExclusiveUse, FidInUse, FidNotOpen}
use Rattle.p9_base.specs.declared.fault.Fault.TheVariants.{FidOpen, FileExists, FileTooLarge}
use Rattle.p9_base.specs.declared.fault.Fault.TheVariants.{FixedField, IsDirectory, IsRoot}
use Rattle.p9_base.specs.declared.fault.Fault.TheVariants.{Malformed, NoAuthentication}
use Rattle.p9_base.specs.declared.fault.Fault.TheVariants.{NotDirectory, NotEmpty, NotFound}
use Rattle.p9_base.specs.declared.fault.Fault.TheVariants.{OutOfMemory, PathTooDeep}
use Rattle.p9_base.specs.declared.fault.Fault.TheVariants.{PermissionDenied, PhaseError, QidsUsedUp}
use Rattle.p9_base.specs.declared.fault.Fault.TheVariants.{SmallMsize, SmallReadCount, TooManyFids}
use Rattle.p9_base.specs.declared.fault.Fault.TheVariants.{UnknownAttachName, UnknownFid}
use Rattle.p9_base.specs.declared.fault.Fault.TheVariants.{UnknownUser, VersionNotSet}
use Rattle.p9_base.proofs.Faults.{fault_text_is_text}
use Rattle.p9_base.proofs.Rows.{set_value-same}
use Rattle.p9_tree.specs.Forest.{IsForest}
use Rattle.p9_wire.specs.Fields.{FitsText}
use Rattle.p9_wire.specs.Frame.{msize_max}
use Rattle.p9_wire.specs.Frame.{IsBytes}
use Rattle.p9_wire.specs.Message.{RMessage, Rerror, TMessage, Tattach, Tauth, Tclunk, Tcreate}
use Rattle.p9_wire.specs.Message.{Tflush, Topen, Tread, Tremove, Tstat, Tversion, Twalk, Twrite}
use Rattle.p9_wire.specs.Message.{Twstat}
use Rattle.p9_wire.specs.Spelling.{TSpells, r_len}
use Rattle.p9_wire.specs.Reply.{r_body, r_spelling, r_type}
use Rattle.p9_wire.proofs.Lengths.{length-frame, length-r_body}
use Rattle.p9_wire.proofs.TGrammar.{t-decides}
use Rattle.p9_fids.specs.Fid.{Fid, fid_at, without_fid}
use Rattle.p9_step.specs.Answer.{Answer, Outcome, is_error, outcome_of}
use Rattle.p9_step.specs.Clunk.{without}
use Rattle.p9_step.specs.Laws.{EveryFrameIsAnswered, IsAnswered, after_refusal, reply_max}
use Rattle.p9_step.specs.Laws.{refusal_max, without_fid_of}
use Rattle.p9_step.specs.Memory.{no_memory_reply, frame_may_fail}
use Rattle.p9_step.specs.Remove.{removal, remove_answer}
use Rattle.p9_step.specs.Request.{is_version, request_of, tag_of}
use Rattle.p9_step.specs.Sound.{IsMsize, IsState}
use Rattle.p9_step.specs.State.{Session, State, changed_session, io_header, iounit_of, session_at}
use Rattle.p9_step.specs.Version.{msize_min}
use Rattle.p9_step.specs.Step.{Stepped, answered, message_answer, with_outcome}
use Rattle.p9_step.proofs.Done.{IsOfTest, OnDone, done-err, done-is, done-map, done-ok, refused-is}
use Rattle.p9_step.proofs.Fitting.{Replies, replies-attach, replies-clunk, replies-create}
use Rattle.p9_step.proofs.Fitting.{replies-open, replies-read, replies-removal, replies-stat}
use Rattle.p9_step.proofs.Fitting.{replies-version, replies-walk, replies-write, replies-wstat}
use Rattle.p9_step.proofs.Passed.{AttachDone, ClunkDone, CreateDone, OpenDone, ReadDone}
use Rattle.p9_step.proofs.Passed.{RemovalDone, StatDone, VersionDone, WalkDone, WriteDone}
use Rattle.p9_step.proofs.Passed.{WstatDone, attach-done, clunk-done, create-done, open-done}
use Rattle.p9_step.proofs.Passed.{read-done, removal-done, stat-done, version-done, walk-done}
use Rattle.p9_step.proofs.Passed.{write-done, wstat-done}
use Rattle.p9_step.proofs.Refused.{request_of-of}
use Rattle.p9_step.proofs.Requests.{frame_may_fail-is, request-is}
use Rattle.p9_step.proofs.Sounds.{session-served}

-- The texts of the faults are short.

short_fault : (fault : Fault) → length (text_of fault) ≤ fault_text_max
short_fault Malformed = omega arith
short_fault VersionNotSet = omega arith
short_fault SmallMsize = omega arith
short_fault NoAuthentication = omega arith
short_fault UnknownUser = omega arith
short_fault UnknownAttachName = omega arith
short_fault UnknownFid = omega arith
short_fault FidInUse = omega arith
short_fault FidOpen = omega arith
short_fault FidNotOpen = omega arith
short_fault NotDirectory = omega arith
short_fault NotFound = omega arith
short_fault PermissionDenied = omega arith
short_fault PhaseError = omega arith
short_fault BadOpenMode = omega arith
short_fault IsDirectory = omega arith
short_fault ExclusiveUse = omega arith
short_fault BadFileName = omega arith
short_fault FileExists = omega arith
short_fault CreationForbidden = omega arith
short_fault BadDirectoryOffset = omega arith
short_fault SmallReadCount = omega arith
short_fault FileTooLarge = omega arith
short_fault NotEmpty = omega arith
short_fault IsRoot = omega arith
short_fault FixedField = omega arith
short_fault TooManyFids = omega arith
short_fault QidsUsedUp = omega arith
short_fault OutOfMemory = omega arith
short_fault PathTooDeep = omega arith

fault_fits : (fault : Fault) → FitsText (text_of fault)
fault_fits fault = record {
  short = omega (arith, short_fault fault);
  valid = fault_text_is_text fault;
}

-- What is not there is not taken out.
remove_entry-absent : {X : Type 0} (test : ℕ → Bool) (rows : List (ℕ × X)) → lookup test rows ≡ None
    → remove_entry test rows ≡ rows
remove_entry-absent test [] none = refl
remove_entry-absent test (row ∷ rows) none = go (test row.0) refl (remove_entry-absent test rows)
  where
    go : (b : Bool) → test row.0 ≡ b → (lookup test rows ≡ None → remove_entry test rows ≡ rows)
        → remove_entry test (row ∷ rows) ≡ row ∷ rows
    go true e later = let no : Some row.1 ≡ None = rw e at none in absurd (cc)
    go false e later =
        let further : lookup test rows ≡ None = rw e at none in
        rw e (ap (λ r. row ∷ r) (later further))

-- a tag of bytes has 16 bits
tag-small : (frame : List ℕ) → IsBytes frame → tag_of frame < 2 ^ 16
tag-small frame bytes =
    little_from-lt 0 2 (drop 5 frame) (λ k. go k (cases_lt (5 + k) (length frame)))
  where
    there : (k : ℕ) → slice_index (drop 5 frame) k ≡ slice_index frame (5 + k)
    there k = get_or-drop 5 frame k 0

    go : (k : ℕ) → (5 + k < length frame) ⊎ (length frame ≤ 5 + k)
        → slice_index (drop 5 frame) k < 256
    go k (inl within) = rw (there k) (bytes (5 + k) 0 within)
    go k (inr past) = rw (there k, get_or_past frame (5 + k) 0 past) (omega arith)

pub length-spelling : (tag : ℕ) (m : RMessage) → length (r_spelling tag m) ≡ 7 + r_len m
unfolding r_spelling
length-spelling tag m =
    length-frame (r_type m) tag (r_body m) ∙ ap (λ (n : ℕ). 7 + n) (length-r_body m)

-- The sizes of a session whose msize is set.

-- what a session has whose version is set: room for every reply of the machine
pub record IsWide (session : Session) : Type 0 where
  pub wide : msize_min ≤ reply_max session
  pub room : io_header + iounit_of session ≤ reply_max session
  pub frames : reply_max session ≤ msize_max

wide_msize : (msize : Option ℕ) → is_some msize ≡ true → IsMsize msize
    → (msize_min ≤ unwrap_or msize refusal_max)
    × (io_header + option_map_or (λ m. m - io_header) msize 0 ≤ unwrap_or msize refusal_max)
    × (unwrap_or msize refusal_max ≤ msize_max)
wide_msize None set is = absurd (cc)
wide_msize (Some m) set is =
    let low = is.0 in let high = is.1 in (omega arith, omega arith, omega arith)

wide_session : (session : Session) → is_some session.msize ≡ true → IsMsize session.msize
    → IsWide session
wide_session session set is =
    let w = wide_msize session.msize set is in record { wide = w.0; room = w.1; frames = w.2 }

least_msize : (msize : Option ℕ) → IsMsize msize → refusal_max ≤ unwrap_or msize refusal_max
least_msize None is = omega arith
least_msize (Some m) is = let low = is.0 in omega arith

module _ (session : Session) (frame : List ℕ) where
  -- another request than a version has an msize
  wide_for : (m : TMessage) → IsMsize session.msize → request_of session frame ≡ Ok m
      → is_version m ≡ false → IsWide session
  wide_for m short is other =
      let allowed : (is_version m || is_some session.msize) ≡ true =
      (request-is session frame m is).allowed in
      let set : is_some session.msize ≡ true = rw other at allowed in
      wide_session session set short

module _ (state : State) (name : ℕ) (session : Session) (frame : List ℕ)
    (there : session_at name state.sessions ≡ Some session) (least : refusal_max ≤ reply_max session)
    (tagged : tag_of frame < 2 ^ 16) where
  Given : Bool → Stepped → Type 0
  Given out after = (reply : RMessage) × IsAnswered state name session frame out after reply

  -- a refusal
  refused_by : (out : Bool) (fault : Fault) (after : Stepped)
      → after.reply ≡ r_spelling (tag_of frame) (Rerror (text_of fault))
      → after.state ≡ after_refusal state name session (request_of session frame)
      → (text_of fault ≡ text_of OutOfMemory → out ≡ true) → Given out after
  unfolding Given
  refused_by out fault after written left memory =
      let few = short_fault fault in (
        Rerror (text_of fault),
        record {
          spelled = record {
            whole = written;
            numbers = tt;
            fits = fault_fits fault;
            tag_fits = tagged;
          };
          short =
              rw (written, length-spelling (tag_of frame) (Rerror (text_of fault)))
              (omega (arith, few, least));
          refusal = λ ename e. ((fault, let same : ename ≡ text_of fault = cc in same), left);
          memory = λ e. let same : text_of fault ≡ text_of OutOfMemory = cc in memory same;
        },
      )

  -- a refusal by a test
  tested_by : (out : Bool) (fault : Fault) (after : Stepped) → IsOfTest fault
      → after.reply ≡ r_spelling (tag_of frame) (Rerror (text_of fault))
      → after.state ≡ after_refusal state name session (request_of session frame)
      → Given out after
  tested_by out fault after of written left =
      refused_by out fault after written left
      (λ e. let same : bytes_eq (text_of fault) (text_of OutOfMemory) ≡ true =
      (bytes_eq-Decides (text_of fault) (text_of OutOfMemory)).1 e in absurd (cc))

  -- another reply
  done_by : (out : Bool) (outcome : Outcome) (after : Stepped)
      → Replies (reply_max session) outcome
      → after.reply ≡ r_spelling (tag_of frame) outcome.reply → Given out after
  unfolding Given
  done_by out outcome after its written = (
    outcome.reply,
    record {
      spelled = record {
        whole = written;
        numbers = its.numbers;
        fits = its.fits;
        tag_fits = tagged;
      };
      short = rw (written, length-spelling (tag_of frame) outcome.reply) its.short;
      refusal =
          λ ename e. let no : is_error (Rerror ename)
          ≡ false = subst (λ m. is_error m ≡ false) e its.plain in absurd (cc);
      memory =
          λ e. let no : is_error (Rerror (text_of OutOfMemory))
          ≡ false = subst (λ m. is_error m ≡ false) e its.plain in absurd (cc);
    },
  )

  -- the answer to a request whose refusal changes nothing
  given_by : (refused : Bool) (answer : Answer)
      → after_refusal state name session (request_of session frame) ≡ state
      → OnDone (Replies (reply_max session)) answer
      → Given (refused && frame_may_fail frame answer)
      (answered state name session frame refused answer)
  given_by refused answer left its = by_memory (refused && frame_may_fail frame answer) refl
    where
      by_answer : (a : Answer) → OnDone (Replies (reply_max session)) a
          → Given false (with_outcome state name frame (outcome_of session a))
      by_answer (Ok outcome) done =
          done_by false outcome (with_outcome state name frame outcome)
          (done-is (Replies (reply_max session)) (Ok outcome) outcome done refl) refl
      by_answer (Err fault) done =
          tested_by false fault (with_outcome state name frame (outcome_of session (Err fault)))
          (refused-is (Replies (reply_max session)) (Err fault) fault done refl) refl
          (ap (λ r. record state { sessions = r })
          (set_value-same (is_at (nat_cmp name)) state.sessions session there) ∙ sym left)

      by_memory : (b : Bool) → (refused && frame_may_fail frame answer) ≡ b
          → Given (refused && frame_may_fail frame answer)
          (answered state name session frame refused answer)
      by_memory true e =
          rw e
          (refused_by true OutOfMemory (record { state = state; reply = no_memory_reply frame })
          refl (sym left) (λ same. refl))
      by_memory false e = rw e (by_answer answer its)

  -- the answer to a remove, whose refusal has ended its fid
  removed_by : (refused : Bool) (now fid : ℕ) → IsForest state.forest → IsWide session
      → request_of session frame ≡ Ok (Tremove fid)
      → Given
      (refused && frame_may_fail frame (remove_answer state.setting state.forest session now fid))
      (answered state name session frame refused
      (remove_answer state.setting state.forest session now fid))
  unfolding obtain
  removed_by refused now fid sound wide is =
      rw (unmarked refused) (by_fid (fid_at fid session.fids) refl)
    where
      never : frame_may_fail frame (remove_answer state.setting state.forest session now fid)
          ≡ false
      never =
          frame_may_fail-is session frame (Tremove fid)
          (remove_answer state.setting state.forest session now fid) is

      unmarked : (b : Bool)
          → (b && frame_may_fail frame (remove_answer state.setting state.forest session now fid))
          ≡ false
      unmarked true = never
      unmarked false = refl

      left_is : after_refusal state name session (request_of session frame)
          ≡ without_fid_of name session fid state
      left_is = ap (after_refusal state name session) is

      kept : fid_at fid session.fids ≡ None → without_fid_of name session fid state ≡ state
      kept none =
          let fids : without_fid fid session.fids ≡ session.fids =
          remove_entry-absent (is_at (nat_cmp fid)) session.fids none in
          let same : without fid session ≡ session = ap (λ f. record session { fids = f }) fids in
          ap (λ s. record state { sessions = changed_session name s state.sessions }) same
          ∙ ap (λ r. record state { sessions = r })
          (set_value-same (is_at (nat_cmp name)) state.sessions session there)

      by_removal : (a : Answer) → OnDone (Replies (reply_max session)) a
          → Given false (with_outcome state name frame (outcome_of (without fid session) a))
      by_removal (Ok outcome) done =
          done_by false outcome (with_outcome state name frame outcome)
          (done-is (Replies (reply_max session)) (Ok outcome) outcome done refl) refl
      by_removal (Err fault) done =
          tested_by false fault
          (with_outcome state name frame (outcome_of (without fid session) (Err fault)))
          (refused-is (Replies (reply_max session)) (Err fault) fault done refl) refl
          (sym left_is)

      by_fid : (o : Option Fid) → fid_at fid session.fids ≡ o
          → Given false
          (with_outcome state name frame
          (outcome_of session (remove_answer state.setting state.forest session now fid)))
      by_fid None e =
          rw e (tested_by false UnknownFid
          (with_outcome state name frame (outcome_of session (Err UnknownFid))) refl refl
          (ap (λ r. record state { sessions = r })
          (set_value-same (is_at (nat_cmp name)) state.sessions session there)
          ∙ sym (left_is ∙ kept e)))
      by_fid (Some v) e =
          rw e (by_removal (removal state.setting state.forest (without fid session) now v)
          (done-map (RemovalDone state.setting state.forest (without fid session) now v)
          (Replies (reply_max session))
          (removal state.setting state.forest (without fid session) now v)
          (replies-removal (reply_max session) state.setting state.forest (without fid session)
          sound wide.wide now v)
          (removal-done state.setting state.forest (without fid session) now v)))

-- each request, in the manual's order
module _ (state : State) (name : ℕ) (session : Session) (frame : List ℕ) (now : ℕ) (refused : Bool)
    (ok : IsState state) (there : session_at name state.sessions ≡ Some session)
    (bytes : IsBytes frame) (short : IsMsize session.msize) where
  tagged : tag_of frame < 2 ^ 16
  tagged = tag-small frame bytes

  least : refusal_max ≤ reply_max session
  least = least_msize session.msize short

  few_names : (fid newfid : ℕ) (names : List (List ℕ))
      → request_of session frame ≡ Ok (Twalk fid newfid names) → length names ≤ 16
  few_names fid newfid names is =
      let r = request-is session frame (Twalk fid newfid names) is in
      let spelled : TSpells frame r.tag (Twalk fid newfid names) =
      t-decides.sound frame r.tag (Twalk fid newfid names) bytes r.read in
      spelled.fits.few

  by_message : (m : TMessage) → request_of session frame ≡ Ok m
      → Given state name session frame there least tagged
      (refused
      && frame_may_fail frame
      (message_answer state.setting state.forest state.sessions session now m))
      (answered state name session frame refused
      (message_answer state.setting state.forest state.sessions session now m))
  by_message (Tversion msize version) is =
      given_by state name session frame there least tagged refused _
      (ap (after_refusal state name session) is)
      (done-map (VersionDone state.setting state.forest session now msize)
      (Replies (reply_max session)) _
      (replies-version (reply_max session) state.setting state.forest session ok.forest least now
      msize)
      (version-done state.setting state.forest session now msize version))
  by_message (Tauth afid uname aname) is =
      given_by state name session frame there least tagged refused _
      (ap (after_refusal state name session) is) (done-err (Replies (reply_max session)) _ refl)
  by_message (Tattach fid afid uname aname) is =
      let w = wide_for session frame _ short is refl in
      given_by state name session frame there least tagged refused _
      (ap (after_refusal state name session) is)
      (done-map (AttachDone state.setting state.forest session fid uname aname)
      (Replies (reply_max session)) _
      (replies-attach (reply_max session) state.setting state.forest session ok.forest w.wide fid
      uname aname)
      (attach-done state.setting state.forest session fid afid uname aname))
  by_message (Tflush oldtag) is =
      given_by state name session frame there least tagged refused _
      (ap (after_refusal state name session) is)
      (done-ok (Replies (reply_max session)) _ (record {
        numbers = tt;
        fits = tt;
        short = omega (arith, least);
        plain = refl;
      }))
  by_message (Twalk fid newfid names) is =
      let w = wide_for session frame _ short is refl in
      given_by state name session frame there least tagged refused _
      (ap (after_refusal state name session) is)
      (done-map (WalkDone state.setting state.forest session fid newfid names)
      (Replies (reply_max session)) _
      (λ o. replies-walk (reply_max session) state.setting state.forest session ok.forest w.wide fid
      newfid names o (few_names fid newfid names is))
      (walk-done state.setting state.forest session fid newfid names))
  by_message (Topen fid mode) is =
      let w = wide_for session frame _ short is refl in
      given_by state name session frame there least tagged refused _
      (ap (after_refusal state name session) is)
      (done-map (OpenDone state.setting state.forest session now fid)
      (Replies (reply_max session)) _
      (replies-open (reply_max session) state.setting state.forest session ok.forest w.wide w.room
      w.frames now fid)
      (open-done state.setting state.forest session state.sessions now fid mode))
  by_message (Tcreate fid new perm mode) is =
      let w = wide_for session frame _ short is refl in
      given_by state name session frame there least tagged refused _
      (ap (after_refusal state name session) is)
      (done-map (CreateDone state.setting state.forest session now fid new perm)
      (Replies (reply_max session)) _
      (replies-create (reply_max session) state.setting state.forest session ok.forest w.wide
      w.room w.frames now fid new perm)
      (create-done state.setting state.forest session now fid new perm mode))
  by_message (Tread fid offset count) is =
      let w = wide_for session frame _ short is refl in
      given_by state name session frame there least tagged refused _
      (ap (after_refusal state name session) is)
      (done-map (ReadDone state.setting state.forest session now fid offset count)
      (Replies (reply_max session)) _
      (replies-read (reply_max session) state.setting state.forest session ok.forest w.wide w.room
      w.frames now fid offset count)
      (read-done state.setting state.forest session now fid offset count))
  by_message (Twrite fid offset written) is =
      let w = wide_for session frame _ short is refl in
      given_by state name session frame there least tagged refused _
      (ap (after_refusal state name session) is)
      (done-map (WriteDone state.setting state.forest session now fid offset written)
      (Replies (reply_max session)) _
      (replies-write (reply_max session) state.setting state.forest session ok.forest w.wide now
      fid offset written)
      (write-done state.setting state.forest session now fid offset written))
  by_message (Tclunk fid) is =
      let w = wide_for session frame _ short is refl in
      given_by state name session frame there least tagged refused _
      (ap (after_refusal state name session) is)
      (done-map (ClunkDone state.setting state.forest session now fid)
      (Replies (reply_max session)) _
      (replies-clunk (reply_max session) state.setting state.forest session ok.forest w.wide now
      fid)
      (clunk-done state.setting state.forest session now fid))
  by_message (Tremove fid) is =
      removed_by state name session frame there least tagged refused now fid ok.forest
      (wide_for session frame _ short is refl) is
  by_message (Tstat fid) is =
      let w = wide_for session frame _ short is refl in
      given_by state name session frame there least tagged refused _
      (ap (after_refusal state name session) is)
      (done-map (StatDone state.setting state.forest session fid) (Replies (reply_max session)) _
      (replies-stat (reply_max session) state.setting state.forest session ok.forest w.wide fid)
      (stat-done state.setting state.forest session fid))
  by_message (Twstat fid stat) is =
      let w = wide_for session frame _ short is refl in
      given_by state name session frame there least tagged refused _
      (ap (after_refusal state name session) is)
      (done-map (WstatDone state.setting state.forest session now fid stat)
      (Replies (reply_max session)) _
      (replies-wstat (reply_max session) state.setting state.forest session ok.forest w.wide now
      fid stat)
      (wstat-done state.setting state.forest session now fid stat))

  by_request : (r : Result TMessage Fault) → request_of session frame ≡ r
      → Given state name session frame there least tagged
      (refused
      && frame_may_fail frame
      (and_then r (message_answer state.setting state.forest state.sessions session now)))
      (answered state name session frame refused
      (and_then r (message_answer state.setting state.forest state.sessions session now)))
  by_request (Err fault) is =
      given_by state name session frame there least tagged refused (Err fault)
      (ap (after_refusal state name session) is)
      (done-err (Replies (reply_max session)) fault (request_of-of session frame fault is))
  by_request (Ok m) is = by_message m is

pub every-frame-is-answered : EveryFrameIsAnswered
unfolding Given
every-frame-is-answered state name session frame now refused ok there whole bytes =
    let its =
    session-served state.setting state.forest state.sessions ok.forest ok.served name session
    there in
    rw (whole, there)
    (by_request state name session frame now refused ok there bytes its.msize
    (request_of session frame) refl)
