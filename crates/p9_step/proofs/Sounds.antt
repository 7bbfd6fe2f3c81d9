-- A step keeps what is kept of every state.
use Rattle.std.proofs.Common.{IfSome, List, None, Option, Some, [], refl}
use Rattle.std.proofs.Common.{true, ℕ, ◌<◌, ◌^◌, ◌≡◌}
use Rattle.std.specs.BTreeMap.{is_at}
use Rattle.std.specs.List.Sorted.{IsStrictlySortedBy}
use Rattle.std.specs.Ordering.{nat_cmp}
use Rattle.p9_base.proofs.Rising.{rising-insert, rising-remove, rising-set}
use Rattle.p9_base.proofs.Rows.{each-insert, each-lookup, each-remove, each-set}
use Rattle.p9_tree.specs.Forest.{IsForest}
use Rattle.p9_tree.specs.Server.{Server}
use Rattle.p9_space.specs.Given.{is_table_given}
use Rattle.p9_wire.specs.Frame.{IsBytes}
use Rattle.p9_wire.specs.Message.{TMessage, Tattach, Tauth, Tclunk, Tcreate, Tflush, Topen, Tread}
use Rattle.p9_wire.specs.Message.{Tremove, Tstat, Tversion, Twalk, Twrite, Twstat}
use Rattle.p9_wire.specs.Spelling.{TNumbersFit, TSpells}
use Rattle.p9_wire.proofs.TGrammar.{t-decides}
use Rattle.p9_fids.proofs.Fids.{fids-none}
use Rattle.p9_step.specs.Answer.{Outcome}
use Rattle.p9_step.specs.ForestChange.{ForestChange, all_applied}
use Rattle.p9_step.specs.End.{on_ends}
use Rattle.p9_step.specs.Request.{request_of}
use Rattle.p9_step.specs.Sound.{IsServed, IsSession, IsSetting}
use Rattle.p9_step.specs.State.{Session, SessionRow, Setting, changed_session, fresh, session_at}
use Rattle.p9_step.specs.State.{with_session, without_session}
use Rattle.p9_step.specs.Step.{frame_answer, message_answer}
use Rattle.p9_step.proofs.Done.{OnDone, done-err, done-map, done-ok, done-then}
use Rattle.p9_step.proofs.Kept.{IsReady, Kept, kept-attach, kept-clunk, kept-quiet, kept-remove}
use Rattle.p9_step.proofs.Kept.{kept-stat, kept-version, kept-walk}
use Rattle.p9_step.proofs.KeptFiles.{kept-create, kept-open, kept-read, kept-write}
use Rattle.p9_step.proofs.KeptWstats.{kept-wstat}
use Rattle.p9_step.proofs.Lawful.{AllLawful, evolves-lawful, lawful-on_ends}
use Rattle.p9_step.proofs.Passed.{AttachDone, ClunkDone, CreateDone, OpenDone, ReadDone, RemoveDone}
use Rattle.p9_step.proofs.Passed.{StatDone, VersionDone, WalkDone, WriteDone, WstatDone}
use Rattle.p9_step.proofs.Passed.{attach-done, clunk-done, create-done, open-done, read-done}
use Rattle.p9_step.proofs.Passed.{remove-done, stat-done, version-done, walk-done, write-done}
use Rattle.p9_step.proofs.Passed.{wstat-done}
use Rattle.p9_step.proofs.Refused.{request_of-of}
use Rattle.p9_step.proofs.Requests.{request-is}
use Rattle.p9_step.proofs.Settled.{fits-of, sessions-evolved, table-evolved, users-of}

-- every request's outcome
pub kept-answer : (setting : Setting) (forest : List Server) (sessions : List SessionRow)
    (session : Session) (now : ℕ) (m : TMessage) → IsReady setting forest session now → TNumbersFit m
    → OnDone (Kept setting forest) (message_answer setting forest sessions session now m)
kept-answer setting forest sessions session now (Tversion msize version) ready fit =
    done-map (VersionDone setting forest session now msize) (Kept setting forest) _
    (kept-version setting forest session now ready msize)
    (version-done setting forest session now msize version)
kept-answer setting forest sessions session now (Tauth afid uname aname) ready fit =
    done-err (Kept setting forest) _ refl
kept-answer setting forest sessions session now (Tattach fid afid uname aname) ready fit =
    done-map (AttachDone setting forest session fid uname aname) (Kept setting forest) _
    (λ o. kept-attach setting forest session now ready fid uname aname o fit.0)
    (attach-done setting forest session fid afid uname aname)
kept-answer setting forest sessions session now (Tflush oldtag) ready fit =
    done-ok (Kept setting forest) _
    (kept-quiet setting forest session now ready session _ ready.its)
kept-answer setting forest sessions session now (Twalk fid newfid names) ready fit =
    done-map (WalkDone setting forest session fid newfid names) (Kept setting forest) _
    (λ o. kept-walk setting forest session now ready fid newfid names o fit.1)
    (walk-done setting forest session fid newfid names)
kept-answer setting forest sessions session now (Topen fid mode) ready fit =
    done-map (OpenDone setting forest session now fid) (Kept setting forest) _
    (kept-open setting forest session now ready fid)
    (open-done setting forest session sessions now fid mode)
kept-answer setting forest sessions session now (Tcreate fid name perm mode) ready fit =
    done-map (CreateDone setting forest session now fid name perm) (Kept setting forest) _
    (kept-create setting forest session now ready fid name perm)
    (create-done setting forest session now fid name perm mode)
kept-answer setting forest sessions session now (Tread fid offset count) ready fit =
    done-map (ReadDone setting forest session now fid offset count) (Kept setting forest) _
    (kept-read setting forest session now ready fid offset count)
    (read-done setting forest session now fid offset count)
kept-answer setting forest sessions session now (Twrite fid offset bytes) ready fit =
    done-map (WriteDone setting forest session now fid offset bytes) (Kept setting forest) _
    (kept-write setting forest session now ready fid offset bytes)
    (write-done setting forest session now fid offset bytes)
kept-answer setting forest sessions session now (Tclunk fid) ready fit =
    done-map (ClunkDone setting forest session now fid) (Kept setting forest) _
    (kept-clunk setting forest session now ready fid)
    (clunk-done setting forest session now fid)
kept-answer setting forest sessions session now (Tremove fid) ready fit =
    done-map (RemoveDone setting forest session now fid) (Kept setting forest) _
    (kept-remove setting forest session now ready fid)
    (remove-done setting forest session now fid)
kept-answer setting forest sessions session now (Tstat fid) ready fit =
    done-map (StatDone setting forest session fid) (Kept setting forest) _
    (kept-stat setting forest session now ready fid)
    (stat-done setting forest session fid)
kept-answer setting forest sessions session now (Twstat fid stat) ready fit =
    done-map (WstatDone setting forest session now fid stat) (Kept setting forest) _
    (λ o. kept-wstat setting forest session now ready fid stat o fit.1.mtime)
    (wstat-done setting forest session now fid stat)

-- the answer to a frame
pub kept-frame : (setting : Setting) (forest : List Server) (rows : List SessionRow)
    (session : Session) (now : ℕ) (frame : List ℕ) → IsReady setting forest session now
    → IsBytes frame
    → OnDone (Kept setting forest) (frame_answer setting forest rows session now frame)
kept-frame setting forest rows session now frame ready bytes =
    done-then (Kept setting forest) (request_of session frame)
    (message_answer setting forest rows session now) (request_of-of session frame)
    (λ m is. let r = request-is session frame m is in
    let spelled : TSpells frame r.tag m = t-decides.sound frame r.tag m bytes r.read in
    kept-answer setting forest rows session now m ready spelled.numbers)

module _ (setting : Setting) (forest : List Server) (rows : List SessionRow)
    (sound : IsForest forest) (served : IsServed setting forest rows) where
  -- after lawful changes
  served-changes : (changes : List ForestChange) → AllLawful forest changes
      → IsServed setting (all_applied changes forest) rows
  served-changes changes lawful =
      let evolves = evolves-lawful forest changes sound lawful in
      record {
        fixed = served.fixed;
        given =
            table-evolved forest (all_applied changes forest) evolves setting.table served.given;
        rising = served.rising;
        sessions =
            sessions-evolved setting forest (all_applied changes forest) sound evolves rows
            served.sessions;
      }

  -- a session that is open is one
  pub session-served : (name : ℕ) (session : Session) → session_at name rows ≡ Some session
      → IsSession setting forest session
  session-served name session there =
      each-lookup (λ s. IsSession setting forest s) (is_at (nat_cmp name)) rows session
      served.sessions there

  -- what a request of it finds
  pub ready-served : (name now : ℕ) (session : Session) → session_at name rows ≡ Some session
      → now < 2 ^ 32 → IsReady setting forest session now
  ready-served name now session there short = record {
    sound = sound;
    fixed = served.fixed;
    given = served.given;
    its = session-served name session there;
    short = short;
  }

  -- after an outcome
  pub served-outcome : (name : ℕ) (o : Outcome) → Kept setting forest o
      → IsServed setting (all_applied o.changes forest) (changed_session name o.session rows)
  served-outcome name o kept =
      let after = served-changes o.changes kept.lawful in
      record {
        fixed = after.fixed;
        given = after.given;
        rising = rising-set (is_at (nat_cmp name)) rows o.session after.rising;
        sessions =
            each-set (λ s. IsSession setting (all_applied o.changes forest) s)
            (is_at (nat_cmp name)) rows o.session kept.session after.sessions;
      }

  -- the end of a session is lawful
  pub lawful-close : (name now : ℕ) (session : Session) → session_at name rows ≡ Some session
      → now < 2 ^ 32 → AllLawful forest (on_ends setting.table now forest session.fids)
  lawful-close name now session there short =
      let its = session-served name session there in
      lawful-on_ends setting.table now short forest session.fids sound
      (users-of setting forest session.fids served.fixed its.each)
      (fits-of setting forest session.fids its.each)

  -- after a closing
  pub served-closed : (name now : ℕ) (session : Session) → session_at name rows ≡ Some session
      → now < 2 ^ 32
      → IsServed setting (all_applied (on_ends setting.table now forest session.fids) forest)
      (without_session name rows)
  served-closed name now session there short =
      let changes = on_ends setting.table now forest session.fids in
      let after = served-changes changes (lawful-close name now session there short) in
      record {
        fixed = after.fixed;
        given = after.given;
        rising = rising-remove (is_at (nat_cmp name)) rows after.rising;
        sessions =
            each-remove (λ s. IsSession setting (all_applied changes forest) s)
            (is_at (nat_cmp name)) rows after.sessions;
      }

-- after an opening
pub served-opened : (setting : Setting) (forest : List Server) (rows : List SessionRow) (name : ℕ)
    → IsServed setting forest rows → IsServed setting forest (with_session name fresh rows)
served-opened setting forest rows name served = record {
  fixed = served.fixed;
  given = served.given;
  rising = rising-insert rows name fresh served.rising;
  sessions =
      each-insert (λ s. IsSession setting forest s) nat_cmp rows name fresh (record {
        msize = tt;
        fids = fids-none;
        each = tt;
      }) served.sessions;
}

-- without sessions
pub served-new : (setting : Setting) (forest : List Server) → IsSetting setting
    → is_table_given forest setting.table ≡ true → IsServed setting forest []
unfolding IsStrictlySortedBy
served-new setting forest fixed given = record {
  fixed = fixed;
  given = given;
  rising = tt;
  sessions = tt;
}

-- each session that is open is one
pub each-session-served : (setting : Setting) (forest : List Server) (rows : List SessionRow)
    (name : ℕ) → IsServed setting forest rows
    → IfSome (session_at name rows) (IsSession setting forest)
each-session-served setting forest rows name served = go (session_at name rows) refl
  where
    go : (o : Option Session) → session_at name rows ≡ o
        → IfSome (session_at name rows) (IsSession setting forest)
    go None e = rw e tt
    go (Some session) e =
        rw e (each-lookup (λ s. IsSession setting forest s) (is_at (nat_cmp name)) rows session
        served.sessions e)
