-- A reply in whose place memory may be refused is no refusal.
use Rattle.std.proofs.Common.{Bool, Err, List, Ok, false, inl, inr, refl, subst, sym, true, ℕ, ◌≡◌}
use Rattle.p9_tree.specs.Server.{Server}
use Rattle.p9_space.specs.Rights.{may}
use Rattle.p9_wire.specs.Stat.{StatFields}
use Rattle.p9_wire.specs.Message.{RMessage, TMessage, Tattach, Tauth, Tclunk, Tcreate}
use Rattle.p9_wire.specs.Message.{Tflush, Topen, Tread, Tremove, Tstat, Tversion, Twalk, Twrite}
use Rattle.p9_wire.specs.Message.{Twstat}
use Rattle.p9_step.specs.Answer.{Answer, Outcome, is_error}
use Rattle.p9_step.specs.ForestChange.{ForestChange}
use Rattle.p9_step.specs.Create.{creation}
use Rattle.p9_step.specs.Memory.{may_run_out}
use Rattle.p9_step.specs.State.{Session, SessionRow, Setting}
use Rattle.p9_step.specs.Step.{message_answer}
use Rattle.p9_step.proofs.Done.{OnDone, done-err, done-is, done-map, done-ok, refused-is}
use Rattle.p9_step.proofs.Passed.{AttachDone, ClunkDone, CreateDone, OpenDone, ReadDone, RemoveDone}
use Rattle.p9_step.proofs.Passed.{StatDone, VersionDone, WalkDone, WriteDone, WstatDone}
use Rattle.p9_step.proofs.Passed.{attach-done, clunk-done, create-done, open-done, read-done}
use Rattle.p9_step.proofs.Passed.{remove-done, stat-done, version-done, walk-done, write-done}
use Rattle.p9_step.proofs.Passed.{wstat-done}

-- the reply is no refusal
abbrev pub IsPlain : Outcome → Type 0
IsPlain outcome = is_error outcome.reply ≡ false

-- an outcome of this reply, which is none
plain_as : (o : Outcome) (changes : List ForestChange) (session : Session) (m : RMessage)
    → o ≡ record { changes = changes; session = session; reply = m } → is_error m ≡ false
    → IsPlain o
plain_as o changes session m is plain = subst IsPlain (sym is) plain

module _ (setting : Setting) (forest : List Server) (session : Session) where
  plain-attach : (fid : ℕ) (uname aname : List ℕ) (o : Outcome)
      → AttachDone setting forest session fid uname aname o → IsPlain o
  plain-attach fid uname aname o done = plain_as o _ _ _ done.is refl

  plain-walk : (fid newfid : ℕ) (names : List (List ℕ)) (o : Outcome)
      → WalkDone setting forest session fid newfid names o → IsPlain o
  plain-walk fid newfid names o done =
      elim done.is [ inl is ↦ plain_as o _ _ _ is refl | inr is ↦ plain_as o _ _ _ is refl ]

  plain-create : (now fid : ℕ) (name : List ℕ) (perm : ℕ) (o : Outcome)
      → CreateDone setting forest session now fid name perm o → IsPlain o
  plain-create now fid name perm o done =
      done-is IsPlain (creation forest session now fid done.v done.member.node done.dir name done.asked
      done.opening) o (done-ok IsPlain _ refl) (sym done.is)

  plain-write : (now fid offset : ℕ) (bytes : List ℕ) (o : Outcome)
      → WriteDone setting forest session now fid offset bytes o → IsPlain o
  plain-write now fid offset bytes o done = elim done.is [
    | inl none ↦ plain_as o _ _ _ none.1 refl
    | inr some ↦ plain_as o _ _ _ some.1 refl
  ]

  plain-wstat : (now fid : ℕ) (wanted : StatFields) (o : Outcome)
      → WstatDone setting forest session now fid wanted o → IsPlain o
  plain-wstat now fid wanted o done = plain_as o _ _ _ done.is refl

-- where memory may be refused
abbrev pub IsPlainIf : Bool → Outcome → Type 0
IsPlainIf may outcome = may ≡ true → is_error outcome.reply ≡ false

plain_if : (may : Bool) (answer : Answer) → OnDone IsPlain answer → OnDone (IsPlainIf may) answer
plain_if may (Ok outcome) plain =
    done-ok (IsPlainIf may) outcome (λ e. done-is IsPlain (Ok outcome) outcome plain refl)
plain_if may (Err fault) plain =
    done-err (IsPlainIf may) fault (refused-is IsPlain (Err fault) fault plain refl)

never : (P : Outcome → Type 0) (answer : Answer) → OnDone P answer
    → OnDone (IsPlainIf false) answer
never P answer done = done-map P (IsPlainIf false) answer (λ outcome its e. absurd (cc)) done

-- of each message, in the manual's order
pub plain-message_answer : (setting : Setting) (forest : List Server) (sessions : List SessionRow)
    (session : Session) (now : ℕ) (m : TMessage)
    → OnDone (IsPlainIf (may_run_out m (message_answer setting forest sessions session now m)))
    (message_answer setting forest sessions session now m)
plain-message_answer setting forest sessions session now (Tversion msize version) =
    never (VersionDone setting forest session now msize) _
    (version-done setting forest session now msize version)
plain-message_answer setting forest sessions session now (Tauth afid uname aname) =
    done-err (IsPlainIf false) _ refl
plain-message_answer setting forest sessions session now (Tattach fid afid uname aname) =
    plain_if _ _
    (done-map (AttachDone setting forest session fid uname aname) IsPlain _
    (plain-attach setting forest session fid uname aname)
    (attach-done setting forest session fid afid uname aname))
plain-message_answer setting forest sessions session now (Tflush oldtag) =
    done-ok (IsPlainIf false) _ (λ e. refl)
plain-message_answer setting forest sessions session now (Twalk fid newfid names) =
    plain_if _ _
    (done-map (WalkDone setting forest session fid newfid names) IsPlain _
    (plain-walk setting forest session fid newfid names)
    (walk-done setting forest session fid newfid names))
plain-message_answer setting forest sessions session now (Topen fid mode) =
    never (OpenDone setting forest session now fid) _
    (open-done setting forest session sessions now fid mode)
plain-message_answer setting forest sessions session now (Tcreate fid name perm mode) =
    plain_if _ _
    (done-map (CreateDone setting forest session now fid name perm) IsPlain _
    (plain-create setting forest session now fid name perm)
    (create-done setting forest session now fid name perm mode))
plain-message_answer setting forest sessions session now (Tread fid offset count) =
    never (ReadDone setting forest session now fid offset count) _
    (read-done setting forest session now fid offset count)
plain-message_answer setting forest sessions session now (Twrite fid offset bytes) =
    plain_if _ _
    (done-map (WriteDone setting forest session now fid offset bytes) IsPlain _
    (plain-write setting forest session now fid offset bytes)
    (write-done setting forest session now fid offset bytes))
plain-message_answer setting forest sessions session now (Tclunk fid) =
    never (ClunkDone setting forest session now fid) _
    (clunk-done setting forest session now fid)
plain-message_answer setting forest sessions session now (Tremove fid) =
    never (RemoveDone setting forest session now fid) _
    (remove-done setting forest session now fid)
plain-message_answer setting forest sessions session now (Tstat fid) =
    never (StatDone setting forest session fid) _ (stat-done setting forest session fid)
plain-message_answer setting forest sessions session now (Twstat fid stat) =
    plain_if _ _
    (done-map (WstatDone setting forest session now fid stat) IsPlain _
    (plain-wstat setting forest session now fid stat)
    (wstat-done setting forest session now fid stat))
