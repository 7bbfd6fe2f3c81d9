-- No session decides the answer to a message of another, in a fixed state.
use Rattle.std.proofs.Common.{◌≡◌, ℕ, not, ◌||◌}
use Rattle.std.proofs.Common.{List, Result, Ok, Err, refl, ap}
use Rattle.std.specs.Prelude.{is_none}
use Rattle.p9_base.specs.Results.{and_then}
use Rattle.p9_base.specs.declared.fault.Fault.{Fault}
use Rattle.p9_base.specs.declared.fault.Fault.TheVariants.{BadOpenMode, ExclusiveUse}
use Rattle.p9_base.specs.declared.fault.Fault.TheVariants.{FidOpen}
use Rattle.p9_base.specs.declared.fault.Fault.TheVariants.{IsDirectory, PermissionDenied}
use Rattle.p9_base.specs.declared.fault.Fault.TheVariants.{PhaseError, UnknownFid}
use Rattle.p9_tree.specs.Node.{is_dir}
use Rattle.p9_space.specs.Table.{IsTable}
use Rattle.p9_wire.specs.Message.{TMessage, Tattach, Tauth, Tclunk}
use Rattle.p9_wire.specs.Message.{Tcreate, Tflush, Topen, Tread, Tremove, Tstat, Tversion, Twalk}
use Rattle.p9_wire.specs.Message.{Twrite, Twstat}
use Rattle.p9_fids.specs.Fid.{fid_at}
use Rattle.p9_step.specs.Open.{is_exclusive, is_in_use, may_open, open_answer}
use Rattle.p9_step.specs.Opening.{is_plain_read, opening_of}
use Rattle.p9_step.specs.Request.{request_of}
use Rattle.p9_step.specs.State.{Session, SessionRow, fid_file, fid_ref, who_of}
use Rattle.p9_step.specs.Step.{frame_answer, message_answer}
use Rattle.p9_fixed_laws.specs.States.{IsFixedInput}
use Rattle.p9_fixed_laws.proofs.Fids.{FixedFids, found}
use Rattle.p9_fixed_laws.proofs.Nodes.{Scene}
use Rattle.p9_fixed_laws.proofs.Opens.{exclusive_not, same-given}
use Rattle.p9_fixed_laws.proofs.Opens.{same-need, same-not, same-test}
use Rattle.p9_fixed_laws.proofs.Places.{file_still}

module _ (scene : Scene) (input : IsFixedInput scene.sealed scene.setting)
    (table : IsTable scene.setting.table) (session : Session) (fids : FixedFids scene session.fids)
  where
    -- No other session decides an answer.

    open-shared : (sessions others : List SessionRow) (now fid bits : ℕ)
        → open_answer scene.setting scene.forest sessions session now fid bits
        ≡ open_answer scene.setting scene.forest others session now fid bits
    open-shared sessions others now fid bits =
        same-given (fid_at fid session.fids) UnknownFid _ _ (λ v at.
        same-need (is_none v.opened) FidOpen _ _ (λ _.
        same-given (fid_file scene.setting.table scene.forest v) PhaseError _ _ (λ n there.
        same-given (opening_of bits) BadOpenMode _ _ (λ o _.
        same-need (not (is_dir n) || is_plain_read o) IsDirectory _ _ (λ _.
        same-need
        (may_open (who_of scene.setting v.user) scene.forest (fid_ref scene.setting.table v) n o)
        PermissionDenied _ _ (λ can.
        same-test _ _ ExclusiveUse _
        (ap not (same-not (is_exclusive n)
        (is_in_use scene.setting.table (fid_ref scene.setting.table v) sessions)
        (is_in_use scene.setting.table (fid_ref scene.setting.table v) others)
        (exclusive_not scene v.user (found scene session.fids fids fid v at).listed (fid_ref scene.setting.table v) n
        (file_still scene input v n table (found scene session.fids fids fid v at) there) o can)))))))))

    answer-shared : (sessions others : List SessionRow) (now : ℕ) (m : TMessage)
        → message_answer scene.setting scene.forest sessions session now m
        ≡ message_answer scene.setting scene.forest others session now m
    answer-shared sessions others now (Tversion msize version) = refl
    answer-shared sessions others now (Tauth afid uname aname) = refl
    answer-shared sessions others now (Tattach fid afid uname aname) = refl
    answer-shared sessions others now (Tflush oldtag) = refl
    answer-shared sessions others now (Twalk fid newfid names) = refl
    answer-shared sessions others now (Topen fid mode) = open-shared sessions others now fid mode
    answer-shared sessions others now (Tcreate fid name perm mode) = refl
    answer-shared sessions others now (Tread fid offset count) = refl
    answer-shared sessions others now (Twrite fid offset bytes) = refl
    answer-shared sessions others now (Tclunk fid) = refl
    answer-shared sessions others now (Tremove fid) = refl
    answer-shared sessions others now (Tstat fid) = refl
    answer-shared sessions others now (Twstat fid stat) = refl

    pub frame-shared : (sessions others : List SessionRow) (now : ℕ) (frame : List ℕ)
        → frame_answer scene.setting scene.forest sessions session now frame
        ≡ frame_answer scene.setting scene.forest others session now frame
    frame-shared sessions others now frame = go (request_of session frame)
      where
        go : (r : Result TMessage Fault)
            → and_then r (message_answer scene.setting scene.forest sessions session now)
            ≡ and_then r (message_answer scene.setting scene.forest others session now)
        go (Ok m) = answer-shared sessions others now m
        go (Err fault) = refl
