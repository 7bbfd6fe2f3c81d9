-- Each message, and a frame.
use Rattle.std.proofs.Common.{ℕ, List}
use Rattle.p9_wire.specs.Message.{TMessage, Tversion, Tauth, Tattach, Tflush, Twalk, Topen, Tcreate}
use Rattle.p9_wire.specs.Message.{Tread, Twrite, Tclunk, Tremove, Tstat, Twstat}
use Rattle.p9_step.specs.State.{Session, SessionRow}
use Rattle.p9_step.specs.Request.{request_of}
use Rattle.p9_step.specs.Step.{frame_answer, message_answer}
use Rattle.p9_guard_laws.proofs.Scene.{SafeFids, Scene, outer_of}
use Rattle.p9_guard_laws.proofs.Agrees.{Agrees, agrees_err, agrees_quiet, agrees_then}
use Rattle.p9_guard_laws.proofs.Attaches.{attach-agrees}
use Rattle.p9_guard_laws.proofs.Ends.{clunk-agrees, version-agrees}
use Rattle.p9_guard_laws.proofs.Fids.{stat-agrees}
use Rattle.p9_guard_laws.proofs.Removes.{remove-agrees}
use Rattle.p9_guard_laws.proofs.WalkMessages.{walk-agrees}
use Rattle.p9_guard_laws.proofs.Opens.{open-agrees}
use Rattle.p9_guard_laws.proofs.Reading.{read-agrees}
use Rattle.p9_guard_laws.proofs.Writing.{write-agrees}
use Rattle.p9_guard_laws.proofs.Creates.{create-agrees}
use Rattle.p9_guard_laws.proofs.Wstats.{wstat-agrees}

module _ (scene : Scene) where
  -- each message
  message-agrees : (sessions : List SessionRow) (session : Session) (now : ℕ) (m : TMessage)
      → SafeFids scene session.fids
      → Agrees scene (message_answer scene.setting (outer_of scene) sessions session now m)
      (message_answer scene.setting scene.forest sessions session now m)
  message-agrees sessions session now (Tversion msize version) h =
      version-agrees scene session now msize version h
  message-agrees sessions session now (Tauth afid uname aname) h = agrees_err scene _
  message-agrees sessions session now (Tattach fid afid uname aname) h =
      attach-agrees scene session fid afid uname aname h
  message-agrees sessions session now (Tflush oldtag) h = agrees_quiet scene session _ h
  message-agrees sessions session now (Twalk fid newfid names) h =
      walk-agrees scene session fid newfid names h
  message-agrees sessions session now (Topen fid mode) h =
      open-agrees scene sessions session now fid mode h
  message-agrees sessions session now (Tcreate fid name perm mode) h =
      create-agrees scene session now fid name perm mode h
  message-agrees sessions session now (Tread fid offset count) h =
      read-agrees scene session now fid offset count h
  message-agrees sessions session now (Twrite fid offset bytes) h =
      write-agrees scene session now fid offset bytes h
  message-agrees sessions session now (Tclunk fid) h =
      clunk-agrees scene session now fid h
  message-agrees sessions session now (Tremove fid) h =
      remove-agrees scene session now fid h
  message-agrees sessions session now (Tstat fid) h =
      stat-agrees scene session fid h
  message-agrees sessions session now (Twstat fid stat) h =
      wstat-agrees scene session now fid stat h

  -- the same of a frame
  pub frame-agrees : (sessions : List SessionRow) (session : Session) (now : ℕ) (frame : List ℕ)
      → SafeFids scene session.fids
      → Agrees scene (frame_answer scene.setting (outer_of scene) sessions session now frame)
      (frame_answer scene.setting scene.forest sessions session now frame)
  frame-agrees sessions session now frame h =
      agrees_then scene (request_of session frame) _ _ (λ m _.
      message-agrees sessions session now m h)
