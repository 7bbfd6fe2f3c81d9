-- The request of a frame.
use Rattle.std.proofs.Common.{◌≡◌, ℕ, List, Bool, true, false, Option, Some, None}
use Rattle.std.proofs.Common.{Ok, Err, refl, subst}
use Rattle.std.specs.Prelude.{◌||◌, is_some}
use Rattle.p9_base.specs.declared.fault.Fault.TheVariants.{Malformed, VersionNotSet}
use Rattle.p9_wire.specs.Message.{TMessage}
use Rattle.p9_wire.specs.Reading.{t_message_of}
use Rattle.p9_step.specs.State.{Session}
use Rattle.p9_step.specs.Answer.{Answer}
use Rattle.p9_step.specs.Request.{fits_msize, is_version, request_of}
use Rattle.p9_step.specs.Memory.{may_run_out, frame_may_fail}

module _ (session : Session) (frame : List ℕ) where
  -- it is spelled by the frame, and it is a version, or the msize is set
  pub record IsRequest (m : TMessage) : Type 0 where
    pub tag : ℕ
    pub read : t_message_of frame ≡ Some (tag, m)
    pub allowed : (is_version m || is_some session.msize) ≡ true

  -- the request of a frame is one
  pub request-is : (m : TMessage) → request_of session frame ≡ Ok m → IsRequest m
  request-is m is = by_msize (fits_msize session frame) refl
    where
      by_test : (r : ℕ × TMessage) → t_message_of frame ≡ Some r → fits_msize session frame ≡ true
          → (b : Bool) → (is_version r.1 || is_some session.msize) ≡ b → IsRequest m
      by_test r found fits true e =
          let same : Ok r.1 ≡ Ok m = rw (fits, found, e) at is in
          let its : r.1 ≡ m = cc in
          record {
            tag = r.0;
            read = subst (λ x. t_message_of frame ≡ Some (r.0, x)) its found;
            allowed = subst (λ x. (is_version x || is_some session.msize) ≡ true) its e;
          }
      by_test r found fits false e =
          let no : Err VersionNotSet ≡ Ok m = rw (fits, found, e) at is in absurd (cc)

      by_message : fits_msize session frame ≡ true → (o : Option (ℕ × TMessage))
          → t_message_of frame ≡ o → IsRequest m
      by_message fits None e = let no : Err Malformed ≡ Ok m = rw (fits, e) at is in absurd (cc)
      by_message fits (Some r) e = by_test r e fits (is_version r.1 || is_some session.msize) refl

      by_msize : (b : Bool) → fits_msize session frame ≡ b → IsRequest m
      by_msize true e = by_message e (t_message_of frame) refl
      by_msize false e = let no : Err Malformed ≡ Ok m = rw e at is in absurd (cc)

  -- so whether its answer may be a failed allocation is the request's
  pub frame_may_fail-is : (m : TMessage) (a : Answer) → request_of session frame ≡ Ok m
      → frame_may_fail frame a ≡ may_run_out m a
  frame_may_fail-is m a is = let r = request-is m is in rw r.read refl
