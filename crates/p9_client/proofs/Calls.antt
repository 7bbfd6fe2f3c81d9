-- A call of a session, from its steps: a request is written, a frame read, its reply looked at, and
-- the session settled.
use Rattle.std.proofs.Common.{◌≡◌, ◌∙◌, ℕ, false, List, Option, Result, Ok, Err, inr, length, refl, subst, sym}
use Rattle.std.proofs.Math.Seq.{take-length}
use Rattle.std.proofs.KnownBytes.{Appends-kept}
use Rattle.std.specs.Io.KnownBytes.{Appends}
use Rattle.p9_wire.specs.Message.{TMessage, RMessage}
use Rattle.p9_wire.specs.Spelling.{t_spelling}
use Rattle.p9_client.specs.declared.error.ClientError.{ClientError}
use Rattle.p9_client.specs.declared.error.ClientError.TheVariants.{Refused, TooLong, Over, Stream}
use Rattle.p9_client.specs.declared.error.ClientError.TheVariants.{BadSize, NoMessage, OtherTag}
use Rattle.p9_client.specs.declared.error.ClientError.TheVariants.{OtherType, Unasked, NoMemory}
use Rattle.p9_client.specs.Frame.{IsBadSize}
use Rattle.p9_client.specs.Reply.{IsTaken}
use Rattle.p9_client.specs.Session.{Asks, GetsNone, IsAsked, IsCall, IsReceived, IsSettled}
use Rattle.p9_client.specs.Session.{Sends, Talk}
use Rattle.p9_client.proofs.Exchanged.{kept-Consumes}

module _ {S : Type 0} (remaining contents : S → Option (List ℕ)) where
  pub call : {T : Type 0} (request : TMessage) (tag kind : ℕ) (Gives : RMessage → T → Type 0)
      (GivesMore : RMessage → Type 0) (old mid new : Talk S) (taken : Result T ClientError)
      → Asks remaining contents request tag old mid → mid.failed ≡ false
      → IsTaken kind Gives GivesMore tag mid.reply taken → IsSettled mid new taken
      → IsCall remaining contents request tag kind Gives GivesMore old new taken
  call request tag kind Gives GivesMore old mid new (Ok value) asked alive taken settled =
      rw settled record { asked = asked; alive = alive; answer = taken }
  call request tag kind Gives GivesMore old mid new (Err error) asked alive taken settled =
      inr (rw settled record {
        asked = record {
          alive = asked.alive;
          sendable = asked.sendable;
          written = asked.written;
          read = asked.read;
          size = asked.size;
          tag_is = asked.tag_is;
          msize_is = asked.msize_is;
        };
        failed = refl;
        answer = taken;
      })

  -- a request was written, and a frame is read
  pub asks : (request : TMessage) (tag : ℕ) (old mid new : Talk S)
      (received : Result (Unit {0}) ClientError) → Sends remaining contents request tag old mid
      → IsReceived remaining contents mid new received
      → IsAsked remaining contents request tag old new received
  asks request tag old mid new (Ok nothing) sent read = (
    record {
      alive = sent.alive;
      sendable = sent.sendable;
      written = Appends-kept _ _ _ _ sent.written read.unwritten;
      read = kept-Consumes _ _ _ _ sent.unread read.read;
      size = read.size;
      tag_is = read.tag_is ∙ sent.tag_is;
      msize_is = read.msize_is ∙ sent.msize_is;
    },
    read.goes_on ∙ sent.goes_on,
  )
  asks request tag old mid new (Err (Refused reason)) sent read = absurd read
  asks request tag old mid new (Err TooLong) sent read = absurd read
  asks request tag old mid new (Err Over) sent read = absurd read
  asks request tag old mid new (Err (Stream error)) sent read =
      let spelled = t_spelling tag request in
      record {
        alive = sent.alive;
        sendable = sent.sendable;
        written = (
          length spelled,
          subst (λ (bs : List ℕ). Appends (contents old.stream) (contents new.stream) bs)
              (sym (take-length spelled)) (Appends-kept _ _ _ _ sent.written read.unwritten),
        );
        failed = read.failed;
        msize_is = read.msize_is ∙ sent.msize_is;
      }
  asks request tag old mid new (Err BadSize) sent read =
      record {
        alive = sent.alive;
        sendable = sent.sendable;
        written = Appends-kept _ _ _ _ sent.written read.unwritten;
        read = kept-Consumes _ _ _ _ sent.unread read.read;
        bad = subst (λ (most : ℕ). IsBadSize most new.reply) sent.msize_is read.bad;
        failed = read.failed;
        msize_is = read.msize_is ∙ sent.msize_is;
      }
  asks request tag old mid new (Err NoMessage) sent read = absurd read
  asks request tag old mid new (Err OtherTag) sent read = absurd read
  asks request tag old mid new (Err OtherType) sent read = absurd read
  asks request tag old mid new (Err Unasked) sent read = absurd read
  asks request tag old mid new (Err NoMemory) sent read = absurd read

  -- a version that gives nothing changes no msize
  pub no-version : {T : Type 0} (request : TMessage) (tag kind : ℕ) (Gives : RMessage → T → Type 0)
      (GivesMore : RMessage → Type 0) (old mid new : Talk S) (taken : Result T ClientError)
      (error : ClientError) → Err error ≡ taken → Asks remaining contents request tag old mid
      → IsTaken kind Gives GivesMore tag mid.reply taken → IsSettled mid new taken
      → GetsNone remaining contents request tag kind GivesMore old
      (record new { msize = old.msize }) error
  no-version request tag kind Gives GivesMore old mid new taken error is asked answer settled =
      let settled' = rw (← is) at settled in
      let answer' = rw (← is) at answer in
      rw settled' record {
        asked = record {
          alive = asked.alive;
          sendable = asked.sendable;
          written = asked.written;
          read = asked.read;
          size = asked.size;
          tag_is = asked.tag_is;
          msize_is = refl;
        };
        failed = refl;
        answer = answer';
      }
