-- A session, and what a call of it does to its stream.
use Rattle.std.specs.Prelude.{◌≡◌, ℕ, ◌+◌, ◌≤◌, ◌⊎◌, Bool, false, true, List, Option, Result}
use Rattle.std.specs.Prelude.{MatchResult, nat_lt, if◌then◌else◌}
use Rattle.std.specs.Io.KnownBytes.{Appends, Consumes, Keeps}
use Rattle.p9_wire.specs.Message.{TMessage, RMessage}
use Rattle.p9_wire.specs.Spelling.{t_len, t_spelling, TFits}
use Rattle.p9_client.specs.declared.error.ClientError.{ClientError}
use Rattle.p9_client.specs.declared.error.ClientError.TheVariants.{Refused, TooLong, Over, Stream}
use Rattle.p9_client.specs.declared.error.ClientError.TheVariants.{BadSize, NoMessage, OtherTag}
use Rattle.p9_client.specs.declared.error.ClientError.TheVariants.{OtherType, Unasked, NoMemory}
use Rattle.p9_client.specs.Frame.{HasSize, IsBadSize}
use Rattle.p9_client.specs.Reason.{ends}
use Rattle.p9_client.specs.Reply.{IsNoAnswer, IsOtherAnswer, IsReply}
use Rattle.p9_client.specs.Transfer.{AppendsFront}

-- a session: its stream, the greatest frame, the tag of the next request, whether it has failed,
-- and what it read last, which is the frame of a reply
pub record Talk (S : Type 0) : Type 0 where
  pub stream : S
  pub msize : ℕ
  pub tag : ℕ
  pub failed : Bool
  pub reply : List ℕ

-- the tag of a version
abbrev pub no_tag : ℕ
no_tag = 65535

-- the afid of an attach without authentication
abbrev pub no_fid : ℕ
no_fid = 4294967295

-- the tag after another: all but that of a version are used in turn
abbrev pub next_tag : ℕ → ℕ
next_tag tag = if nat_lt tag 65534 then tag + 1 else 0

-- a request has a spelling that is no longer than the session's frames
abbrev pub IsSendable : (msize : ℕ) → TMessage → Type 0
IsSendable msize request = TFits request × (7 + t_len request ≤ msize)

module _ {S : Type 0} (remaining contents : S → Option (List ℕ)) where
  -- a session that had not failed wrote this request with this tag, once, and read the frame of a
  -- reply; it wrote and read nothing else
  pub record Asks (request : TMessage) (tag : ℕ) (old new : Talk S) : Type 0 where
    pub alive : old.failed ≡ false
    pub sendable : IsSendable old.msize request
    pub written : Appends (contents old.stream) (contents new.stream) (t_spelling tag request)
    pub read : Consumes (remaining old.stream) (remaining new.stream) new.reply
    pub size : HasSize new.reply
    pub tag_is : new.tag ≡ next_tag old.tag
    pub msize_is : new.msize ≡ old.msize

  -- the stream failed: it has a front of the request, which may be all of it
  pub record FailsToAsk (request : TMessage) (tag : ℕ) (old new : Talk S) : Type 0 where
    pub alive : old.failed ≡ false
    pub sendable : IsSendable old.msize request
    pub written : AppendsFront (contents old.stream) (contents new.stream) (t_spelling tag request)
    pub failed : new.failed ≡ true
    pub msize_is : new.msize ≡ old.msize

  -- the request was written, and what was read begins no frame of the session
  pub record MeetsBadSize (request : TMessage) (tag : ℕ) (old new : Talk S) : Type 0 where
    pub alive : old.failed ≡ false
    pub sendable : IsSendable old.msize request
    pub written : Appends (contents old.stream) (contents new.stream) (t_spelling tag request)
    pub read : Consumes (remaining old.stream) (remaining new.stream) new.reply
    pub bad : IsBadSize old.msize new.reply
    pub failed : new.failed ≡ true
    pub msize_is : new.msize ≡ old.msize

  -- no frame was read: a session that had failed, or a request that cannot be sent, changes
  -- nothing; the stream failed, or a frame of a bad size came
  abbrev pub ReadsNone : TMessage → (tag : ℕ) → (old new : Talk S) → ClientError → Type 0
  ReadsNone request tag old new (Refused reason) = ⊥
  ReadsNone request tag old new TooLong =
      (old.failed ≡ false) × (IsSendable old.msize request → ⊥) × (new ≡ old)
  ReadsNone request tag old new Over = (old.failed ≡ true) × (new ≡ old)
  ReadsNone request tag old new (Stream error) = FailsToAsk request tag old new
  ReadsNone request tag old new BadSize = MeetsBadSize request tag old new
  ReadsNone request tag old new NoMessage = ⊥
  ReadsNone request tag old new OtherTag = ⊥
  ReadsNone request tag old new OtherType = ⊥
  ReadsNone request tag old new Unasked = ⊥
  ReadsNone request tag old new NoMemory = ⊥

  -- a frame was read, and gives no value: then the session has failed, but where the error says
  -- that it goes on
  pub record GetsNone (request : TMessage) (tag kind : ℕ) (GivesMore : RMessage → Type 0)
      (old new : Talk S) (error : ClientError) : Type 0 where
    pub asked : Asks request tag old new
    pub failed : new.failed ≡ ends error
    pub answer : IsNoAnswer tag new.reply error
        ⊎ ((m : RMessage) × IsReply new.reply tag m × IsOtherAnswer kind GivesMore m error)

  -- a frame was read, and this value is what its reply gives
  pub record Gets {T : Type 0} (request : TMessage) (tag : ℕ) (Gives : RMessage → T → Type 0)
      (old new : Talk S) (value : T) : Type 0 where
    pub asked : Asks request tag old new
    pub alive : new.failed ≡ false
    pub answer : (m : RMessage) × IsReply new.reply tag m × Gives m value

  -- a call of a session: it asks this, with this tag, for a reply of this kind, and returns what
  -- that gives
  abbrev pub IsCall : {T : Type 0} → TMessage → (tag kind : ℕ) (Gives : RMessage → T → Type 0)
      (GivesMore : RMessage → Type 0) (old new : Talk S) → Result T ClientError → Type 0
  IsCall request tag kind Gives GivesMore old new result =
      MatchResult result (Gets request tag Gives old new)
      (λ error. ReadsNone request tag old new error
      ⊎ GetsNone request tag kind GivesMore old new error)

  -- a session that had not failed wrote this request with this tag, once, and read nothing
  pub record Sends (request : TMessage) (tag : ℕ) (old new : Talk S) : Type 0 where
    pub alive : old.failed ≡ false
    pub sendable : IsSendable old.msize request
    pub written : Appends (contents old.stream) (contents new.stream) (t_spelling tag request)
    pub unread : Keeps (remaining old.stream) (remaining new.stream)
    pub tag_is : new.tag ≡ next_tag old.tag
    pub msize_is : new.msize ≡ old.msize
    pub goes_on : new.failed ≡ false

  -- a request was written, or no frame will be read for it
  abbrev pub IsSent : TMessage → (tag : ℕ) (old new : Talk S) → Result (Unit {0}) ClientError
      → Type 0
  IsSent request tag old new result =
      MatchResult result (λ nothing. Sends request tag old new) (ReadsNone request tag old new)

  -- the frame of a reply was read, and nothing was written
  pub record Receives (old new : Talk S) : Type 0 where
    pub read : Consumes (remaining old.stream) (remaining new.stream) new.reply
    pub size : HasSize new.reply
    pub unwritten : Keeps (contents old.stream) (contents new.stream)
    pub tag_is : new.tag ≡ old.tag
    pub msize_is : new.msize ≡ old.msize
    pub goes_on : new.failed ≡ old.failed

  -- the stream failed while a frame was read
  pub record StopsReading (old new : Talk S) : Type 0 where
    pub unwritten : Keeps (contents old.stream) (contents new.stream)
    pub failed : new.failed ≡ true
    pub msize_is : new.msize ≡ old.msize

  -- what was read begins no frame of the session
  pub record ReadsBadSize (old new : Talk S) : Type 0 where
    pub read : Consumes (remaining old.stream) (remaining new.stream) new.reply
    pub bad : IsBadSize old.msize new.reply
    pub unwritten : Keeps (contents old.stream) (contents new.stream)
    pub failed : new.failed ≡ true
    pub msize_is : new.msize ≡ old.msize

  -- why no frame was read
  abbrev pub ReceivesNone : (old new : Talk S) → ClientError → Type 0
  ReceivesNone old new (Refused reason) = ⊥
  ReceivesNone old new TooLong = ⊥
  ReceivesNone old new Over = ⊥
  ReceivesNone old new (Stream error) = StopsReading old new
  ReceivesNone old new BadSize = ReadsBadSize old new
  ReceivesNone old new NoMessage = ⊥
  ReceivesNone old new OtherTag = ⊥
  ReceivesNone old new OtherType = ⊥
  ReceivesNone old new Unasked = ⊥
  ReceivesNone old new NoMemory = ⊥

  -- a frame was read, which is not looked at yet
  abbrev pub IsReceived : (old new : Talk S) → Result (Unit {0}) ClientError → Type 0
  IsReceived old new result =
      MatchResult result (λ nothing. Receives old new) (ReceivesNone old new)

  -- a request was written and a frame read, which is not looked at yet
  abbrev pub IsAsked : TMessage → (tag : ℕ) (old new : Talk S) → Result (Unit {0}) ClientError
      → Type 0
  IsAsked request tag old new result =
      MatchResult result (λ nothing. Asks request tag old new × (new.failed ≡ false))
      (ReadsNone request tag old new)

-- after a reply was looked at, a session has failed where the error says so, and nothing else of it
-- is changed
abbrev pub IsSettled : {S T : Type 0} → (old new : Talk S) → Result T ClientError → Type 0
IsSettled old new result =
    MatchResult result (λ value. new ≡ old) (λ error. new ≡ record old { failed = ends error })
