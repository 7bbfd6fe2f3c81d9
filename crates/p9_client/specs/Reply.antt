-- What a reply gives, by its frame.
use Rattle.std.specs.Prelude.{◌≡◌, ◌≢◌, ℕ, ◌≤◌, ◌⊎◌, List, None, Some, Result, MatchResult, IsTrue, length}
use Rattle.p9_wire.specs.Message.{RMessage, Rerror, Rread, Rwrite, r_view}
use Rattle.p9_wire.specs.Reading.{r_message_of}
use Rattle.p9_wire.specs.Reply.{r_type}
use Rattle.p9_wire.specs.declared.message.RMsg.{RMsg}
use Rattle.p9_client.specs.declared.error.ClientError.{ClientError}
use Rattle.p9_client.specs.declared.error.ClientError.TheVariants.{Refused, TooLong, Over, Stream}
use Rattle.p9_client.specs.declared.error.ClientError.TheVariants.{BadSize, NoMessage, OtherTag}
use Rattle.p9_client.specs.declared.error.ClientError.TheVariants.{OtherType, Unasked, NoMemory}
use Rattle.p9_client.specs.declared.reply.Asked.{Asked}
use Rattle.p9_client.specs.declared.reply.Asked.TheVariants.{Read, Write}
use Rattle.p9_client.specs.Reason.{IsReason, ends}

-- the frame is the reply with this tag
abbrev pub IsReply : (frame : List ℕ) (tag : ℕ) → RMessage → Type 0
IsReply frame tag m = r_message_of frame ≡ Some (tag, m)

-- the frame is a refusal of the request with this tag, or no reply to it at all
abbrev pub IsNoAnswer : (tag : ℕ) (frame : List ℕ) → ClientError → Type 0
IsNoAnswer tag frame (Refused reason) =
    (ename : List ℕ) × IsReply frame tag (Rerror ename) × IsReason ename reason
IsNoAnswer tag frame TooLong = ⊥
IsNoAnswer tag frame Over = ⊥
IsNoAnswer tag frame (Stream error) = ⊥
IsNoAnswer tag frame BadSize = ⊥
IsNoAnswer tag frame NoMessage = r_message_of frame ≡ None
IsNoAnswer tag frame OtherTag =
    (other : ℕ) × (m : RMessage) × IsReply frame other m × (other ≢ tag)
IsNoAnswer tag frame OtherType = ⊥
IsNoAnswer tag frame Unasked = ⊥
IsNoAnswer tag frame NoMemory = ⊥

-- the reply is not of the kind that was asked for, or of this kind and gives what was not asked
-- for, or there is no memory for what it gives
abbrev pub IsOtherAnswer : (kind : ℕ) (GivesMore : RMessage → Type 0) → RMessage → ClientError
    → Type 0
IsOtherAnswer kind GivesMore m (Refused reason) = ⊥
IsOtherAnswer kind GivesMore m TooLong = ⊥
IsOtherAnswer kind GivesMore m Over = ⊥
IsOtherAnswer kind GivesMore m (Stream error) = ⊥
IsOtherAnswer kind GivesMore m BadSize = ⊥
IsOtherAnswer kind GivesMore m NoMessage = ⊥
IsOtherAnswer kind GivesMore m OtherTag = ⊥
IsOtherAnswer kind GivesMore m OtherType = r_type m ≢ kind
IsOtherAnswer kind GivesMore m Unasked = (r_type m ≡ kind) × GivesMore m
IsOtherAnswer kind GivesMore m NoMemory = r_type m ≡ kind

-- no reply of a kind gives what was not asked for
abbrev pub gives_no_more : RMessage → Type 0
gives_no_more m = ⊥

-- the reply that a frame is, or why it is none
abbrev pub IsReplyOf : (tag : ℕ) (frame : List ℕ) → Result RMsg ClientError → Type 0
IsReplyOf tag frame result =
    MatchResult result (λ reply. IsReply frame tag (r_view reply)) (IsNoAnswer tag frame)

-- what is taken of the reply that a frame is
abbrev pub IsTaken : {T : Type 0} → (kind : ℕ) (Gives : RMessage → T → Type 0)
    (GivesMore : RMessage → Type 0) (tag : ℕ) (frame : List ℕ) → Result T ClientError → Type 0
IsTaken kind Gives GivesMore tag frame result =
    MatchResult result (λ value. (m : RMessage) × IsReply frame tag m × Gives m value)
    (λ error. IsNoAnswer tag frame error
    ⊎ ((m : RMessage) × IsReply frame tag m × IsOtherAnswer kind GivesMore m error))

-- a reply to a read or a write of at most so many bytes, or a refusal
abbrev pub IsWithin : Asked → (most : ℕ) → RMessage → Type 0
IsWithin Read most m =
    ((bytes : List ℕ) × (m ≡ Rread bytes) × (length bytes ≤ most))
    ⊎ ((ename : List ℕ) × (m ≡ Rerror ename))
IsWithin Write most m =
    ((count : ℕ) × (m ≡ Rwrite count) × (count ≤ most))
    ⊎ ((ename : List ℕ) × (m ≡ Rerror ename))

-- a reply that does not matter is within what was asked; each error ends the session
abbrev pub IsDroppedReply : Asked → (most tag : ℕ) (frame : List ℕ)
    → Result (Unit {0}) ClientError → Type 0
IsDroppedReply asked most tag frame result =
    MatchResult result (λ nothing. (m : RMessage) × IsReply frame tag m × IsWithin asked most m)
    (λ error. IsTrue (ends error))
