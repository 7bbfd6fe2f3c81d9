-- What each kind of reply gives, and where it gives what was not asked for.
use Rattle.std.specs.Prelude.{◌≡◌, ℕ, ◌<◌, ◌≤◌, List, codes, drop, length, take}
use Rattle.p9_base.specs.declared.qid.Qid.{Qid}
use Rattle.p9_wire.specs.Message.{RMessage, Rattach, Rcreate, Ropen, Rread, Rversion, Rwalk, Rwrite}
use Rattle.p9_client.specs.declared.reply.Opened.{Opened}

-- the least msize that a session takes
abbrev pub msize_min : ℕ
msize_min = 256

-- the dialect of a session
abbrev pub dialect : List ℕ
dialect = codes "9P2000"

-- a reply to a version says this msize, which is no more than was offered
pub record AgreesOn (offered : ℕ) (m : RMessage) (msize : ℕ) : Type 0 where
  pub is : m ≡ Rversion msize dialect
  pub enough : msize_min ≤ msize
  pub within : msize ≤ offered

-- another msize, or another version
abbrev pub OffersMore : (offered : ℕ) → RMessage → Type 0
OffersMore offered m = (msize : ℕ) → AgreesOn offered m msize → ⊥

abbrev pub IsAttached : RMessage → Qid → Type 0
IsAttached m qid = m ≡ Rattach qid

-- a reply to a walk by so many names has these qids
pub record IsWalked (names : ℕ) (m : RMessage) (qids : List Qid) : Type 0 where
  pub is : m ≡ Rwalk qids
  pub within : length qids ≤ names

-- it has more qids than names
abbrev pub ExceedsQids : (names : ℕ) → RMessage → Type 0
ExceedsQids names m = (qids : List Qid) × (m ≡ Rwalk qids) × (names < length qids)

abbrev pub IsOpened : RMessage → Opened → Type 0
IsOpened m opened = m ≡ Ropen opened.qid opened.iounit

abbrev pub IsCreated : RMessage → Opened → Type 0
IsCreated m opened = m ≡ Rcreate opened.qid opened.iounit

-- a reply to a read of at most so many bytes has these bytes
pub record IsReadOf (most : ℕ) (m : RMessage) (bytes : List ℕ) : Type 0 where
  pub is : m ≡ Rread bytes
  pub within : length bytes ≤ most

-- a reply to a read of at most so many bytes has the bytes that are at the front of the buffer,
-- and the buffer is unchanged after them
pub record IsRead (most : ℕ) (old new : List ℕ) (m : RMessage) (count : ℕ) : Type 0 where
  pub is : m ≡ Rread (take count new)
  pub within : count ≤ most
  pub after : drop count new ≡ drop count old

-- it has more bytes than were asked for
abbrev pub ExceedsBytes : (most : ℕ) → RMessage → Type 0
ExceedsBytes most m = (bytes : List ℕ) × (m ≡ Rread bytes) × (most < length bytes)

-- a reply to a write of so many bytes says this count
pub record IsWritten (most : ℕ) (m : RMessage) (count : ℕ) : Type 0 where
  pub is : m ≡ Rwrite count
  pub within : count ≤ most

-- it says more than were sent
abbrev pub ExceedsCount : (most : ℕ) → RMessage → Type 0
ExceedsCount most m = (count : ℕ) × (m ≡ Rwrite count) × (most < count)

-- a reply without fields
abbrev pub IsEmptyReply : RMessage → RMessage → Unit {0} → Type 0
IsEmptyReply reply m nothing = m ≡ reply
