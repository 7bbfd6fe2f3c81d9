-- The laws of frames whose names are masked.
use Rattle.std.specs.Prelude.{◌≡◌, ℕ, Bool, ◌==◌, ◌&&◌, IsTrue, List, [], ◌++◌, Option, Some, length, not}
use Rattle.std.specs.Prelude.{replicate, if◌then◌else◌}
use Rattle.std.specs.Io.KnownBytes.{Consumes}
use Rattle.std.specs.List.{concat, list_all, list_any}
use Rattle.std.specs.Option.{option_map}
use Rattle.p9_base.specs.Rising.{IsRising}
use Rattle.p9_base.specs.User.{is_listed_user, is_user}
use Rattle.p9_wire.specs.Frame.{BrokenSize, Frames, Next, Rest, frames, is_frame}
use Rattle.p9_wire.specs.Message.{TMessage, Tattach}
use Rattle.p9_wire.specs.Reading.{t_message_of}
use Rattle.p9_step.specs.State.{State}
use Rattle.p9_user_laws.specs.Users.{OwnsOnly}
use Rattle.p9_conn.specs.History.{Happening, Links, Runs, read_by}
use Rattle.p9_restricted.specs.Masked.{masked}
use Rattle.p9_restricted.specs.Stream.{GaveEach, Over, new_over}

-- what is made of each frame, and of the bytes after them
abbrev pub each_masked : List (List ℕ) → Frames → Frames
each_masked users (Next frame others) = Next (masked users frame) (each_masked users others)
each_masked users (Rest bytes) = Rest (masked users bytes)
each_masked users BrokenSize = BrokenSize

-- the frames are those that were there before, one for one, and of each is made what is made of it
-- alone
abbrev pub FramesAreMasked : Type 0
FramesAreMasked =
    (users : List (List ℕ)) (bytes : List ℕ)
    → frames (masked users bytes) ≡ each_masked users (frames bytes)

-- as many blanks in the place of the name of a user who is not among these, and any other name as it
-- is
abbrev pub masked_name : List (List ℕ) → List ℕ → List ℕ
masked_name users name =
    if is_user name && not (is_listed_user users name) then replicate (length name) 32 else name

-- the same of a message that attaches, and any other as it is
abbrev pub masked_message : List (List ℕ) → TMessage → TMessage
masked_message users (Tattach fid afid uname aname) =
    Tattach fid afid (masked_name users uname) aname
masked_message users other = other

-- the message of a frame is masked, and a frame of none has none
abbrev pub MessagesAreMasked : Type 0
MessagesAreMasked =
    (users : List (List ℕ)) (frame : List ℕ) → IsTrue (is_frame frame)
    → t_message_of (masked users frame)
    ≡ option_map (λ read. (read.0, masked_message users read.1)) (t_message_of frame)

-- a frame stays as it is, if its message does
abbrev pub OthersAreKept : Type 0
OthersAreKept =
    (users : List (List ℕ)) (frame : List ℕ) (tag : ℕ) (message : TMessage)
    → IsTrue (is_frame frame) → t_message_of frame ≡ Some (tag, message)
    → masked_message users message ≡ message → masked users frame ≡ frame

-- of the stream below some bytes came, and these are a front of what is made of them
pub record AreFront {S : Type 0} (remaining : S → Option (List ℕ)) (users : List (List ℕ))
    (old new : S) (bytes : List ℕ) : Type 0 where
  pub came : List ℕ
  pub left : List ℕ
  pub consumed : Consumes (remaining old) (remaining new) came
  pub front : bytes ++ left ≡ masked users came

-- the pieces that a restricted stream gives, joined, are such a front, if nothing was read of it before
abbrev pub PiecesAreMasked : Type 0 → Type 0
PiecesAreMasked S =
    (remaining : S → Option (List ℕ)) (users : List (List ℕ)) (stream : S)
    (pieces : List (List ℕ)) (new : Over S) → GaveEach remaining pieces (new_over stream users) new
    → AreFront remaining users stream new.stream (concat pieces)

-- a user's name, and not of blanks alone
abbrev pub is_visible : List ℕ → Bool
is_visible name = is_user name && list_any (λ b. not (b == 32)) name

-- each is such a name
abbrev pub has_no_blank_name : List (List ℕ) → Bool
has_no_blank_name users = list_all is_visible users

-- The turns are of any connections on one guard, in any order.
-- The connection of the session had read nothing before, and what it read is a front of what is made
-- of some bytes for these users: so it is of a stream for them, whose pieces may be of any length.
-- No user who is listed has a name of blanks alone.
-- The session has fids of these users alone, as a session that is not there yet.
-- Then it has fids of these users alone after the turns.
abbrev pub NobodyAttachesAsAnother : Type 0
NobodyAttachesAsAnother =
    (users : List (List ℕ)) (session : ℕ) (hs : List Happening) (links links' : Links)
    (state state' : State) (given left : List ℕ)
    → Runs hs links state links' state'
    → (links session).buffer ≡ [] → read_by session hs ++ left ≡ masked users given
    → IsTrue (has_no_blank_name state.setting.users)
    → IsRising state.sessions → OwnsOnly users session state → OwnsOnly users session state'
