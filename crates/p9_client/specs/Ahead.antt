-- Requests ahead: several are written before the replies to them are read.
use Rattle.std.specs.Prelude.{◌≡◌, ℕ, ◌+◌, ◌-◌, ◌<◌, ◌≤◌, ◌⊎◌, min, List, [], ◌∷◌, ◌++◌, Option, length, map}
use Rattle.std.specs.Prelude.{drop, take}
use Rattle.std.specs.Io.KnownBytes.{Appends, Consumes, Keeps}
use Rattle.std.specs.List.{All, Contains, concat, flat_map}
use Rattle.p9_wire.specs.Message.{TMessage, RMessage, Rread, Rwrite, Tread, Twrite}
use Rattle.p9_wire.specs.Spelling.{t_spelling}
use Rattle.p9_client.specs.Frame.{HasSize}
use Rattle.p9_client.specs.Reply.{IsReply}
use Rattle.p9_client.specs.Session.{Talk, next_tag}

-- the frame of a reply, and what it is
pub record Answer : Type 0 where
  pub frame : List ℕ
  pub reply : RMessage

-- a request, and its answer
pub record Exchange : Type 0 where
  pub request : TMessage
  pub answer : Answer

-- the requests and the answers of exchanges
abbrev pub requests_of : List Exchange → List TMessage
requests_of exchanges = map (λ e. e.request) exchanges

abbrev pub answers_of : List Exchange → List Answer
answers_of exchanges = map (λ e. e.answer) exchanges

-- the tag after those of these, of which each has the next one
abbrev pub tag_past : {T : Type 0} → ℕ → List T → ℕ
tag_past tag [] = tag
tag_past tag (x ∷ xs) = tag_past (next_tag tag) xs

-- the bytes of requests, each with the next tag
abbrev pub spelled_from : ℕ → List TMessage → List ℕ
spelled_from tag [] = []
spelled_from tag (request ∷ requests) =
    t_spelling tag request ++ spelled_from (next_tag tag) requests

-- the frames of answers, one after another
abbrev pub frames : List Answer → List ℕ
frames answers = flat_map (λ a. a.frame) answers

-- a frame is the reply with the tag
pub record IsAnswer (tag : ℕ) (answer : Answer) : Type 0 where
  pub size : HasSize answer.frame
  pub is : IsReply answer.frame tag answer.reply

-- each is the reply with the next tag
abbrev pub AreAnswers : ℕ → List Answer → Type 0
AreAnswers tag [] = Unit {0}
AreAnswers tag (answer ∷ answers) = IsAnswer tag answer × AreAnswers (next_tag tag) answers

-- the most requests that are sent before the first of their replies is read
abbrev pub ahead_max : ℕ
ahead_max = 8

-- what came of requests that were sent together: the frames, in the order in which they were read,
-- and the answers, in the order of the requests
pub record Round : Type 0 where
  pub arrived : List (List ℕ)
  pub answers : List Answer

-- the answers are among the frames that were read, which are as many
pub record IsRound (round : Round) : Type 0 where
  pub few : length round.answers ≤ ahead_max
  pub sizes : All HasSize round.arrived
  pub as_many : length round.arrived ≡ length round.answers
  pub among : All (λ answer. Contains round.arrived answer.frame) round.answers

-- the frames of rounds, in the order in which they were read
abbrev pub arrived_in : List Round → List ℕ
arrived_in rounds = flat_map (λ round. concat round.arrived) rounds

-- so many answers, each the reply with the next tag, are among these frames
pub record Finds (arrived : List (List ℕ)) (tag count : ℕ) (answers : List Answer) : Type 0 where
  pub long : length answers ≡ count
  pub answered : AreAnswers tag answers
  pub among : All (λ answer. Contains arrived answer.frame) answers

-- so many replies are among these frames
abbrev pub FindsReplies : (arrived : List (List ℕ)) (tag count : ℕ) → Type 0
FindsReplies arrived tag count = (answers : List Answer) × Finds arrived tag count answers

-- one of these frames is the reply with the tag
pub record FindsReply (arrived : List (List ℕ)) (tag : ℕ) (reply : RMessage) : Type 0 where
  pub frame : List ℕ
  pub is_there : Contains arrived frame
  pub is : IsAnswer tag (record { frame = frame; reply = reply })

-- requests for parts of a file, from a place on: each is for the part after that of the one before,
-- which is not empty
abbrev pub AskInTurn : (request : ℕ → TMessage) (size : ℕ → ℕ) (from to : ℕ) → List TMessage
    → Type 0
AskInTurn request size from to [] = from ≡ to
AskInTurn request size from to (r ∷ rs) =
    (r ≡ request from) × (0 < size from) × AskInTurn request size (from + size from) to rs

-- how long the part from a place on is, of so many bytes in parts of at most so many
abbrev pub part_size : (most len at : ℕ) → ℕ
part_size most len at = min most (len - at)

-- the read of a part, of those after a place
abbrev pub read_part : (fid start most len at : ℕ) → TMessage
read_part fid start most len at = Tread fid (start + at) (part_size most len at)

-- the write of a part
abbrev pub write_part : (fid start most len : ℕ) (bytes : List ℕ) (at : ℕ) → TMessage
write_part fid start most len bytes at =
    Twrite fid (start + at) (take (part_size most len at) (drop (start + at) bytes))

-- what the answers to reads of parts give, up to the first that is short
abbrev pub GiveParts : (size : ℕ → ℕ) (from : ℕ) → List Answer → List ℕ → Type 0
GiveParts size from [] bytes = bytes ≡ []
GiveParts size from (answer ∷ answers) bytes =
    (piece : List ℕ) × (answer.reply ≡ Rread piece)
    × (((length piece ≡ size from)
    × ((rest : List ℕ) × (bytes ≡ piece ++ rest) × GiveParts size (from + size from) answers rest))
    ⊎ ((length piece < size from) × (bytes ≡ piece)))

-- how many bytes the answers to writes of parts say were written, up to the first that is short
abbrev pub TakeParts : (size : ℕ → ℕ) (from : ℕ) → List Answer → ℕ → Type 0
TakeParts size from [] total = total ≡ 0
TakeParts size from (answer ∷ answers) total =
    (count : ℕ) × (answer.reply ≡ Rwrite count)
    × (((count ≡ size from)
    × ((rest : ℕ) × (total ≡ count + rest) × TakeParts size (from + size from) answers rest))
    ⊎ ((count < size from) × (total ≡ count)))

-- the replies to reads of the parts of so many bytes are among these frames, and this is what they give
abbrev pub TakesReads : (arrived : List (List ℕ)) (tag most len : ℕ) → List ℕ → Type 0
TakesReads arrived tag most len bytes =
    (answers : List Answer) × Finds arrived tag (length arrived) answers
    × GiveParts (part_size most len) 0 answers bytes

-- the replies to writes of the parts of so many bytes are among these frames, and they say that so
-- many bytes were written
abbrev pub TakesWrites : (arrived : List (List ℕ)) (tag most len total : ℕ) → Type 0
TakesWrites arrived tag most len total =
    (answers : List Answer) × Finds arrived tag (length arrived) answers
    × TakeParts (part_size most len) 0 answers total

module _ {S : Type 0} (remaining contents : S → Option (List ℕ)) where
  -- these requests were written, each with the next tag, and nothing was read
  pub record Sent (requests : List TMessage) (old new : Talk S) : Type 0 where
    pub written : Appends (contents old.stream) (contents new.stream)
        (spelled_from old.tag requests)
    pub unread : Keeps (remaining old.stream) (remaining new.stream)
    pub tag_is : new.tag ≡ tag_past old.tag requests
    pub msize_is : new.msize ≡ old.msize
    pub goes_on : new.failed ≡ old.failed

  -- these frames were read, and nothing was written
  pub record Arrives (arrived : List (List ℕ)) (old new : Talk S) : Type 0 where
    pub read : Consumes (remaining old.stream) (remaining new.stream) (concat arrived)
    pub sizes : All HasSize arrived
    pub unwritten : Keeps (contents old.stream) (contents new.stream)
    pub tag_is : new.tag ≡ old.tag
    pub msize_is : new.msize ≡ old.msize
    pub goes_on : new.failed ≡ old.failed

  -- so many frames were read
  abbrev pub ArrivesAll : (count : ℕ) (old new : Talk S) → List (List ℕ) → Type 0
  ArrivesAll count old new arrived = (length arrived ≡ count) × Arrives arrived old new

  -- these requests were written, each with the next tag, and these answers to them read: those to
  -- requests that were sent together in any order
  pub record Exchanges (exchanges : List Exchange) (old new : Talk S) : Type 0 where
    pub written : Appends (contents old.stream) (contents new.stream)
        (spelled_from old.tag (requests_of exchanges))
    pub rounds : List Round
    pub each : All IsRound rounds
    pub in_rounds : flat_map (λ round. round.answers) rounds ≡ answers_of exchanges
    pub read : Consumes (remaining old.stream) (remaining new.stream) (arrived_in rounds)
    pub answered : AreAnswers old.tag (answers_of exchanges)
    pub tag_is : new.tag ≡ tag_past old.tag exchanges
    pub msize_is : new.msize ≡ old.msize
    pub goes_on : new.failed ≡ old.failed

  -- reads of the parts of so many bytes after a place were written
  abbrev pub SendsReads : (fid start len : ℕ) (old new : Talk S) → (count : ℕ) → Type 0
  SendsReads fid start len old new count =
      let most = old.msize - 24 in
      (requests : List TMessage) × (length requests ≡ count) × Sent requests old new
      × ((to : ℕ) × AskInTurn (read_part fid start most len) (part_size most len) 0 to requests)

  -- writes of the parts of so many bytes after a place were written
  abbrev pub SendsWrites : (fid start len : ℕ) (bytes : List ℕ) (old new : Talk S) → (count : ℕ)
      → Type 0
  SendsWrites fid start len bytes old new count =
      let most = old.msize - 24 in
      (requests : List TMessage) × (length requests ≡ count) × Sent requests old new
      × ((to : ℕ) × AskInTurn (write_part fid start most len bytes) (part_size most len) 0 to requests)
