-- Whole files, listings and paths, over the calls of a session.
use Rattle.std.specs.Prelude.{◌≡◌, ℕ, ◌+◌, ◌<◌, ◌≤◌, ◌⊎◌, Bool, false, true, IsTrue, List, [], ◌∷◌, ◌++◌}
use Rattle.std.specs.Prelude.{Option, Result, MatchResult, drop, length, take}
use Rattle.std.specs.List.{concat, flat_map}
use Rattle.p9_wire.specs.Fields.{stat_bytes}
use Rattle.p9_base.specs.declared.qid.Qid.{Qid}
use Rattle.p9_wire.specs.Message.{Rread, Rwalk, Rwrite, Tread, Twalk, Twrite}
use Rattle.p9_client.specs.declared.entry.Entry.{Entry}
use Rattle.p9_client.specs.declared.file_error.FileError.{FileError}
use Rattle.p9_client.specs.declared.file_error.FileError.TheVariants.{Session, NotWalked, BadEntry}
use Rattle.p9_client.specs.declared.file_error.FileError.TheVariants.{Endless, Stuck, Output, NoMemory}
use Rattle.p9_client.specs.Ahead.{Exchange, Exchanges}
use Rattle.p9_client.specs.Entry.{entry_view}
use Rattle.p9_client.specs.Reason.{ends}
use Rattle.p9_client.specs.Reply.{IsReply}
use Rattle.p9_client.specs.Session.{Asks, Talk}

-- a session has failed after this error
abbrev pub ends_file : FileError → Bool
ends_file (Session error) = ends error
ends_file NotWalked = false
ends_file BadEntry = true
ends_file Endless = true
ends_file Stuck = false
ends_file (Output error) = false
ends_file NoMemory = false

-- after a value a session goes on as it did, and after an error that ends it it has failed
abbrev pub GoesOn : {S T : Type 0} → (old new : Talk S) → Result T FileError → Type 0
GoesOn old new result =
    MatchResult result (λ value. new.failed ≡ old.failed)
    (λ error. IsTrue (ends_file error) → new.failed ≡ true)

-- the bytes of entries, one after another
abbrev pub spelled : {A : Type 0} → List (Entry A) → List ℕ
spelled entries = flat_map (λ entry. stat_bytes (entry_view entry)) entries

-- an exchange that read this piece of a file from a place on
pub record ReadsAt (fid at : ℕ) (piece : List ℕ) (e : Exchange) : Type 0 where
  pub size : ℕ
  pub some : 0 < size
  pub request_is : e.request ≡ Tread fid at size
  pub reply_is : e.answer.reply ≡ Rread piece
  pub within : length piece ≤ size

-- a read from behind a place, whatever its reply is
pub record ReadsBehind (fid at : ℕ) (e : Exchange) : Type 0 where
  pub offset : ℕ
  pub size : ℕ
  pub request_is : e.request ≡ Tread fid offset size
  pub behind : at < offset

-- what reads give of a file from a place on: each goes on where those before it ended, or else it
-- began behind that place, and is dropped
abbrev pub Reads : (fid at : ℕ) → List Exchange → List ℕ → Type 0
Reads fid at [] bytes = bytes ≡ []
Reads fid at (e ∷ es) bytes =
    ((piece : List ℕ) × (rest : List ℕ) × ReadsAt fid at piece e × (bytes ≡ piece ++ rest)
    × Reads fid (at + length piece) es rest) ⊎ (ReadsBehind fid at e × Reads fid at es bytes)

-- an exchange that wrote so many of these bytes, from a place on
pub record WritesAt (fid at count : ℕ) (bytes : List ℕ) (e : Exchange) : Type 0 where
  pub size : ℕ
  pub request_is : e.request ≡ Twrite fid at (take size (drop at bytes))
  pub reply_is : e.answer.reply ≡ Rwrite count
  pub within : count ≤ size

-- a write of these bytes from behind a place on, whatever its reply is
pub record WritesBehind (fid at : ℕ) (bytes : List ℕ) (e : Exchange) : Type 0 where
  pub offset : ℕ
  pub size : ℕ
  pub request_is : e.request ≡ Twrite fid offset (take size (drop offset bytes))
  pub behind : at < offset

-- writes of these bytes from a place to another: each goes on where those before it ended, as their
-- replies say, or else it began behind that place, and its reply does not matter
abbrev pub Writes : (fid : ℕ) (bytes : List ℕ) (from to : ℕ) → List Exchange → Type 0
Writes fid bytes from to [] = from ≡ to
Writes fid bytes from to (e ∷ es) =
    ((count : ℕ) × WritesAt fid from count bytes e × Writes fid bytes (from + count) to es)
    ⊎ (WritesBehind fid from bytes e × Writes fid bytes from to es)

module _ {S : Type 0} (remaining contents : S → Option (List ℕ)) where
  -- a walk by at most sixteen names, all of which lead somewhere
  pub record WalksPiece (fid newfid : ℕ) (names : List (List ℕ)) (old new : Talk S) : Type 0 where
    pub few : length names ≤ 16
    pub asked : Asks remaining contents (Twalk fid newfid names) old.tag old new
    pub qids : List Qid
    pub answer : IsReply new.reply old.tag (Rwalk qids)
    pub whole : length qids ≡ length names

  -- walks by these names, one after another, of one fid
  abbrev pub WalksOn : (fid : ℕ) → List (List (List ℕ)) → (old new : Talk S) → Type 0
  WalksOn fid [] old new = new ≡ old
  WalksOn fid (piece ∷ pieces) old new =
      (mid : Talk S) × WalksPiece fid fid piece old mid × WalksOn fid pieces mid new

  -- a fid walked to a new one, and that one on, by the names of a path in pieces
  pub record WalksPath (fid newfid : ℕ) (path : List (List ℕ)) (old new : Talk S) : Type 0 where
    pub first : List (List ℕ)
    pub pieces : List (List (List ℕ))
    pub joined : first ++ flat_map (λ piece. piece) pieces ≡ path
    pub mid : Talk S
    pub begins : WalksPiece fid newfid first old mid
    pub walks : WalksOn newfid pieces mid new

  -- a read of a file from an offset on gave this piece
  pub record ReadsPiece (fid offset : ℕ) (piece : List ℕ) (old new : Talk S) : Type 0 where
    pub most : ℕ
    pub asked : Asks remaining contents (Tread fid offset most) old.tag old new
    pub answer : IsReply new.reply old.tag (Rread piece)

  -- reads gave these pieces, one after another, each from where the one before ended
  abbrev pub ReadsPieces : (fid offset : ℕ) → List (List ℕ) → (old new : Talk S) → Type 0
  ReadsPieces fid offset [] old new = new ≡ old
  ReadsPieces fid offset (piece ∷ pieces) old new =
      (mid : Talk S) × ReadsPiece fid offset piece old mid
      × ReadsPieces fid (offset + length piece) pieces mid new

  -- a file was read from its beginning until a read gave nothing, and these are its bytes
  pub record ReadsWhole (fid : ℕ) (bytes : List ℕ) (old new : Talk S) : Type 0 where
    pub pieces : List (List ℕ)
    pub joined : concat pieces ≡ bytes
    pub reads : ReadsPieces fid 0 (pieces ++ [] ∷ []) old new

  -- reads ahead of a file gave these bytes, from a place on; where they gave none, the first of
  -- them was from there, and gave nothing
  pub record ReadsOn (fid at : ℕ) (bytes : List ℕ) (old new : Talk S) : Type 0 where
    pub first : Exchange
    pub others : List Exchange
    pub exchanged : Exchanges remaining contents (first ∷ others) old new
    pub given : Reads fid at (first ∷ others) bytes
    pub ends : bytes ≡ [] → ReadsAt fid at [] first

  -- a file was read from its beginning until a read from where its bytes end gave nothing, and these
  -- are its bytes; what reads ahead gave after that was dropped
  pub record ReadsFile (fid : ℕ) (bytes : List ℕ) (old new : Talk S) : Type 0 where
    pub exchanges : List Exchange
    pub last : Exchange
    pub dropped : List Exchange
    pub exchanged : Exchanges remaining contents (exchanges ++ last ∷ dropped) old new
    pub given : Reads fid 0 exchanges bytes
    pub ended : ReadsAt fid (length bytes) [] last
    pub behind : Reads fid (length bytes) (last ∷ dropped) []

  -- writes ahead wrote bytes to a file, from a place to another
  pub record WritesOn (fid : ℕ) (bytes : List ℕ) (from to : ℕ) (old new : Talk S) : Type 0 where
    pub exchanges : List Exchange
    pub exchanged : Exchanges remaining contents exchanges old new
    pub written : Writes fid bytes from to exchanges
