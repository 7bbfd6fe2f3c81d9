-- What a client reads of the exporter's files.
use Rattle.std.specs.Prelude.{◌≡◌, ℕ, ◌+◌, ◌<◌, ◌≤◌, ◌^◌, IfOk, List, ◌∷◌, ◌++◌, Option, Result}
use Rattle.std.specs.Prelude.{Some, drop, take}
use Rattle.std.specs.List.{AllByRecursion}
use Rattle.p9_wire.specs.Message.{Tread}
use Rattle.p9_wire.specs.Spelling.{TNumbersFit}
use Rattle.p9_step.specs.State.{State}
use Rattle.p9_client.specs.declared.error.ClientError.{ClientError}
use Rattle.p9_client.specs.Ahead.{requests_of}
use Rattle.p9_client.specs.Files.{ReadsFile}
use Rattle.p9_client.specs.Kinds.{ExceedsBytes, IsRead}
use Rattle.p9_client.specs.Session.{IsCall, Talk}
use Rattle.p9_client_laws.specs.Served.{HasFile, IsMsize, replies_from, request_step}

module _ {S : Type 0} (remaining contents : S → Option (List ℕ)) where
  -- A read of a fid, where what is left to read of the stream begins with the exporter's reply to what
  -- the client writes. The numbers are in the range of their fields, and the server's msize has
  -- room for what is asked for.
  abbrev pub ReadGivesBytes : Type 0
  ReadGivesBytes =
      (state : State) (name msize fid offset most clock : ℕ) (bytes rest before after : List ℕ)
      (old new : Talk S) (result : Result ℕ ClientError) → HasFile state name msize fid bytes
      → TNumbersFit (Tread fid offset most) → old.tag < 2 ^ 16 → IsMsize msize → most + 24 ≤ msize
      → remaining old.stream
      ≡ Some ((request_step state name old.tag clock (Tread fid offset most)).reply ++ rest)
      → IsCall remaining contents (Tread fid offset most) old.tag 117 (IsRead most before after)
      (ExceedsBytes most) old new result
      → IfOk result (λ count. take count after ≡ take most (drop offset bytes))

  -- A file that is read to its end, where what is left to read of the stream begins with the
  -- exporter's replies to what the client writes.
  abbrev pub FileIsReadWhole : Type 0
  FileIsReadWhole =
      (state : State) (name msize fid : ℕ) (clock : ℕ → ℕ) (bytes read rest : List ℕ)
      (old new : Talk S) → HasFile state name msize fid bytes → old.tag < 2 ^ 16 → IsMsize msize
      → (whole : ReadsFile remaining contents fid read old new)
      → let requests = requests_of (whole.exchanges ++ whole.last ∷ whole.dropped) in
      AllByRecursion TNumbersFit requests
      → remaining old.stream ≡ Some (replies_from state name old.tag clock 0 requests ++ rest)
      → read ≡ bytes
