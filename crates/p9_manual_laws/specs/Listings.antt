-- What read(5) says of the entries of a directory.
use Rattle.std.specs.Prelude.{◌≡◌, ℕ, ◌+◌, ◌++◌, true, List, [], ◌∷◌, Option, None, Some, length}
use Rattle.std.specs.List.{flat_map}
use Rattle.std.specs.Option.{option_map}
use Rattle.p9_tree.specs.Node.{Node, is_dir}
use Rattle.p9_space.specs.Trail.{here}
use Rattle.p9_wire.specs.Message.{RMessage, Rread, Tread}
use Rattle.p9_fids.specs.Fid.{Fid}
use Rattle.p9_step.specs.Listing.{listing}
use Rattle.p9_step.specs.Read.{entry_bytes}
use Rattle.p9_step.specs.Sound.{IsState}
use Rattle.p9_step.specs.State.{Session, State, fid_file, who_of}
use Rattle.p9_manual_laws.specs.Asked.{Has, asked}

-- the data of a read, before those of the reads after it; none where it is refused
abbrev pub data_before : Option RMessage → (List ℕ → Option (List (List ℕ)))
    → Option (List (List ℕ))
data_before (Some (Rread bytes)) rest = option_map (λ parts. bytes ∷ parts) (rest bytes)
data_before other rest = None

-- a read, at a reading of the clock, of so many bytes at most
pub record ReadAt : Type 0 where
  pub clock : ℕ
  pub count : ℕ

-- the data of reads of a fid: the first is at the offset, and each other where the one before ended
abbrev pub reads_from : State → (name fid offset : ℕ) → List ReadAt → Option (List (List ℕ))
reads_from state name fid offset [] = Some []
reads_from state name fid offset (read ∷ reads) =
    let after = asked state name read.clock (Tread fid offset read.count) in
    data_before after.reply (λ bytes.
    reads_from after.state name fid (offset + length bytes) reads)

-- reads of a directory from 0 on, of which the last gives nothing, give together all entries
abbrev pub ReadsGiveAll : Type 0
ReadsGiveAll =
    (state : State) (name : ℕ) (session : Session) (fid : ℕ) (v : Fid) (n : Node)
    (reads : List ReadAt) (parts : List (List ℕ))
    → IsState state → Has state name session fid v
    → fid_file state.setting.table state.forest v ≡ Some n → is_dir n ≡ true
    → reads_from state name fid 0 reads ≡ Some (parts ++ [] ∷ [])
    → flat_map (λ part. part) parts
    ≡ flat_map entry_bytes
    (listing state.setting.table state.forest (who_of state.setting v.user) (here v.trail))
