-- What the functions that read a directory give.
use Rattle.std.specs.Prelude.{◌≡◌, ℕ, ◌<◌, ◌≤◌, nat_lt, List, [], ◌++◌, Option, Some, None, length}
use Rattle.std.specs.Prelude.{Ok, drop, take}
use Rattle.std.specs.List.{flat_map}
use Rattle.p9_base.specs.declared.node_ref.NodeRef.{NodeRef}
use Rattle.p9_tree.specs.Node.{Node, is_above}
use Rattle.p9_wire.specs.Message.{Rread}
use Rattle.p9_fids.specs.declared.opened.Cursor.{Cursor}
use Rattle.p9_fids.specs.declared.opened.Opened.{Opened}
use Rattle.p9_fids.specs.Fid.{changed_fid, opened_as}
use Rattle.p9_step.specs.State.{Session}
use Rattle.p9_step.specs.Answer.{Answer}
use Rattle.p9_step.specs.Listing.{UnionEntry, entry_at, is_behind}
use Rattle.p9_step.specs.Read.{cursor_after, entry_bytes, fitting}
use Rattle.p9_walks.specs.declared.listing.Filled.{Filled}

-- as many of the entries that are left are at the front of the buffer as have room; whether one
-- has none
pub record Fills (room : ℕ) (left : List UnionEntry) (from : Option Cursor) (buffer : List ℕ)
    (filled : Filled) : Type 0 where
  pub within : filled.size ≤ room
  pub bytes : take filled.size buffer ≡ flat_map entry_bytes (fitting room left)
  pub last : filled.cursor ≡ cursor_after from (fitting room left)
  pub full : filled.is_full ≡ nat_lt (length (fitting room left)) (length left)

-- the position of the cursor's member, or the first
abbrev pub IsReached : Option Cursor → ℕ → Type 0
IsReached None position = position ≡ 0
IsReached (Some last) position = position ≡ last.member

-- of a node in the member at the position: it is above the floor where its entry is after the
-- cursor
abbrev pub IsFloor : Option Cursor → ℕ → Option ℕ → Type 0
IsFloor cursor position floor =
    (member : NodeRef) (n : Node) → is_behind cursor (entry_at position member n) ≡ is_above floor n

-- the bytes of a stat are at the front of the buffer, or have no room there
abbrev pub PutsStat : (bytes old new : List ℕ) → Option ℕ → Type 0
PutsStat bytes old new None = (length old < length bytes) × (new ≡ old)
PutsStat bytes old new (Some size) =
    (size ≡ length bytes) × (size ≤ length old) × (new ≡ bytes ++ drop size old)

-- a read of a directory gives the bytes, and the fid is open as that from then on
abbrev pub list_answer : Session → (fid : ℕ) → Opened → List ℕ → Answer
list_answer session fid opened bytes =
    Ok (record {
      changes = [];
      session = record session { fids = changed_fid fid (opened_as opened) session.fids };
      reply = Rread bytes;
    })
