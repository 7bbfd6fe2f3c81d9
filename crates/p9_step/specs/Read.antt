-- Reading: read(5).
use Rattle.std.specs.Prelude.{ℕ, ◌+◌, ◌-◌, ◌==◌, ◌||◌, min, nat_le, List, [], ◌∷◌, Option, Some}
use Rattle.std.specs.Prelude.{None, Ok, Err, length, if◌then◌else◌}
use Rattle.std.specs.List.{flat_map}
use Rattle.p9_base.specs.declared.fault.Fault.TheVariants.{BadDirectoryOffset, FidNotOpen}
use Rattle.p9_base.specs.declared.fault.Fault.TheVariants.{PhaseError, SmallReadCount, UnknownFid}
use Rattle.p9_base.specs.declared.node_ref.NodeRef.{NodeRef}
use Rattle.p9_base.specs.NodeRef.{beside}
use Rattle.p9_base.specs.Results.{obtain, need}
use Rattle.p9_tree.specs.Bytes.{read_from}
use Rattle.p9_tree.specs.Node.{Node, is_dir}
use Rattle.p9_tree.specs.Server.{Server}
use Rattle.p9_space.specs.Trail.{here}
use Rattle.p9_wire.specs.Fields.{stat_bytes}
use Rattle.p9_wire.specs.Message.{Rread}
use Rattle.p9_fids.specs.declared.opened.Cursor.{Cursor}
use Rattle.p9_fids.specs.declared.opened.Opened.{Opened}
use Rattle.p9_fids.specs.Fid.{Fid, changed_fid, fid_at, opened_as}
use Rattle.p9_fids.specs.Opened.{reads}
use Rattle.p9_step.specs.State.{Setting, Session, fid_file, fid_ref, iounit_of, who_of}
use Rattle.p9_step.specs.Answer.{Answer}
use Rattle.p9_step.specs.ForestChange.{EditNode, Touch}
use Rattle.p9_step.specs.Listing.{UnionEntry, cursor_of, listing_behind}
use Rattle.p9_step.specs.Qid.{stat_of}

-- A file.

-- the bytes from the offset on that are there and have room; the time of the last read moves
abbrev pub read_file : Session → (clock : ℕ) → NodeRef → Node → (offset room : ℕ) → Answer
read_file session clock at n offset room =
    Ok (record {
      changes = EditNode at (Touch clock) ∷ [];
      session = session;
      reply = Rread (read_from offset room n.bytes);
    })

-- A directory.

-- an entry is the node's own stat, not that of what is mounted on it
unfoldable pub entry_bytes : UnionEntry → List ℕ
entry_bytes e = stat_bytes (stat_of (beside e.member e.node.number) e.node)

-- as many whole entries from the front as have room
abbrev pub fitting : ℕ → List UnionEntry → List UnionEntry
fitting room [] = []
fitting room (e ∷ es) =
    let size = length (entry_bytes e) in
    if nat_le size room then e ∷ fitting (room - size) es else []

-- the last entry that was given
abbrev pub cursor_after : Option Cursor → List UnionEntry → Option Cursor
cursor_after cursor [] = cursor
cursor_after cursor (e ∷ es) = cursor_after (Some (cursor_of e)) es

-- offset 0 begins anew
abbrev pub cursor_at : ℕ → Opened → Option Cursor
cursor_at offset opened = if offset == 0 then None else opened.cursor

-- the next read of the directory goes on after these entries
abbrev pub listed_session : (fid : ℕ) → Opened → (offset : ℕ) → Option Cursor → List UnionEntry
    → Session → Session
listed_session fid opened offset cursor entries session = record session {
  fids =
      changed_fid fid (opened_as (record opened {
        next_offset = offset + length (flat_map entry_bytes entries);
        cursor = cursor_after cursor entries;
      })) session.fids;
}

-- these entries are the reply
abbrev pub entries_answer : Session → (fid : ℕ) → Opened → (offset : ℕ) → Option Cursor
    → List UnionEntry → Answer
entries_answer session fid opened offset cursor entries =
    Ok (record {
      changes = [];
      session = listed_session fid opened offset cursor entries session;
      reply = Rread (flat_map entry_bytes entries);
    })

-- the same, of those that are left the ones that fit; where any is left, one has to fit
abbrev pub entries_or_fault : Session → (fid : ℕ) → Opened → (offset : ℕ) → Option Cursor
    → (left fit : List UnionEntry) → Answer
entries_or_fault session fid opened offset cursor (e ∷ es) [] = Err SmallReadCount
entries_or_fault session fid opened offset cursor left fit =
    entries_answer session fid opened offset cursor fit

-- a read begins anew, or where the last one ended
abbrev pub read_dir : Setting → List Server → Session → (fid : ℕ) → Fid → Opened
    → (offset room : ℕ) → Answer
read_dir setting forest session fid v opened offset room =
    let cursor = cursor_at offset opened in
    let left = listing_behind cursor setting.table forest (who_of setting v.user) (here v.trail) in
    need (offset == 0 || offset == opened.next_offset) BadDirectoryOffset (
    entries_or_fault session fid opened offset cursor left (fitting room left))

-- open for reading, or not
abbrev pub readable : Option Opened → Option Opened
readable None = None
readable (Some opened) = if reads opened.mode then Some opened else None

-- the tests in their order
abbrev pub read_answer : Setting → List Server → Session → (clock fid offset count : ℕ) → Answer
read_answer setting forest session clock fid offset count =
    obtain (fid_at fid session.fids) UnknownFid (λ v.
    obtain (readable v.opened) FidNotOpen (λ opened.
    obtain (fid_file setting.table forest v) PhaseError (λ n.
    let room = min count (iounit_of session) in
    if is_dir n then read_dir setting forest session fid v opened offset room
    else read_file session clock (fid_ref setting.table v) n offset room)))
