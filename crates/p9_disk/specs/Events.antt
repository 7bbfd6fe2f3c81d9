-- The calls of the system on a file and its draft, and what they make of both.
use Rattle.std.specs.Prelude.{◌≡◌, ℕ, ◌+◌, ◌==◌, Bool, true, false, ◌||◌, if◌then◌else◌, List, [], ◌∷◌, ◌++◌, length, take, drop, refl}
use Rattle.std.specs.Coded.{Coded, code_by, coded×, coded_ℕ, coded_list}

-- a call with its answer
pub data Event : Type 0 where
  -- the file and its folder were synced, and the file had these bytes
  opened : (bytes : List ℕ) → Event
  -- there was nothing to read any more
  read_failed : Event
  -- these bytes were written at this offset
  wrote : (at : ℕ) (bytes : List ℕ) → Event
  write_failed : (at : ℕ) (bytes : List ℕ) → Event
  cut_to : (len : ℕ) → Event
  cut_failed : (len : ℕ) → Event
  synced : Event
  sync_failed : Event
  -- the draft was made, without bytes
  draft_begun : Event
  draft_added : (bytes : List ℕ) → Event
  -- the draft wasn't made, or these or other bytes weren't added
  draft_failed : Event
  -- the draft was synced, renamed to the file's name, and the folder was synced
  draft_put : Event
  -- the draft was synced and renamed, and the folder wasn't synced
  draft_renamed : Event
  -- the draft wasn't synced, or not renamed
  put_failed : Event

-- the bytes of the draft after these calls, of which the newest comes first
abbrev pub drafted : List Event → List ℕ
drafted [] = []
drafted (draft_begun ∷ earlier) = []
drafted (draft_added bytes ∷ earlier) = drafted earlier ++ bytes
drafted (_ ∷ earlier) = drafted earlier

-- file with these bytes written over it
abbrev pub overwritten : List ℕ → ℕ → List ℕ → List ℕ
overwritten file at bytes = take at file ++ bytes ++ drop (at + length bytes) file

-- the bytes of the file after these calls
abbrev pub seen : List Event → List ℕ
seen [] = []
seen (opened bytes ∷ earlier) = bytes
seen (wrote at bytes ∷ earlier) = overwritten (seen earlier) at bytes
seen (cut_to len ∷ earlier) = take len (seen earlier)
seen (draft_put ∷ earlier) = drafted earlier
seen (draft_renamed ∷ earlier) = drafted earlier
seen (_ ∷ earlier) = seen earlier

abbrev pub is_failure : Event → Bool
is_failure read_failed = true
is_failure (write_failed at bytes) = true
is_failure (cut_failed len) = true
is_failure sync_failed = true
is_failure draft_failed = true
is_failure draft_renamed = true
is_failure put_failed = true
is_failure _ = false

-- how many of these calls failed
abbrev pub faults : List Event → ℕ
faults [] = 0
faults (e ∷ earlier) = if is_failure e then faults earlier + 1 else faults earlier

-- the file or the folder wasn't synced
abbrev pub is_failed_sync : Event → Bool
is_failed_sync sync_failed = true
is_failed_sync draft_renamed = true
is_failed_sync _ = false

-- One of these calls didn't sync the file or the folder. The system may have given up what it didn't write, and then
-- a later sync that succeeds says nothing of it.
abbrev pub is_unsure : List Event → Bool
is_unsure [] = false
is_unsure (e ∷ earlier) = is_failed_sync e || is_unsure earlier

-- How the logic stores an event: its number, an offset or a length, and bytes.
abbrev Parts : Type 0
Parts = ℕ × (ℕ × List ℕ)

abbrev to_parts : Event → Parts
to_parts (opened bytes) = (0, (0, bytes))
to_parts read_failed = (1, (0, []))
to_parts (wrote at bytes) = (2, (at, bytes))
to_parts (write_failed at bytes) = (3, (at, bytes))
to_parts (cut_to len) = (4, (len, []))
to_parts (cut_failed len) = (5, (len, []))
to_parts synced = (6, (0, []))
to_parts sync_failed = (7, (0, []))
to_parts draft_begun = (8, (0, []))
to_parts (draft_added bytes) = (9, (0, bytes))
to_parts draft_failed = (10, (0, []))
to_parts draft_put = (11, (0, []))
to_parts draft_renamed = (12, (0, []))
to_parts put_failed = (13, (0, []))

abbrev from_parts : Parts → Event
from_parts p =
    if p.0 == 0 then opened p.1.1
    else if p.0 == 1 then read_failed
    else if p.0 == 2 then wrote p.1.0 p.1.1
    else if p.0 == 3 then write_failed p.1.0 p.1.1
    else if p.0 == 4 then cut_to p.1.0
    else if p.0 == 5 then cut_failed p.1.0
    else if p.0 == 6 then synced
    else if p.0 == 7 then sync_failed
    else if p.0 == 8 then draft_begun
    else if p.0 == 9 then draft_added p.1.1
    else if p.0 == 10 then draft_failed
    else if p.0 == 11 then draft_put
    else if p.0 == 12 then draft_renamed
    else put_failed

pub from_parts-to_parts : (e : Event) → from_parts (to_parts e) ≡ e
from_parts-to_parts (opened bytes) = refl
from_parts-to_parts read_failed = refl
from_parts-to_parts (wrote at bytes) = refl
from_parts-to_parts (write_failed at bytes) = refl
from_parts-to_parts (cut_to len) = refl
from_parts-to_parts (cut_failed len) = refl
from_parts-to_parts synced = refl
from_parts-to_parts sync_failed = refl
from_parts-to_parts draft_begun = refl
from_parts-to_parts (draft_added bytes) = refl
from_parts-to_parts draft_failed = refl
from_parts-to_parts draft_put = refl
from_parts-to_parts draft_renamed = refl
from_parts-to_parts put_failed = refl

abbrev pub events_code : Coded (List Event)
events_code = coded_list (code_by Parts (coded× coded_ℕ (coded× coded_ℕ (coded_list coded_ℕ))) to_parts from_parts from_parts-to_parts)
