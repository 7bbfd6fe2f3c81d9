-- What begins a frame, and the name of the user as whom it attaches.
use Rattle.std.specs.Prelude.{ℕ, ◌+◌, ◌<◌, ◌≤◌, ◌==◌, ◌&&◌, ◌||◌, not, List, ◌++◌, nat_le, nat_lt}
use Rattle.std.specs.Prelude.{Option, None, Some, length, take, drop, replicate, if◌then◌else◌}
use Rattle.byteorder.specs.Endian.{little_number}
use Rattle.p9_base.specs.User.{is_listed_user, is_user, user_max}
use Rattle.p9_wire.specs.Frame.{header, msize_max}
use Rattle.p9_restricted.specs.declared.front.Front.{Front}
use Rattle.p9_restricted.specs.declared.front.Front.TheVariants.{Undecided, Broken, Frame}

-- where the user's name of a Tattach begins: its size, type, tag, fid, afid and the length of the name
-- are before it
abbrev pub name_at : ℕ
name_at = 17

-- fewer bytes than these may be too few to say what begins
abbrev pub longest : ℕ
longest = 80

-- the type of a message
abbrev pub type_of : List ℕ → ℕ
type_of bytes = little_number 1 (drop 4 bytes)

-- the length of the user's name of a Tattach
abbrev pub name_len : List ℕ → ℕ
name_len bytes = little_number 2 (drop 15 bytes)

-- so many bytes of a user's name end within so many bytes of a frame, if there are any
abbrev pub IsWithin : ℕ → ℕ → Type 0
IsWithin mask len = 0 < mask → name_at + mask ≤ len

-- the user of a name
abbrev pub user_of : List ℕ → Option (List ℕ)
user_of name = if is_user name then Some name else None

-- how many bytes of a name are masked: all of a user who is not among these
abbrev pub masked_len : List (List ℕ) → List ℕ → ℕ
masked_len users name =
    if is_user name && not (is_listed_user users name) then length name else 0

-- what begins a Tattach of this size
abbrev pub attach_front : List (List ℕ) → ℕ → List ℕ → Front
attach_front users size bytes =
    if nat_lt (length bytes) name_at then Undecided
    else let len = name_len bytes in
    if nat_lt user_max len || nat_lt size (name_at + len) then Frame size 0
    else if nat_lt (length bytes) (name_at + len) then Undecided
    else Frame size (masked_len users (take len (drop name_at bytes)))

-- what begins a frame
abbrev pub front_of : List (List ℕ) → List ℕ → Front
front_of users bytes =
    if nat_lt (length bytes) 4 then Undecided
    else let size = little_number 4 bytes in
    if nat_lt size header || nat_lt msize_max size then Broken
    else if nat_lt (length bytes) 5 then Undecided
    else if type_of bytes == 104 && nat_le name_at size then attach_front users size bytes
    else Frame size 0

-- with so many blanks in the place of a user's name
abbrev pub blanked : ℕ → List ℕ → List ℕ
blanked mask bytes = take name_at bytes ++ replicate mask 32 ++ drop (name_at + mask) bytes
