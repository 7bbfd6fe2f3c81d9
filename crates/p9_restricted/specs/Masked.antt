-- Bytes in whose frames nobody attaches but some users.
use Rattle.std.specs.Prelude.{◌≡◌, ℕ, zero, suc, ◌≤◌, List, ◌++◌, length, take, drop}
use Rattle.p9_restricted.specs.declared.front.Front.{Front}
use Rattle.p9_restricted.specs.declared.front.Front.TheVariants.{Undecided, Broken, Frame}
use Rattle.p9_restricted.specs.declared.passing.Place.{Place}
use Rattle.p9_restricted.specs.declared.passing.Place.TheVariants.{Before, Lost}
use Rattle.p9_restricted.specs.Front.{blanked, front_of}

-- what is made of the bytes that begin so, and of those after their frame
abbrev pub masked_by : Front → List ℕ → (List ℕ → List ℕ) → List ℕ
masked_by Undecided bytes others = bytes
masked_by Broken bytes others = bytes
masked_by (Frame size mask) bytes others = blanked mask (take size bytes) ++ others (drop size bytes)

-- the same of at most so many frames
unfoldable pub masked_within : List (List ℕ) → (most : ℕ) → List ℕ → List ℕ
masked_within users zero bytes = bytes
masked_within users (suc n) bytes =
    masked_by (front_of users bytes) bytes (masked_within users n)

-- bytes from the beginning of a frame on, where each Tattach for a user who is not among these has
-- blanks for the name
unfoldable pub masked : List (List ℕ) → List ℕ → List ℕ
masked users bytes = masked_within users (length bytes) bytes

-- the users who may attach, and where in the frames the next byte is
pub record Gate : Type 0 where
  pub users : List (List ℕ)
  pub place : Place

-- what is made of bytes from a place on
abbrev pub masked_from : List (List ℕ) → Place → List ℕ → List ℕ
masked_from users (Before left) bytes = take left bytes ++ masked users (drop left bytes)
masked_from users Lost bytes = bytes

abbrev pub onward : Gate → List ℕ → List ℕ
onward gate bytes = masked_from gate.users gate.place bytes

-- so many bytes of these are passed on, and the others are as they were: with any bytes that come
-- behind them, that is the front of what is made of them
pub record Passes (old : Gate) (bytes : List ℕ) (new : Gate) (bytes' : List ℕ) (count : ℕ)
    : Type 0 where
  pub within : count ≤ length bytes
  pub others : drop count bytes' ≡ drop count bytes
  pub length_is : length bytes' ≡ length bytes
  pub users_are : new.users ≡ old.users
  pub front : (behind : List ℕ)
      → onward old (bytes ++ behind) ≡ take count bytes' ++ onward new (drop count bytes ++ behind)
