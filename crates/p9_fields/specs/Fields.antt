-- The fields of messages: how each is spelled, and which values have a spelling.
use Rattle.std.specs.Prelude.{ℕ, ◌+◌, ◌<◌, ◌≤◌, ◌^◌, IsTrue, List, ◌++◌, length}
use Rattle.std.specs.List.{flat_map, AllByRecursion}
use Rattle.byteorder.specs.Endian.{little_bytes}
use Rattle.p9_base.specs.declared.qid.Qid.{Qid}
use Rattle.p9_base.specs.Text.{is_text}
use Rattle.p9_fields.specs.Stat.{StatFields}

-- the most names of a Twalk, and the most qids of an Rwalk
abbrev pub elements_max : ℕ
elements_max = 16

-- a number in so many bytes, the lowest first
unfoldable pub number : (bytes value : ℕ) → List ℕ
number bytes value = little_bytes bytes value

-- two bytes of length, and the text
abbrev pub text : List ℕ → List ℕ
text s = number 2 (length s) ++ s

-- four bytes of count, and the data
abbrev pub counted : List ℕ → List ℕ
counted s = number 4 (length s) ++ s

-- two bytes that say how many there are, and each
abbrev pub several : {A : Type 0} → (A → List ℕ) → List A → List ℕ
several f xs = number 2 (length xs) ++ flat_map f xs

-- two bytes of length, and what has that length
abbrev pub sized : {A : Type 0} → (A → List ℕ) → A → List ℕ
sized f x = number 2 (length (f x)) ++ f x

-- type, version and path
abbrev pub qid_bytes : Qid → List ℕ
qid_bytes q = number 1 q.kind ++ number 4 q.version ++ number 8 q.path

-- what is told of a file, in the order of its bytes
abbrev pub stat_fields : StatFields → List ℕ
stat_fields s =
    number 2 s.kind ++ number 4 s.dev ++ qid_bytes s.qid ++ number 4 s.mode
    ++ number 4 s.atime ++ number 4 s.mtime ++ number 8 s.length
    ++ text s.name ++ text s.uid ++ text s.gid ++ text s.muid

-- a stat begins with its size, which counts the bytes after itself
abbrev pub stat_bytes : StatFields → List ℕ
stat_bytes = sized stat_fields

-- how many of these bytes are not those of the texts
abbrev pub stat_fixed : ℕ
stat_fixed = 49

-- how many bytes these are
abbrev pub stat_len : StatFields → ℕ
stat_len s = stat_fixed + length s.name + length s.uid + length s.gid + length s.muid

-- UTF-8 without NUL, of a length that two bytes hold
pub record FitsText (s : List ℕ) : Type 0 where
  pub short : length s < 2 ^ 16
  pub valid : IsTrue (is_text s)

-- at most sixteen texts
pub record FitsNames (names : List (List ℕ)) : Type 0 where
  pub few : length names ≤ elements_max
  pub each : AllByRecursion FitsText names

-- the texts fit, and two bytes hold the length of it all
pub record FitsStat (s : StatFields) : Type 0 where
  pub name : FitsText s.name
  pub uid : FitsText s.uid
  pub gid : FitsText s.gid
  pub muid : FitsText s.muid
  pub short : stat_len s < 2 ^ 16

-- each number of a qid is in the range of its field
pub record QidNumbersFit (q : Qid) : Type 0 where
  pub kind : q.kind < 2 ^ 8
  pub version : q.version < 2 ^ 32
  pub path : q.path < 2 ^ 64

-- and each number of a stat
pub record StatNumbersFit (s : StatFields) : Type 0 where
  pub kind : s.kind < 2 ^ 16
  pub dev : s.dev < 2 ^ 32
  pub qid : QidNumbersFit s.qid
  pub mode : s.mode < 2 ^ 32
  pub atime : s.atime < 2 ^ 32
  pub mtime : s.mtime < 2 ^ 32
  pub length : s.length < 2 ^ 64
