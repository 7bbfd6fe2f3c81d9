-- Fields read from left to right: a field is a value and the bytes after it.
use Rattle.std.specs.Prelude.{◌≡◌, ℕ, zero, suc, ◌==◌, List, [], ◌∷◌, length, take, drop, Option}
use Rattle.std.specs.Prelude.{Some, None, nat_lt, if◌then◌else◌}
use Rattle.byteorder.specs.Endian.{little_number}
use Rattle.p9_base.specs.declared.qid.Qid.{Qid}
use Rattle.p9_base.specs.Text.{is_text}
use Rattle.p9_fields.specs.Fields.{elements_max}
use Rattle.p9_fields.specs.declared.fields.StatNumbers.{StatNumbers}
use Rattle.p9_fields.specs.Stat.{StatFields}

-- goes on with the value, where there is one
infixl 10 ◌and_then◌
abbrev pub ◌and_then◌ : {A B : Type 0} → Option A → (A → Option B) → Option B
None and_then f = None
(Some x) and_then f = f x

-- what a function returned, seen by view, is what reading gives
abbrev pub Gives : {X Y : Type 0} → (X → Y) → Option X → Option Y → Type 0
Gives view None read = read ≡ None
Gives view (Some x) read = read ≡ Some (view x)

-- a reader of fields
abbrev pub Reader : Type 0 → Type 0
Reader A = List ℕ → Option (A × List ℕ)

-- one field after another
infixl 20 ◌then◌
abbrev pub ◌then◌ : {A B : Type 0} → Reader A → Reader B → Reader (A × B)
(r then s) bytes = r bytes and_then λ a. s a.1 and_then λ b. Some ((a.0, b.0), b.1)

-- what is made of a field
abbrev pub mapped : {A B : Type 0} → (A → B) → Reader A → Reader B
mapped f r bytes = r bytes and_then λ a. Some (f a.0, a.1)

-- Functions of several fields, which are read as pairs of those before the last one, and the last.

abbrev pub of_two : {A B Z : Type 0} → (A → B → Z) → A × B → Z
of_two f x = f x.0 x.1

abbrev pub of_three : {A B C Z : Type 0} → (A → B → C → Z) → (A × B) × C → Z
of_three f x = of_two f x.0 x.1

abbrev pub of_four : {A B C D Z : Type 0} → (A → B → C → D → Z) → ((A × B) × C) × D → Z
of_four f x = of_three f x.0 x.1

-- no field
abbrev pub nothing_at : Reader (Unit {0})
nothing_at bytes = Some (tt, bytes)

-- a number in so many bytes
abbrev pub number_at : ℕ → Reader ℕ
number_at n bytes =
    if nat_lt (length bytes) n then None else Some (little_number n bytes, drop n bytes)

-- so many bytes
abbrev pub bytes_at : ℕ → Reader (List ℕ)
bytes_at n bytes = if nat_lt (length bytes) n then None else Some (take n bytes, drop n bytes)

-- a length in two bytes, and so many
abbrev pub sized_bytes_at : Reader (List ℕ)
sized_bytes_at bytes = number_at 2 bytes and_then λ n. bytes_at n.0 n.1

-- a text after its length
unfoldable pub text_at : Reader (List ℕ)
text_at bytes = sized_bytes_at bytes and_then λ s. if is_text s.0 then Some s else None

-- a count in four bytes, and so many
unfoldable pub counted_at : Reader (List ℕ)
counted_at bytes = number_at 4 bytes and_then λ n. bytes_at n.0 n.1

-- so many, one after another
unfoldable pub times : {A : Type 0} → Reader A → ℕ → Reader (List A)
times r zero bytes = Some ([], bytes)
times r (suc n) bytes = r bytes and_then λ x. times r n x.1 and_then λ xs. Some (x.0 ∷ xs.0, xs.1)

-- a number of at most sixteen, and so many
unfoldable pub several_at : {A : Type 0} → Reader A → Reader (List A)
several_at r bytes = number_at 2 bytes and_then λ n. if nat_lt elements_max n.0 then None else times r n.0 n.1

-- a length, and what takes up all of so many bytes
unfoldable pub sized_at : {A : Type 0} → Reader A → Reader A
sized_at r bytes =
    sized_bytes_at bytes and_then λ s. r s.0 and_then λ x.
    if length x.1 == 0 then Some (x.0, s.1) else None

-- type, version and path
unfoldable pub qid_at : Reader Qid
qid_at =
    mapped (of_three (λ kind version path. record { kind = kind; version = version; path = path }))
    (number_at 1 then number_at 4 then number_at 8)

-- what is told of a file, of its fields in the order of their bytes
abbrev pub stat_of_fields : (kind dev : ℕ) → Qid → (mode atime mtime size : ℕ)
    → (name uid gid muid : List ℕ) → StatFields
stat_of_fields kind dev qid mode atime mtime size name uid gid muid = record {
  kind = kind;
  dev = dev;
  qid = qid;
  mode = mode;
  atime = atime;
  mtime = mtime;
  length = size;
  name = name;
  uid = uid;
  gid = gid;
  muid = muid;
}

-- the numbers of a stat: kind, dev, qid, mode, atime, mtime and length
abbrev pub StatNumbersOf : Type 0
StatNumbersOf = (((((ℕ × ℕ) × Qid) × ℕ) × ℕ) × ℕ) × ℕ

unfoldable pub stat_numbers_at : Reader StatNumbersOf
stat_numbers_at =
    number_at 2 then number_at 4 then qid_at then number_at 4 then number_at 4 then number_at 4
    then number_at 8

-- the numbers that were read
abbrev pub numbers_view : StatNumbers → StatNumbersOf
numbers_view n = ((((((n.kind, n.dev), n.qid), n.mode), n.atime), n.mtime), n.length)

-- its fields are eleven: four, twice three more, and one more
unfoldable pub stat_fields_at : Reader StatFields
stat_fields_at =
    mapped (of_two (of_four (of_four (of_four stat_of_fields))))
    (stat_numbers_at then text_at then text_at then text_at then text_at)

-- as a message holds a stat: a length, and the stat's own size and fields, which take it up
abbrev pub stat_at : Reader StatFields
stat_at = sized_at (sized_at stat_fields_at)

-- type, tag and body of the bytes, where these are all of a frame
unfoldable pub header_at : List ℕ → Option (ℕ × ℕ × List ℕ)
header_at bytes =
    number_at 4 bytes and_then λ size.
    if size.0 == length bytes
    then ((number_at 1 then number_at 2) size.1 and_then λ x. Some (x.0.0, x.0.1, x.1)) else None
