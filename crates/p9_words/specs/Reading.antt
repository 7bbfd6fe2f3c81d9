-- Words read from left to right: a word is a value and the text after it, or the fault of the
-- place where it was expected.
use Rattle.std.specs.Prelude.{◌≡◌, ℕ, zero, suc, ◌+◌, ◌-◌, ◌^◌, ◌==◌, ◌&&◌, ◌||◌, Bool, true, false}
use Rattle.std.specs.Prelude.{List, [], ◌∷◌, ◌++◌, length, take, drop, codes, nat_lt}
use Rattle.std.specs.Prelude.{Option, Some, None, Result, Ok, Err, if◌then◌else◌}
use Rattle.std.specs.List.{prefix_len, find}
use Rattle.std.specs.Result.{result_ok}
use Rattle.std.specs.Str.{bytes_eq}
use Rattle.std.specs.Str.Parse.{digits_value}
use Rattle.hex.specs.Hex.{decode_of}
use Rattle.p9_base.specs.declared.qid.Qid.{Qid}
use Rattle.p9_base.specs.Text.{is_text}
use Rattle.p9_wire.specs.Stat.{StatFields}
use Rattle.p9_wire.specs.Fields.{number, text, counted, qid_bytes, sized, stat_bytes, stat_len}
use Rattle.p9_words.specs.declared.class.Class.TheVariants as class
use Rattle.p9_words.specs.declared.error.Expected.{Expected}
use Rattle.p9_words.specs.declared.error.Expected.TheVariants as expected
use Rattle.p9_words.specs.declared.error.Fault.{Fault}
use Rattle.p9_base.specs.declared.stop.Stop.{Stop}
use Rattle.p9_base.specs.declared.stop.Stop.TheVariants.{Refused, NoMemory}
use Rattle.p9_words.specs.declared.form.Base.{Base}
use Rattle.p9_words.specs.declared.form.Base.TheVariants.{Octal, Decimal, Hexadecimal}
use Rattle.p9_words.specs.declared.form.Form.{Form}
use Rattle.p9_words.specs.declared.form.Form.TheVariants as form
use Rattle.p9_words.specs.declared.form.Item.{Item}
use Rattle.p9_words.specs.declared.form.Item.TheVariants as item
use Rattle.p9_words.specs.declared.form.Width.TheVariants.{U16}
use Rattle.p9_words.specs.declared.key.Key.{Key}
use Rattle.p9_words.specs.declared.key.Key.TheVariants as key
use Rattle.p9_words.specs.declared.verb.Verb.{Verb}
use Rattle.p9_words.specs.Class.{is_in, skip_blanks}
use Rattle.p9_words.specs.Form.{bytes_of, radix_of}
use Rattle.p9_words.specs.Key.{key_text}
use Rattle.p9_words.specs.Verb.{verb_text, verbs, type_of, fields_of}

-- goes on with the value, where there is one
infixl 10 ◌>>=◌
abbrev pub ◌>>=◌ : {A B : Type 0} → Result A Fault → (A → Result B Fault) → Result B Fault
(Ok x) >>= f = f x
(Err e) >>= f = Err e

-- what the code says of an error is the fault, unless an allocation failed
abbrev pub Fails : {Y : Type 0} → Stop Fault → Result Y Fault → Type 0
Fails NoMemory read = Unit {0}
Fails (Refused fault) read = read ≡ Err fault

-- what a function returned, seen by view, is what reading gives, unless an allocation failed
abbrev pub Gives : {X Y : Type 0} → (X → Y) → Result X (Stop Fault) → Result Y Fault → Type 0
Gives view (Ok x) read = read ≡ Ok (view x)
Gives view (Err e) read = Fails e read

-- a reader of words
abbrev pub Reader : Type 0 → Type 0
Reader A = List ℕ → Result (A × List ℕ) Fault

-- this was expected where these bytes are left
abbrev pub missing : {A : Type 0} → Expected → List ℕ → Result A Fault
missing expected text = Err (record { left = length text; expected = expected })

-- goes on with the value, or this was expected where these bytes are left
abbrev pub found : {A B : Type 0} → Option A → Expected → List ℕ → (A → Result B Fault) → Result
    B Fault
found None expected text f = missing expected text
found (Some x) expected text f = f x

-- what follows a mark, where the text begins with it
unfoldable pub behind : (mark text : List ℕ) → Option (List ℕ)
behind mark text =
    if bytes_eq (take (length mark) text) mark then Some (drop (length mark) text) else None

-- a mark, after blanks
unfoldable pub mark_at : (mark : List ℕ) → Expected → (text : List ℕ) → Result (List ℕ) Fault
mark_at mark expected text =
    let here = skip_blanks text in found (behind mark here) expected here Ok

-- the word at the front, up to the next blank
abbrev pub first_word : List ℕ → List ℕ
first_word text = take (prefix_len (is_in class.Filled) text) text

-- what follows it
abbrev pub behind_word : List ℕ → List ℕ
behind_word text = drop (prefix_len (is_in class.Filled) text) text

-- a word that is before a field, after blanks
unfoldable pub key_at : Key → List ℕ → Result (List ℕ) Fault
key_at key text =
    let here = skip_blanks text in
    if bytes_eq (first_word here) (key_text key) then Ok (behind_word here)
    else missing (expected.Key key) here

-- the word that begins a line
unfoldable pub verb_at : Reader Verb
verb_at text =
    let here = skip_blanks text in
    found (find (λ v. bytes_eq (verb_text v) (first_word here)) verbs) expected.Verb here
    λ v. Ok (v, behind_word here)

-- a number of so many digits at the front, at most so great
unfoldable pub digits_at : Base → (most digits : ℕ) → Reader ℕ
digits_at base most n text =
    let value = digits_value (radix_of base) (take n text) in
    if n == 0 || nat_lt most value then missing (expected.Number base most) text
    else Ok (value, drop n text)

-- a number in digits of a base, at most so great, after blanks
unfoldable pub number_at : Base → ℕ → Reader ℕ
number_at base most text =
    let here = skip_blanks text in
    digits_at base most (prefix_len (is_in (class.Digit base)) here) here

-- the bytes after a quote, up to the quote that ends them, where two quotes stand for one; and
-- whether a quote was just read
abbrev pub unquoted_from : Bool → (bytes : List ℕ) → Reader (List ℕ)
unquoted_from true bytes [] = Ok (bytes, [])
unquoted_from false bytes [] = missing expected.Quote []
unquoted_from true bytes (b ∷ text) =
    if b == 39 then unquoted_from false (bytes ++ b ∷ []) text else Ok (bytes, b ∷ text)
unquoted_from false bytes (b ∷ text) =
    if b == 39 then unquoted_from true bytes text else unquoted_from false (bytes ++ b ∷ []) text

-- the bytes that pairs of hexadecimal digits write, up to a quote
unfoldable pub pairs_at : Reader (List ℕ)
pairs_at text =
    let n = prefix_len (is_in class.Unquoted) text in
    found (result_ok (decode_of (take n text))) expected.Pairs text λ bytes.
    found (behind (codes "'") (drop n text)) expected.Quote (drop n text) λ rest.
    Ok (bytes, rest)

-- a bare word
unfoldable pub bare_at : Reader (List ℕ)
bare_at text =
    let n = prefix_len (is_in class.Bare) text in
    if n == 0 then missing expected.Word text else Ok (take n text, drop n text)

-- one or the other, by what the text begins with
abbrev pub where_behind : {A : Type 0} → Option (List ℕ) → Reader A → Reader A → Reader A
where_behind None there here text = here text
where_behind (Some rest) there here text = there rest

-- bytes in quotes, in hexadecimal digits or as a bare word, after blanks
unfoldable pub word_at : Reader (List ℕ)
word_at text =
    let here = skip_blanks text in
    where_behind (behind (codes "'") here) (unquoted_from false [])
    (where_behind (behind (codes "x'") here) pairs_at bare_at) here

-- a text that a message may have
abbrev pub is_short_text : List ℕ → Bool
is_short_text s = nat_lt (length s) (2 ^ 16) && is_text s

-- a text
unfoldable pub text_at : Reader (List ℕ)
text_at text =
    let here = skip_blanks text in
    word_at here >>= λ s. if is_short_text s.0 then Ok s else missing expected.Text here

-- a count, and so many bytes
unfoldable pub data_at : Reader (List ℕ)
data_at text =
    number_at Decimal (2 ^ 32 - 1) text >>= λ n.
    let here = skip_blanks n.1 in
    word_at here >>= λ s. if length s.0 == n.0 then Ok s else missing (expected.Count n.0) here

-- `(PATH VERS TYPE)`
unfoldable pub qid_at : Reader Qid
qid_at text =
    mark_at (codes "(") expected.Open text >>= λ inside.
    number_at Hexadecimal (2 ^ 64 - 1) inside >>= λ path.
    number_at Decimal (2 ^ 32 - 1) path.1 >>= λ version.
    number_at Hexadecimal (2 ^ 8 - 1) version.1 >>= λ kind.
    mark_at (codes ")") expected.Close kind.1 >>= λ rest.
    Ok (record { kind = kind.0; version = version.0; path = path.0 }, rest)

-- an index and a colon
unfoldable pub index_at : ℕ → List ℕ → Result (List ℕ) Fault
index_at i text =
    let here = skip_blanks text in
    number_at Decimal 16 here >>= λ n.
    if n.0 == i then mark_at (codes ":") expected.Colon n.1 else missing (expected.Index i) here

-- the bytes of what follows an index
unfoldable pub item_at : Item → Reader (List ℕ)
item_at item.Name rest = text_at rest >>= λ s. Ok (text s.0, s.1)
item_at item.Qid rest = qid_at rest >>= λ q. Ok (qid_bytes q.0, q.1)

-- what is read, put after other bytes
abbrev pub put_after : List ℕ → Result (List ℕ × List ℕ) Fault → Result (List ℕ × List ℕ) Fault
put_after bytes read = read >>= λ x. Ok (bytes ++ x.0, x.1)

-- the bytes of what follows this index
unfoldable pub indexed_at : Item → ℕ → Reader (List ℕ)
indexed_at item i text = index_at i text >>= λ rest. item_at item rest

-- the bytes of so many, from an index on, after those before them
abbrev pub items_from : Item → (bytes : List ℕ) (index count : ℕ) → Reader (List ℕ)
items_from item bytes i zero text = Ok (bytes, text)
items_from item bytes i (suc n) text =
    put_after bytes (indexed_at item i text) >>= λ x. items_from item x.0 (i + 1) n x.1

-- how many there are, and each
unfoldable pub several_at : Item → Reader (List ℕ)
several_at item text =
    number_at Decimal 16 text >>= λ n. items_from item (number 2 n.0) 0 n.0 n.1

-- a number after its word
unfoldable pub keyed_at : Key → Base → ℕ → Reader ℕ
keyed_at key base most text = key_at key text >>= λ rest. number_at base most rest

-- the fields of a stat, as dirread(2) prints them
unfoldable pub stat_fields_at : Reader StatFields
stat_fields_at text =
    text_at text >>= λ name.
    text_at name.1 >>= λ uid.
    text_at uid.1 >>= λ gid.
    text_at gid.1 >>= λ muid.
    key_at key.StatQid muid.1 >>= λ rest.
    qid_at rest >>= λ qid.
    keyed_at key.StatMode Octal (2 ^ 32 - 1) qid.1 >>= λ mode.
    keyed_at key.Atime Decimal (2 ^ 32 - 1) mode.1 >>= λ atime.
    keyed_at key.Mtime Decimal (2 ^ 32 - 1) atime.1 >>= λ mtime.
    keyed_at key.Length Decimal (2 ^ 64 - 1) mtime.1 >>= λ len.
    keyed_at key.Kind Decimal (2 ^ 16 - 1) len.1 >>= λ kind.
    keyed_at key.Dev Decimal (2 ^ 32 - 1) kind.1 >>= λ dev.
    Ok (
      record {
        kind = kind.0;
        dev = dev.0;
        qid = qid.0;
        mode = mode.0;
        atime = atime.0;
        mtime = mtime.0;
        length = len.0;
        name = name.0;
        uid = uid.0;
        gid = gid.0;
        muid = muid.0;
      },
      dev.1,
    )

-- a stat whose length two bytes hold
unfoldable pub stat_at : Reader (List ℕ)
stat_at text =
    let here = skip_blanks text in
    stat_fields_at here >>= λ s.
    if nat_lt (stat_len s.0) (2 ^ 16) then Ok (sized stat_bytes s.0, s.1)
    else missing expected.ShortStat here

-- the bytes of a field of this form
unfoldable pub value_at : Form → Reader (List ℕ)
value_at (form.Number width) rest =
    number_at Decimal (256 ^ bytes_of width - 1) rest >>= λ n. Ok (number (bytes_of width) n.0, n.1)
value_at form.Octal rest = number_at Octal (2 ^ 32 - 1) rest >>= λ n. Ok (number 4 n.0, n.1)
value_at form.Text rest = item_at item.Name rest
value_at form.Data rest = data_at rest >>= λ s. Ok (counted s.0, s.1)
value_at form.Qid rest = item_at item.Qid rest
value_at form.Names rest = several_at item.Name rest
value_at form.Qids rest = several_at item.Qid rest
value_at form.Stat rest = stat_at rest

-- a word and the field after it
unfoldable pub field_at : Key × Form → Reader (List ℕ)
field_at field text = key_at field.0 text >>= λ rest. value_at field.1 rest

-- the bytes of one field after the other, after those before them
abbrev pub fields_from : (bytes : List ℕ) → List (Key × Form) → Reader (List ℕ)
fields_from bytes [] text = Ok (bytes, text)
fields_from bytes (field ∷ fields) text =
    put_after bytes (field_at field text) >>= λ x. fields_from x.0 fields x.1

-- the tag
abbrev pub tag_field : Key × Form
tag_field = (key.Tag, form.Number U16)

-- the frame of a message of this type, of which these are the bytes after the type
abbrev pub framed : (kind : ℕ) (bytes : List ℕ) → List ℕ
framed kind bytes = number 4 (5 + length bytes) ++ (number 1 kind ++ bytes)

-- the frame, where the line ends here and four bytes hold its size
unfoldable pub frame_at : Verb → (bytes text : List ℕ) → Result (List ℕ) Fault
frame_at verb bytes text =
    let here = skip_blanks text in
    if nat_lt 0 (length here) then missing expected.End here
    else if nat_lt (5 + length bytes) (2 ^ 32) then Ok (framed (type_of verb) bytes)
    else missing expected.ShortMessage here

-- the frame of the message that a line says
unfoldable pub frame_of_words : List ℕ → Result (List ℕ) Fault
frame_of_words line =
    verb_at line >>= λ verb.
    field_at tag_field verb.1 >>= λ tag.
    fields_from tag.0 (fields_of verb.0) tag.1 >>= λ fields.
    frame_at verb.0 fields.0 fields.1
