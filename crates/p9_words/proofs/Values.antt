-- The value of a field that is printed is read back, and so is a field after its word.
use Rattle.std.proofs.Common.{◌≡◌, ℕ, ◌-◌, ◌<◌, ◌≤◌, ◌^◌, true, List}
use Rattle.std.proofs.Common.{[], ◌∷◌, ◌++◌, length, map, Ok, refl, sym, ap, ◌∙◌, append_assoc}
use Rattle.std.proofs.Common.{arith}
use Rattle.std.specs.Prelude.{codes}
use Rattle.std.specs.List.{flat_map, AllByRecursion}
use Rattle.std.proofs.lemmas.Bool.{lt-ltb}
use Rattle.std.proofs.lemmas.List.{append-nil}
use Rattle.p9_wire.specs.Fields.{text as text_spelling}
use Rattle.p9_wire.specs.Fields.{number, text, counted, several, sized, qid_bytes, stat_bytes}
use Rattle.p9_wire.specs.Fields.{stat_fields, FitsText, FitsNames, FitsStat, QidNumbersFit}
use Rattle.p9_wire.specs.Fields.{stat_len}
use Rattle.p9_wire.specs.Fields.{StatNumbersFit}
use Rattle.p9_wire.specs.Frame.{IsBytes}
use Rattle.p9_wire.specs.Stat.{StatFields}
use Rattle.p9_wire.proofs.Bytes.{IsBytes-back, IsBytes-front}
use Rattle.p9_words.specs.Class.{is_in, skip_blanks}
use Rattle.p9_words.specs.Stat.{stat_numbers}
use Rattle.p9_words.specs.declared.class.Class.TheVariants.{Digit}
use Rattle.p9_words.specs.Form.{bytes_of}
use Rattle.p9_words.specs.Key.{key_text}
use Rattle.p9_words.specs.Reading.{key_at, number_at, text_at, item_at, several_at, keyed_at}
use Rattle.p9_words.specs.Reading.{stat_fields_at, stat_at, value_at, field_at, fields_from}
use Rattle.p9_words.specs.Words.{number_words, octal_words, shown, name_words, qid_words, keyed}
use Rattle.p9_words.specs.Words.{items_words, several_words, stat_words, stat_numbers_words}
use Rattle.p9_words.specs.Words.{value_words, field_words, Value, NumberOf, OctalOf, TextOf, DataOf}
use Rattle.p9_words.specs.Words.{QidOf, NamesOf, QidsOf, StatOf}
use Rattle.p9_words.specs.declared.form.Base.TheVariants.{Octal, Decimal}
use Rattle.p9_words.specs.declared.form.Form.{Form}
use Rattle.p9_words.specs.declared.form.Form.TheVariants as form
use Rattle.p9_words.specs.declared.form.Item.{Item}
use Rattle.p9_words.specs.declared.form.Item.TheVariants as item
use Rattle.p9_words.specs.declared.form.Width.{Width}
use Rattle.p9_words.specs.declared.form.Width.TheVariants.{U8, U16, U32, U64}
use Rattle.p9_words.specs.declared.key.Key.{Key}
use Rattle.p9_words.specs.declared.key.Key.TheVariants as key
use Rattle.p9_words.proofs.Fronts.{ends, starts, prefix_len-ends, skip-none, skip-one}
use Rattle.p9_words.proofs.Numbers.{number-starts, octal-law}
use Rattle.p9_words.proofs.Quotes.{shown_text-law, shown-starts, name_text-law, name-starts}
use Rattle.p9_words.proofs.Fields.{ended-number, next-number, data-law, qid-law, qid-starts, IsRead}
use Rattle.p9_words.proofs.Fields.{items-law, items-ends}

-- the word of a field
key-at : (key : Key) (rest : List ℕ) → key_at key (32 ∷ (key_text key ++ 32 ∷ rest)) ≡ Ok (32 ∷
    rest)
unfolding key_at skip_blanks
key-at key.Tag rest = refl
key-at key.Msize rest = refl
key-at key.Version rest = refl
key-at key.Afid rest = refl
key-at key.Uname rest = refl
key-at key.Aname rest = refl
key-at key.Fid rest = refl
key-at key.Oldtag rest = refl
key-at key.Newfid rest = refl
key-at key.Nwname rest = refl
key-at key.Mode rest = refl
key-at key.Name rest = refl
key-at key.Perm rest = refl
key-at key.Offset rest = refl
key-at key.Count rest = refl
key-at key.Stat rest = refl
key-at key.Qid rest = refl
key-at key.Ename rest = refl
key-at key.Nwqid rest = refl
key-at key.Iounit rest = refl
key-at key.StatQid rest = refl
key-at key.StatMode rest = refl
key-at key.Atime rest = refl
key-at key.Mtime rest = refl
key-at key.Length rest = refl
key-at key.Kind rest = refl
key-at key.Dev rest = refl

-- the parts of a field
keyed-parts : (key : Key) (words rest : List ℕ)
    → keyed key words ++ rest ≡ 32 ∷ (key_text key ++ 32 ∷ (words ++ rest))
keyed-parts key words rest = simp append_assoc

-- the word of a field that is printed
pub key-law : (key : Key) (words rest : List ℕ)
    → key_at key (keyed key words ++ rest) ≡ Ok (32 ∷ (words ++ rest))
key-law key words rest = ap (key_at key) (keyed-parts key words rest) ∙ key-at key (words ++ rest)

-- a number after its word
keyed_number-law : (key : Key) (n most : ℕ) (rest : List ℕ) → n < 2 ^ 64 → n ≤ most
    → ends rest ≡ true
    → keyed_at key Decimal most (keyed key (number_words Decimal n) ++ rest) ≡ Ok (n, rest)
unfolding keyed_at
keyed_number-law key n most rest small fits e =
    rw (key-law key (number_words Decimal n) rest, next-number Decimal n most rest small fits e)
    refl

-- a blank and permissions and flags
next-octal : (n most : ℕ) (rest : List ℕ) → n < 2 ^ 64 → n ≤ most → ends rest ≡ true
    → number_at Octal most (32 ∷ (octal_words n ++ rest)) ≡ Ok (n, rest)
next-octal n most rest small fits e =
    octal-law n most (32 ∷ (octal_words n ++ rest)) rest (skip-one (octal_words n ++ rest) refl)
    small
    (prefix_len-ends (is_in (Digit Octal)) rest refl refl e) fits

-- permissions and flags after their word
keyed_octal-law : (key : Key) (n most : ℕ) (rest : List ℕ) → n < 2 ^ 64 → n ≤ most
    → ends rest ≡ true → keyed_at key Octal most (keyed key (octal_words n) ++ rest) ≡ Ok (n, rest)
unfolding keyed_at
keyed_octal-law key n most rest small fits e =
    rw (key-law key (octal_words n) rest, next-octal n most rest small fits e) refl

-- names
name-read : IsRead item.Name name_words text (λ s. FitsText s × IsBytes s)
unfolding item_at
name-read s rest good e =
    rw (name_text-law s (name_words s ++ rest) rest (skip-none _ (name-starts s rest)) good.1 e
    good.0)
    refl

-- qids
qid-read : IsRead item.Qid qid_words qid_bytes QidNumbersFit
unfolding item_at
qid-read q rest good e =
    rw (qid-law q (qid_words q ++ rest) rest (skip-none _ (qid-starts q rest)) good) refl

-- how many there are, and each
several-law : {A : Type 0} (item : Item) (f g : A → List ℕ) (Good : A → Type 0)
    → IsRead item f g Good → (xs : List A) (text rest : List ℕ)
    → skip_blanks text ≡ several_words f xs ++ rest → length xs ≤ 16 → AllByRecursion Good xs
    → ends rest ≡ true → several_at item text ≡ Ok (several g xs, rest)
unfolding several_at
several-law item f g Good each xs text rest here few all e =
    let others = items_words f 0 xs ++ rest in
    let parts : skip_blanks text ≡ number_words Decimal (length xs) ++ others =
    here ∙ append_assoc (number_words Decimal (length xs)) (items_words f 0 xs) rest in
    rw (ended-number Decimal (length xs) 16 text others parts (omega arith) few
    (items-ends f 0 xs rest e))
    (items-law item f g Good each xs (number 2 (length xs)) 0 rest (omega (arith, few)) all e)

-- names that fit, of bytes
names-good : (names : List (List ℕ)) → AllByRecursion FitsText names → IsBytes (flat_map text names)
    → AllByRecursion (λ s. FitsText s × IsBytes s) names
names-good [] fits bytes = tt
names-good (n ∷ names) fits bytes = (
  (
    fits.0,
    IsBytes-back (number 2 (length n)) n
        (IsBytes-front (text n) (flat_map text names) bytes),
  ),
  names-good names fits.1 (IsBytes-back (text n) (flat_map text names) bytes),
)

-- the texts of a stat, and what follows them
stat-texts : (a b c d n rest : List ℕ)
    → ((a ++ codes " " ++ b ++ codes " " ++ c ++ codes " " ++ d) ++ n) ++ rest
    ≡ a ++ 32 ∷ (b ++ 32 ∷ (c ++ 32 ∷ (d ++ (n ++ rest))))
stat-texts a b c d n rest = simp append_assoc

-- its numbers, and what follows them
stat-numbers : (a b c d e f g rest : List ℕ)
    → (a ++ b ++ c ++ d ++ e ++ f ++ g) ++ rest ≡ a ++ (b ++ (c ++ (d ++ (e ++ (f ++ (g ++
    rest))))))
stat-numbers a b c d e f g rest = simp append_assoc

-- each text of a stat is of bytes
record StatBytes (s : StatFields) : Type 0 where
  name : IsBytes s.name
  uid : IsBytes s.uid
  gid : IsBytes s.gid
  muid : IsBytes s.muid

-- as those of its spelling are
stat-bytes : (s : StatFields) → IsBytes (sized stat_bytes s) → StatBytes s
stat-bytes s bytes =
    let b1 = IsBytes-back (number 2 (length (stat_bytes s))) (stat_bytes s) bytes in
    let b2 = IsBytes-back (number 2 (length (stat_fields s))) (stat_fields s) b1 in
    let f1 = stat_numbers s ++ text s.name in
    let f2 = f1 ++ text s.uid in
    let f3 = f2 ++ text s.gid in
    let b3 = IsBytes-front f3 (text s.muid) b2 in
    let b4 = IsBytes-front f2 (text s.gid) b3 in
    let b5 = IsBytes-front f1 (text s.uid) b4 in
    record {
      name = IsBytes-back (number 2 (length s.name)) s.name
          (IsBytes-back (stat_numbers s) (text s.name) b5);
      uid = IsBytes-back (number 2 (length s.uid)) s.uid (IsBytes-back f1 (text s.uid) b4);
      gid = IsBytes-back (number 2 (length s.gid)) s.gid (IsBytes-back f2 (text s.gid) b3);
      muid = IsBytes-back (number 2 (length s.muid)) s.muid (IsBytes-back f3 (text s.muid) b2);
    }

-- a text after a blank
next-text : (s rest : List ℕ) → IsBytes s → ends rest ≡ true → FitsText s
    → text_at (32 ∷ (shown s ++ rest)) ≡ Ok (s, rest)
next-text s rest bytes e fits =
    shown_text-law s (32 ∷ (shown s ++ rest)) rest (skip-one _ (shown-starts s rest)) bytes e fits

-- the fields of a stat
stat_fields-law : (s : StatFields) (text rest : List ℕ) → skip_blanks text ≡ stat_words s ++ rest
    → FitsStat s → StatNumbersFit s → StatBytes s → ends rest ≡ true
    → stat_fields_at text ≡ Ok (s, rest)
unfolding stat_fields_at
stat_fields-law s text rest here fits numbers bytes e =
    let n = numbers in
    let r7 = keyed key.Dev (number_words Decimal s.dev) ++ rest in
    let r6 = keyed key.Kind (number_words Decimal s.kind) ++ r7 in
    let r5 = keyed key.Length (number_words Decimal s.length) ++ r6 in
    let r4 = keyed key.Mtime (number_words Decimal s.mtime) ++ r5 in
    let r3 = keyed key.Atime (number_words Decimal s.atime) ++ r4 in
    let r2 = keyed key.StatMode (octal_words s.mode) ++ r3 in
    let r1 = keyed key.StatQid (qid_words s.qid) ++ r2 in
    let t4 = shown s.muid ++ r1 in
    let t3 = shown s.gid ++ 32 ∷ t4 in
    let t2 = shown s.uid ++ 32 ∷ t3 in
    let parts : skip_blanks text ≡ shown s.name ++ 32 ∷ t2 =
    here
    ∙ stat-texts (shown s.name) (shown s.uid) (shown s.gid) (shown s.muid) (stat_numbers_words
    s) rest
    ∙ ap (λ r. shown s.name ++ 32 ∷ (shown s.uid ++ 32 ∷ (shown s.gid ++ 32 ∷ (shown s.muid ++ r))))
    (stat-numbers (keyed key.StatQid (qid_words s.qid)) (keyed key.StatMode (octal_words s.mode))
    (keyed key.Atime (number_words Decimal s.atime)) (keyed key.Mtime (number_words Decimal
    s.mtime))
    (keyed key.Length (number_words Decimal s.length)) (keyed key.Kind (number_words Decimal
    s.kind))
    (keyed key.Dev (number_words Decimal s.dev)) rest) in
    rw (
      shown_text-law s.name text (32 ∷ t2) parts bytes.name refl fits.name,
      next-text s.uid (32 ∷ t3) bytes.uid refl fits.uid,
      next-text s.gid (32 ∷ t4) bytes.gid refl fits.gid,
      next-text s.muid r1 bytes.muid refl fits.muid,
      key-law key.StatQid (qid_words s.qid) r2,
      qid-law s.qid (32 ∷ (qid_words s.qid ++ r2)) r2 (skip-one _ (qid-starts s.qid r2)) n.qid,
      keyed_octal-law key.StatMode s.mode 4294967295 r3 (omega (arith, n.mode))
          (omega (arith, n.mode)) refl,
      keyed_number-law key.Atime s.atime 4294967295 r4 (omega (arith, n.atime))
          (omega (arith, n.atime)) refl,
      keyed_number-law key.Mtime s.mtime 4294967295 r5 (omega (arith, n.mtime))
          (omega (arith, n.mtime)) refl,
      keyed_number-law key.Length s.length 18446744073709551615 r6 (omega (arith, n.length))
          (omega (arith, n.length)) refl,
      keyed_number-law key.Kind s.kind 65535 r7 (omega (arith, n.kind)) (omega (arith, n.kind))
          refl,
      keyed_number-law key.Dev s.dev 4294967295 rest (omega (arith, n.dev)) (omega (arith, n.dev))
          e,
    ) refl

-- a stat begins with no blank
stat-starts : (s : StatFields) (rest : List ℕ) → starts (stat_words s ++ rest) ≡ true
stat-starts s rest =
    ap starts
    (stat-texts (shown s.name) (shown s.uid) (shown s.gid) (shown s.muid) (stat_numbers_words s)
    rest)
    ∙ shown-starts s.name _

-- a stat that is printed is read back
stat-law : (s : StatFields) (text rest : List ℕ) → skip_blanks text ≡ stat_words s ++ rest
    → FitsStat s → StatNumbersFit s → StatBytes s → ends rest ≡ true
    → stat_at text ≡ Ok (sized stat_bytes s, rest)
unfolding stat_at
stat-law s text rest here fits numbers bytes e =
    rw (
      here,
      stat_fields-law s (stat_words s ++ rest) rest (skip-none _ (stat-starts s rest)) fits numbers
          bytes e,
      lt-ltb (stat_len s) 65536 fits.short,
    ) refl

-- what a field of a message holds
abbrev pub form_of : Value → Form
form_of (NumberOf width n) = form.Number width
form_of (OctalOf n) = form.Octal
form_of (TextOf s) = form.Text
form_of (DataOf s) = form.Data
form_of (QidOf q) = form.Qid
form_of (NamesOf names) = form.Names
form_of (QidsOf qids) = form.Qids
form_of (StatOf s) = form.Stat

-- the bytes of a frame that have the value
abbrev pub value_bytes : Value → List ℕ
value_bytes (NumberOf width n) = number (bytes_of width) n
value_bytes (OctalOf n) = number 4 n
value_bytes (TextOf s) = text s
value_bytes (DataOf s) = counted s
value_bytes (QidOf q) = qid_bytes q
value_bytes (NamesOf names) = several text names
value_bytes (QidsOf qids) = several qid_bytes qids
value_bytes (StatOf s) = sized stat_bytes s

-- which values have such bytes
abbrev pub Fits : Value → Type 0
Fits (NumberOf width n) = n < 256 ^ bytes_of width
Fits (OctalOf n) = n < 2 ^ 32
Fits (TextOf s) = FitsText s
Fits (DataOf s) = length s < 2 ^ 32
Fits (QidOf q) = QidNumbersFit q
Fits (NamesOf names) = FitsNames names
Fits (QidsOf qids) = (length qids ≤ 16) × AllByRecursion QidNumbersFit qids
Fits (StatOf s) = FitsStat s × StatNumbersFit s

-- 64 bits hold a number of any width
width-small : (width : Width) (n : ℕ) → n < 256 ^ bytes_of width → n < 2 ^ 64
width-small U8 n lt = omega arith
width-small U16 n lt = omega arith
width-small U32 n lt = omega arith
width-small U64 n lt = lt

-- the greatest number of a width is no less
width-most : (width : Width) (n : ℕ) → n < 256 ^ bytes_of width → n ≤ 256 ^ bytes_of width - 1
width-most U8 n lt = omega arith
width-most U16 n lt = omega arith
width-most U32 n lt = omega arith
width-most U64 n lt = omega arith

-- what is printed of a value begins with no blank
value-starts : (v : Value) (rest : List ℕ) → Fits v → starts (value_words v ++ rest) ≡ true
unfolding value_words
value-starts (NumberOf width n) rest fits = number-starts Decimal n rest (width-small width n fits)
value-starts (OctalOf n) rest fits = refl
value-starts (TextOf s) rest fits = shown-starts s rest
value-starts (DataOf s) rest fits =
    let count = number_words Decimal (length s) in
    ap starts
    (append_assoc (count ++ codes " ") (shown s) rest
    ∙ append_assoc count (codes " ") (shown s ++ rest))
    ∙ number-starts Decimal (length s) (codes " " ++ (shown s ++ rest)) (omega arith)
value-starts (QidOf q) rest fits = qid-starts q rest
value-starts (NamesOf names) rest fits =
    ap starts (append_assoc (number_words Decimal (length names)) (items_words name_words 0
    names) rest)
    ∙ number-starts Decimal (length names) _ (omega (arith, fits.few))
value-starts (QidsOf qids) rest fits =
    ap starts (append_assoc (number_words Decimal (length qids)) (items_words qid_words 0 qids)
    rest)
    ∙ number-starts Decimal (length qids) _ (omega (arith, fits.0))
value-starts (StatOf s) rest fits = stat-starts s rest

-- and is read back
value-law : (v : Value) (text rest : List ℕ) → skip_blanks text ≡ value_words v ++ rest → Fits v
    → IsBytes (value_bytes v) → ends rest ≡ true
    → value_at (form_of v) text ≡ Ok (value_bytes v, rest)
unfolding value_words value_at item_at
value-law (NumberOf width n) text rest here fits bytes e =
    rw (ended-number Decimal n (256 ^ bytes_of width - 1) text rest here (width-small width n fits)
    (width-most width n fits) e) refl
value-law (OctalOf n) text rest here fits bytes e =
    rw (octal-law n 4294967295 text rest here (omega arith)
    (prefix_len-ends (is_in (Digit Octal)) rest refl refl e) (omega arith)) refl
value-law (TextOf s) text rest here fits bytes e =
    rw (shown_text-law s text rest here (IsBytes-back (number 2 (length s)) s bytes) e fits) refl
value-law (DataOf s) text rest here fits bytes e =
    rw (data-law s text rest here (IsBytes-back (number 4 (length s)) s bytes) fits e) refl
value-law (QidOf q) text rest here fits bytes e = rw (qid-law q text rest here fits) refl
value-law (NamesOf names) text rest here fits bytes e =
    several-law item.Name name_words text_spelling (λ s. FitsText s × IsBytes s) name-read names
    text
    rest here fits.few
    (names-good names fits.each
    (IsBytes-back (number 2 (length names)) (flat_map text_spelling names) bytes)) e
value-law (QidsOf qids) text rest here fits bytes e =
    several-law item.Qid qid_words qid_bytes QidNumbersFit qid-read qids text rest here fits.0
    fits.1
    e
value-law (StatOf s) text rest here fits bytes e =
    stat-law s text rest here fits.0 fits.1 (stat-bytes s bytes) e

-- a field that is printed is read back
pub field-law : (key : Key) (v : Value) (rest : List ℕ) → Fits v → IsBytes (value_bytes v)
    → ends rest ≡ true → field_at (key, form_of v) (field_words (key, v) ++ rest)
    ≡ Ok (value_bytes v, rest)
unfolding field_at
field-law key v rest fits bytes e =
    rw (key-law key (value_words v) rest)
    (value-law v (32 ∷ (value_words v ++ rest)) rest (skip-one _ (value-starts v rest fits))
    fits bytes
    e)

-- fields may end a word
pub fields-ends : (fields : List (Key × Value)) (rest : List ℕ) → ends rest ≡ true
    → ends (flat_map field_words fields ++ rest) ≡ true
fields-ends [] rest e = e
fields-ends (f ∷ fields) rest e = refl

-- what the fields are, without their values
abbrev pub forms : List (Key × Value) → List (Key × Form)
forms fields = map (λ f. (f.0, form_of f.1)) fields

-- the bytes of fields
abbrev pub fields_bytes : List (Key × Value) → List ℕ
fields_bytes fields = flat_map (λ f. value_bytes f.1) fields

-- each has bytes
abbrev pub FieldsFit : List (Key × Value) → Type 0
FieldsFit fields = AllByRecursion (λ f. Fits f.1) fields

-- one field, and those after it
fields-step : (field : Key × Form) (bytes : List ℕ) (fields : List (Key × Form))
    (text x rest : List ℕ) → field_at field text ≡ Ok (x, rest)
    → fields_from bytes (field ∷ fields) text ≡ fields_from (bytes ++ x) fields rest
fields-step field bytes fields text x rest read = rw read refl

-- fields that are printed are read back
pub fields-law : (fields : List (Key × Value)) (bytes rest : List ℕ) → FieldsFit fields
    → IsBytes (fields_bytes fields) → ends rest ≡ true
    → fields_from bytes (forms fields) (flat_map field_words fields ++ rest)
    ≡ Ok (bytes ++ fields_bytes fields, rest)
fields-law [] bytes rest fits are e = ap (λ b. Ok (b, rest)) (sym (append-nil bytes))
fields-law (f ∷ fields) bytes rest fits are e =
    let others = flat_map field_words fields ++ rest in
    let one : field_at (f.0, form_of f.1) (flat_map field_words (f ∷ fields) ++ rest)
    ≡ Ok (value_bytes f.1, others) =
    ap (field_at (f.0, form_of f.1)) (append_assoc (field_words f) (flat_map field_words fields)
    rest)
    ∙ field-law f.0 f.1 others fits.0
    (IsBytes-front (value_bytes f.1) (fields_bytes fields) are) (fields-ends fields rest e) in
    fields-step (f.0, form_of f.1) bytes (forms fields)
    (flat_map field_words (f ∷ fields) ++ rest) (value_bytes f.1) others one
    ∙ fields-law fields (bytes ++ value_bytes f.1) rest fits.1
    (IsBytes-back (value_bytes f.1) (fields_bytes fields) are) e
    ∙ ap (λ b. Ok (b, rest)) (append_assoc bytes (value_bytes f.1) (fields_bytes fields))
