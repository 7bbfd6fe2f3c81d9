-- The words of messages: what is printed of each field, and of a message.
use Rattle.std.specs.Prelude.{ℕ, ◌+◌, ◌==◌, ◌&&◌, Bool, false, not, List, [], ◌∷◌, ◌++◌}
use Rattle.std.specs.Prelude.{length, codes, if◌then◌else◌}
use Rattle.std.specs.Fmt.{digits}
use Rattle.std.specs.List.{flat_map, list_all}
use Rattle.std.specs.Str.{is_utf8}
use Rattle.hex.specs.Hex.{encode_lower}
use Rattle.p9_base.specs.declared.qid.Qid.{Qid}
use Rattle.p9_wire.specs.Stat.{StatFields}
use Rattle.p9_wire.specs.Message.{TMessage, Tversion, Tauth, Tattach, Tflush, Twalk}
use Rattle.p9_wire.specs.Message.{Topen, Tcreate, Tread, Twrite, Tclunk, Tremove, Tstat, Twstat}
use Rattle.p9_wire.specs.Message.{RMessage, Rversion, Rattach, Rerror, Rflush, Rwalk, Ropen}
use Rattle.p9_wire.specs.Message.{Rcreate, Rread, Rwrite, Rclunk, Rremove, Rstat, Rwstat}
use Rattle.p9_shown.specs.Text.{is_visible}
use Rattle.p9_words.specs.declared.form.Base.{Base}
use Rattle.p9_words.specs.declared.form.Base.TheVariants.{Octal, Decimal, Hexadecimal}
use Rattle.p9_words.specs.declared.form.Width.{Width}
use Rattle.p9_words.specs.declared.form.Width.TheVariants.{U8, U16, U32, U64}
use Rattle.p9_words.specs.declared.key.Key.{Key}
use Rattle.p9_words.specs.declared.key.Key.TheVariants as key
use Rattle.p9_words.specs.declared.verb.Verb.{Verb}
use Rattle.p9_words.specs.declared.verb.Verb.TheVariants as verb
use Rattle.p9_words.specs.Class.{is_bare}
use Rattle.p9_words.specs.Form.{radix_of}
use Rattle.p9_words.specs.Key.{key_text}
use Rattle.p9_words.specs.Verb.{verb_text}

-- the value of a field
pub data Value : Type 0 where
  NumberOf : (width : Width) (n : ℕ) → Value
  OctalOf : (n : ℕ) → Value
  TextOf : (s : List ℕ) → Value
  DataOf : (s : List ℕ) → Value
  QidOf : (qid : Qid) → Value
  NamesOf : (names : List (List ℕ)) → Value
  QidsOf : (qids : List Qid) → Value
  StatOf : (stat : StatFields) → Value

-- the digits of a number
abbrev pub number_words : Base → ℕ → List ℕ
number_words base n = digits (radix_of base) false n

-- permissions and flags, in octal digits after a 0
abbrev pub octal_words : ℕ → List ℕ
octal_words n = codes "0" ++ number_words Octal n

-- bytes that are printed as a text: one whose characters are seen
abbrev pub is_printable : List ℕ → Bool
is_printable s = is_utf8 s && is_visible s

-- a byte between quotes: a quote is there twice
abbrev pub between_quotes : ℕ → List ℕ
between_quotes b = if b == 39 then 39 ∷ 39 ∷ [] else b ∷ []

-- a text in quotes
abbrev pub quoted : List ℕ → List ℕ
quoted s = codes "'" ++ flat_map between_quotes s ++ codes "'"

-- bytes as pairs of hexadecimal digits
abbrev pub paired : List ℕ → List ℕ
paired s = codes "x'" ++ encode_lower s ++ codes "'"

-- bytes as a text where they are one whose characters are seen, else in hexadecimal digits
unfoldable pub shown : List ℕ → List ℕ
shown s = if is_printable s then quoted s else paired s

-- a name is a bare word where it may be one
unfoldable pub name_words : List ℕ → List ℕ
name_words s = if not (length s == 0) && list_all is_bare s then s else shown s

-- a count, and so many bytes
abbrev pub data_words : List ℕ → List ℕ
data_words s = number_words Decimal (length s) ++ codes " " ++ shown s

-- path and type in hexadecimal digits, and the version between them
unfoldable pub qid_words : Qid → List ℕ
qid_words q =
    codes "(" ++ number_words Hexadecimal q.path ++ codes " " ++ number_words Decimal q.version
    ++ codes " " ++ number_words Hexadecimal q.kind ++ codes ")"

-- an index, a colon, and what follows it
abbrev pub item_words : {A : Type 0} → (A → List ℕ) → ℕ → A → List ℕ
item_words f i x = codes " " ++ number_words Decimal i ++ codes ":" ++ f x

-- each after its index
abbrev pub items_words : {A : Type 0} → (A → List ℕ) → ℕ → List A → List ℕ
items_words f i [] = []
items_words f i (x ∷ xs) = item_words f i x ++ items_words f (i + 1) xs

-- how many there are, and each
abbrev pub several_words : {A : Type 0} → (A → List ℕ) → List A → List ℕ
several_words f xs = number_words Decimal (length xs) ++ items_words f 0 xs

-- a word and what follows it
abbrev pub keyed : Key → List ℕ → List ℕ
keyed key words = codes " " ++ key_text key ++ codes " " ++ words

-- the texts of a stat
abbrev pub stat_texts_words : StatFields → List ℕ
stat_texts_words s =
    shown s.name ++ codes " " ++ shown s.uid ++ codes " " ++ shown s.gid ++ codes " "
    ++ shown s.muid

-- and its numbers, each after its word
abbrev pub stat_numbers_words : StatFields → List ℕ
stat_numbers_words s =
    keyed key.StatQid (qid_words s.qid) ++ keyed key.StatMode (octal_words s.mode)
    ++ keyed key.Atime (number_words Decimal s.atime)
    ++ keyed key.Mtime (number_words Decimal s.mtime)
    ++ keyed key.Length (number_words Decimal s.length)
    ++ keyed key.Kind (number_words Decimal s.kind)
    ++ keyed key.Dev (number_words Decimal s.dev)

-- a stat, as dirread(2) prints it
abbrev pub stat_words : StatFields → List ℕ
stat_words s = stat_texts_words s ++ stat_numbers_words s

-- the value of a field in words
unfoldable pub value_words : Value → List ℕ
value_words (NumberOf width n) = number_words Decimal n
value_words (OctalOf n) = octal_words n
value_words (TextOf s) = shown s
value_words (DataOf s) = data_words s
value_words (QidOf q) = qid_words q
value_words (NamesOf names) = several_words name_words names
value_words (QidsOf qids) = several_words qid_words qids
value_words (StatOf s) = stat_words s

-- a field after its word
abbrev pub field_words : Key × Value → List ℕ
field_words field = keyed field.0 (value_words field.1)

-- the line of a message: its name, its tag and its fields
unfoldable pub line_words : Verb → ℕ → List (Key × Value) → List ℕ
line_words verb tag fields =
    verb_text verb ++ flat_map field_words ((key.Tag, NumberOf U16 tag) ∷ fields)

-- the name of a request
abbrev pub t_verb : TMessage → Verb
t_verb (Tversion msize version) = verb.Tversion
t_verb (Tauth afid uname aname) = verb.Tauth
t_verb (Tattach fid afid uname aname) = verb.Tattach
t_verb (Tflush oldtag) = verb.Tflush
t_verb (Twalk fid newfid names) = verb.Twalk
t_verb (Topen fid mode) = verb.Topen
t_verb (Tcreate fid name perm mode) = verb.Tcreate
t_verb (Tread fid offset count) = verb.Tread
t_verb (Twrite fid offset bytes) = verb.Twrite
t_verb (Tclunk fid) = verb.Tclunk
t_verb (Tremove fid) = verb.Tremove
t_verb (Tstat fid) = verb.Tstat
t_verb (Twstat fid stat) = verb.Twstat

-- its fields, in order
abbrev pub t_fields : TMessage → List (Key × Value)
t_fields (Tversion msize version) =
    (key.Msize, NumberOf U32 msize) ∷ (key.Version, TextOf version) ∷ []
t_fields (Tauth afid uname aname) =
    (key.Afid, NumberOf U32 afid) ∷ (key.Uname, TextOf uname) ∷ (key.Aname, TextOf aname) ∷ []
t_fields (Tattach fid afid uname aname) =
    (key.Fid, NumberOf U32 fid) ∷ (key.Afid, NumberOf U32 afid) ∷ (key.Uname, TextOf uname)
    ∷ (key.Aname, TextOf aname) ∷ []
t_fields (Tflush oldtag) = (key.Oldtag, NumberOf U16 oldtag) ∷ []
t_fields (Twalk fid newfid names) =
    (key.Fid, NumberOf U32 fid) ∷ (key.Newfid, NumberOf U32 newfid)
    ∷ (key.Nwname, NamesOf names) ∷ []
t_fields (Topen fid mode) = (key.Fid, NumberOf U32 fid) ∷ (key.Mode, NumberOf U8 mode) ∷ []
t_fields (Tcreate fid name perm mode) =
    (key.Fid, NumberOf U32 fid) ∷ (key.Name, TextOf name) ∷ (key.Perm, OctalOf perm)
    ∷ (key.Mode, NumberOf U8 mode) ∷ []
t_fields (Tread fid offset count) =
    (key.Fid, NumberOf U32 fid) ∷ (key.Offset, NumberOf U64 offset)
    ∷ (key.Count, NumberOf U32 count) ∷ []
t_fields (Twrite fid offset bytes) =
    (key.Fid, NumberOf U32 fid) ∷ (key.Offset, NumberOf U64 offset) ∷ (key.Count, DataOf bytes)
    ∷ []
t_fields (Tclunk fid) = (key.Fid, NumberOf U32 fid) ∷ []
t_fields (Tremove fid) = (key.Fid, NumberOf U32 fid) ∷ []
t_fields (Tstat fid) = (key.Fid, NumberOf U32 fid) ∷ []
t_fields (Twstat fid stat) = (key.Fid, NumberOf U32 fid) ∷ (key.Stat, StatOf stat) ∷ []

-- a request with its tag, in words
abbrev pub t_words : ℕ → TMessage → List ℕ
t_words tag m = line_words (t_verb m) tag (t_fields m)

-- the name of a reply
abbrev pub r_verb : RMessage → Verb
r_verb (Rversion msize version) = verb.Rversion
r_verb (Rattach qid) = verb.Rattach
r_verb (Rerror ename) = verb.Rerror
r_verb Rflush = verb.Rflush
r_verb (Rwalk qids) = verb.Rwalk
r_verb (Ropen qid iounit) = verb.Ropen
r_verb (Rcreate qid iounit) = verb.Rcreate
r_verb (Rread bytes) = verb.Rread
r_verb (Rwrite count) = verb.Rwrite
r_verb Rclunk = verb.Rclunk
r_verb Rremove = verb.Rremove
r_verb (Rstat stat) = verb.Rstat
r_verb Rwstat = verb.Rwstat

-- its fields, in order
abbrev pub r_fields : RMessage → List (Key × Value)
r_fields (Rversion msize version) =
    (key.Msize, NumberOf U32 msize) ∷ (key.Version, TextOf version) ∷ []
r_fields (Rattach qid) = (key.Qid, QidOf qid) ∷ []
r_fields (Rerror ename) = (key.Ename, TextOf ename) ∷ []
r_fields Rflush = []
r_fields (Rwalk qids) = (key.Nwqid, QidsOf qids) ∷ []
r_fields (Ropen qid iounit) = (key.Qid, QidOf qid) ∷ (key.Iounit, NumberOf U32 iounit) ∷ []
r_fields (Rcreate qid iounit) = (key.Qid, QidOf qid) ∷ (key.Iounit, NumberOf U32 iounit) ∷ []
r_fields (Rread bytes) = (key.Count, DataOf bytes) ∷ []
r_fields (Rwrite count) = (key.Count, NumberOf U32 count) ∷ []
r_fields Rclunk = []
r_fields Rremove = []
r_fields (Rstat stat) = (key.Stat, StatOf stat) ∷ []
r_fields Rwstat = []

-- a reply with its tag, in words
abbrev pub r_words : ℕ → RMessage → List ℕ
r_words tag m = line_words (r_verb m) tag (r_fields m)
