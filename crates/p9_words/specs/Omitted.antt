-- Messages in words of which the tag and the msize may be left out.
use Rattle.std.specs.Prelude.{ℕ, Bool, List, [], ◌∷◌, Option, Some, None, Result, Ok}
use Rattle.std.specs.Prelude.{if◌then◌else◌}
use Rattle.std.specs.Str.{bytes_eq}
use Rattle.p9_wire.specs.Fields.{number}
use Rattle.p9_words.specs.declared.error.Fault.{Fault}
use Rattle.p9_words.specs.declared.form.Form.{Form}
use Rattle.p9_words.specs.declared.key.Key.{Key}
use Rattle.p9_words.specs.declared.key.Key.TheVariants as key
use Rattle.p9_words.specs.declared.verb.Verb.{Verb}
use Rattle.p9_words.specs.declared.verb.Verb.TheVariants as verb
use Rattle.p9_words.specs.Class.{skip_blanks}
use Rattle.p9_words.specs.Key.{key_text}
use Rattle.p9_words.specs.Reading.{◌>>=◌, Reader, first_word, verb_at, field_at, tag_field}
use Rattle.p9_words.specs.Reading.{frame_at, put_after}
use Rattle.p9_words.specs.Verb.{fields_of}

-- a version has no tag, which is 65535, and any other message the tag that is its turn
abbrev pub tag_for : Verb → ℕ → ℕ
tag_for verb.Tversion turn = 65535
tag_for verb.Rversion turn = 65535
tag_for verb turn = turn

-- the bytes of a field that is left out, where it may be
abbrev pub omitted : ℕ → Key → Option (List ℕ)
omitted tag key.Tag = Some (number 2 tag)
omitted tag key.Msize = Some (number 4 8192)
omitted tag key = None

-- whether this word is the next
unfoldable pub is_next : Key → List ℕ → Bool
is_next key text = bytes_eq (first_word (skip_blanks text)) (key_text key)

-- a field that may be left out is these bytes, and any other is read
abbrev pub or_read : Option (List ℕ) → Key × Form → Reader (List ℕ)
or_read None field text = field_at field text
or_read (Some bytes) field text = Ok (bytes, text)

-- a field after its word, or what stands for it where the word is not the next
unfoldable pub given_at : ℕ → Key × Form → Reader (List ℕ)
given_at tag field text =
    if is_next field.0 text then field_at field text else or_read (omitted tag field.0) field text

-- the bytes of one field after the other, after those before them
abbrev pub given_from : (tag : ℕ) (bytes : List ℕ) → List (Key × Form) → Reader (List ℕ)
given_from tag bytes [] text = Ok (bytes, text)
given_from tag bytes (field ∷ fields) text =
    put_after bytes (given_at tag field text) >>= λ x. given_from tag x.0 fields x.1

-- the frame of the message that words say, whose turn is this tag
unfoldable pub message_of_words : ℕ → List ℕ → Result (List ℕ) Fault
message_of_words turn text =
    verb_at text >>= λ verb.
    let tag = tag_for verb.0 turn in
    given_at tag tag_field verb.1 >>= λ first.
    given_from tag first.0 (fields_of verb.0) first.1 >>= λ fields.
    frame_at verb.0 fields.0 fields.1
