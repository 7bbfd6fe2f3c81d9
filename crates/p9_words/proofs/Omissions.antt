-- A message that has its tag and all of its fields is read the same where these may be left out.
use Rattle.std.proofs.Common.{◌≡◌, ℕ, Bool, true, false, List, [], ◌∷◌, ◌++◌, Result, Ok, Err, refl}
use Rattle.std.proofs.Common.{if◌then◌else◌}
use Rattle.std.specs.Str.{bytes_eq}
use Rattle.p9_words.specs.declared.error.Fault.{Fault}
use Rattle.p9_words.specs.declared.error.Expected.TheVariants as expected
use Rattle.p9_words.specs.declared.form.Form.{Form}
use Rattle.p9_words.specs.declared.key.Key.{Key}
use Rattle.p9_words.specs.declared.verb.Verb.{Verb}
use Rattle.p9_words.specs.Class.{skip_blanks}
use Rattle.p9_words.specs.Key.{key_text}
use Rattle.p9_words.specs.Laws.{ReadsTheSame}
use Rattle.p9_words.specs.Omitted.{tag_for, is_next, given_at, given_from, message_of_words}
use Rattle.p9_words.specs.Reading.{verb_at, key_at, field_at, fields_from, put_after, tag_field}
use Rattle.p9_words.specs.Reading.{frame_of_words, ◌>>=◌, value_at, first_word, behind_word}
use Rattle.p9_words.specs.Reading.{frame_at, missing}
use Rattle.p9_words.specs.Verb.{fields_of}

-- a word that is read is next
key-next : (key : Key) (text rest : List ℕ) → key_at key text ≡ Ok rest → is_next key text ≡ true
unfolding is_next key_at
key-next key text rest read =
    go (bytes_eq (first_word (skip_blanks text)) (key_text key)) read where
      go : (b : Bool) → (if b then Ok (behind_word (skip_blanks text))
          else missing (expected.Key key) (skip_blanks text)) ≡ Ok rest → b ≡ true
      go true same = refl
      go false same = cc

-- so is that of a field that is read
next-read : (field : Key × Form) (text : List ℕ) (x : List ℕ × List ℕ)
    → field_at field text ≡ Ok x → is_next field.0 text ≡ true
unfolding field_at
next-read field text x read = go (key_at field.0 text) refl read where
  go : (r : Result (List ℕ) Fault) → key_at field.0 text ≡ r
      → (r >>= λ rest. value_at field.1 rest) ≡ Ok x → is_next field.0 text ≡ true
  go (Ok rest) is same = key-next field.0 text rest is
  go (Err e) is same = cc

-- a field that is there is read
given-read : (tag : ℕ) (field : Key × Form) (text : List ℕ) (x : List ℕ × List ℕ)
    → field_at field text ≡ Ok x → given_at tag field text ≡ Ok x
unfolding given_at
given-read tag field text x read = rw (next-read field text x read) read

-- a field that is read is before the others
one-read : (tag : ℕ) (field : Key × Form) (fields : List (Key × Form)) (bytes text : List ℕ)
    (x : List ℕ × List ℕ) (r : Result (List ℕ × List ℕ) Fault) → field_at field text ≡ r
    → ((y : List ℕ × List ℕ) → fields_from (bytes ++ y.0) fields y.1 ≡ Ok x
    → given_from tag (bytes ++ y.0) fields y.1 ≡ Ok x)
    → (put_after bytes r >>= λ y. fields_from y.0 fields y.1) ≡ Ok x
    → given_from tag bytes (field ∷ fields) text ≡ Ok x
one-read tag field fields bytes text x (Ok y) is others same =
    rw (given-read tag field text y is) (others y same)
one-read tag field fields bytes text x (Err e) is others same = cc

-- so are all
all-read : (tag : ℕ) (fields : List (Key × Form)) (bytes text : List ℕ) (x : List ℕ × List ℕ)
    → fields_from bytes fields text ≡ Ok x → given_from tag bytes fields text ≡ Ok x
all-read tag [] bytes text x read = read
all-read tag (field ∷ fields) bytes text x read =
    one-read tag field fields bytes text x (field_at field text) refl
    (λ y others. all-read tag fields (bytes ++ y.0) y.1 x others) read

-- and the message
pub whole-law : ReadsTheSame frame_of_words message_of_words
unfolding frame_of_words message_of_words
whole-law turn line frame read = go (verb_at line) refl read where
  last : (verb : Verb) (first : List ℕ × List ℕ) (r : Result (List ℕ × List ℕ) Fault)
      → fields_from first.0 (fields_of verb) first.1 ≡ r
      → (r >>= λ fields. frame_at verb fields.0 fields.1) ≡ Ok frame
      → (given_from (tag_for verb turn) first.0 (fields_of verb) first.1
      >>= λ fields. frame_at verb fields.0 fields.1) ≡ Ok frame
  last verb first (Ok fields) is same =
      rw (all-read (tag_for verb turn) (fields_of verb) first.0 first.1 fields is) same
  last verb first (Err e) is same = cc

  next : (verb : Verb) (text : List ℕ) (r : Result (List ℕ × List ℕ) Fault)
      → field_at tag_field text ≡ r
      → (r >>= λ tag. fields_from tag.0 (fields_of verb) tag.1
      >>= λ fields. frame_at verb fields.0 fields.1) ≡ Ok frame
      → (given_at (tag_for verb turn) tag_field text >>= λ first.
      given_from (tag_for verb turn) first.0 (fields_of verb) first.1
      >>= λ fields. frame_at verb fields.0 fields.1) ≡ Ok frame
  next verb text (Ok first) is same =
      rw (given-read (tag_for verb turn) tag_field text first is)
      (last verb first (fields_from first.0 (fields_of verb) first.1) refl same)
  next verb text (Err e) is same = cc

  go : (r : Result (Verb × List ℕ) Fault) → verb_at line ≡ r
      → (r >>= λ verb. field_at tag_field verb.1 >>= λ tag.
      fields_from tag.0 (fields_of verb.0) tag.1
      >>= λ fields. frame_at verb.0 fields.0 fields.1) ≡ Ok frame
      → message_of_words turn line ≡ Ok frame
  go (Ok verb) is same =
      rw is (next verb.0 verb.1 (field_at tag_field verb.1) refl same)
  go (Err e) is same = cc
