-- A line that is printed is read back.
use Rattle.std.proofs.Common.{◌≡◌, ℕ, ◌+◌, ◌<◌, ◌^◌, true, List, [], ◌∷◌, ◌++◌}
use Rattle.std.proofs.Common.{length, Ok, refl, sym, ap, subst, ◌∙◌, append_assoc, arith}
use Rattle.std.specs.List.{flat_map}
use Rattle.std.proofs.lemmas.Bool.{lt-ltb}
use Rattle.std.proofs.lemmas.List.{append-nil, length-append}
use Rattle.p9_wire.specs.Fields.{number}
use Rattle.p9_wire.specs.Frame.{IsBytes}
use Rattle.p9_wire.specs.Reply.{frame}
use Rattle.p9_wire.proofs.Bytes.{IsBytes-back, IsBytes-front, length-number}
use Rattle.p9_words.specs.Class.{skip_blanks}
use Rattle.p9_words.specs.Reading.{verb_at, field_at, fields_from, tag_field, framed, frame_at}
use Rattle.p9_words.specs.Reading.{frame_of_words}
use Rattle.p9_words.specs.Verb.{verb_text, type_of, fields_of}
use Rattle.p9_words.specs.Words.{Value, NumberOf, field_words, line_words}
use Rattle.p9_words.specs.declared.form.Width.TheVariants.{U16}
use Rattle.p9_words.specs.declared.key.Key.{Key}
use Rattle.p9_words.specs.declared.key.Key.TheVariants as key
use Rattle.p9_words.specs.declared.verb.Verb.{Verb}
use Rattle.p9_words.specs.declared.verb.Verb.TheVariants as verb
use Rattle.p9_words.proofs.Fronts.{ends, skip-nothing}
use Rattle.p9_words.proofs.Values.{forms, fields_bytes, FieldsFit, field-law}
use Rattle.p9_words.proofs.Values.{fields-law, fields-ends}

-- the name of a message
verb-at : (verb : Verb) (rest : List ℕ) → verb_at (verb_text verb ++ 32 ∷ rest) ≡ Ok (
  verb,
  32 ∷
      rest,
)
unfolding verb_at skip_blanks
verb-at verb.Tversion rest = refl
verb-at verb.Rversion rest = refl
verb-at verb.Tauth rest = refl
verb-at verb.Tattach rest = refl
verb-at verb.Rattach rest = refl
verb-at verb.Rerror rest = refl
verb-at verb.Tflush rest = refl
verb-at verb.Rflush rest = refl
verb-at verb.Twalk rest = refl
verb-at verb.Rwalk rest = refl
verb-at verb.Topen rest = refl
verb-at verb.Ropen rest = refl
verb-at verb.Tcreate rest = refl
verb-at verb.Rcreate rest = refl
verb-at verb.Tread rest = refl
verb-at verb.Rread rest = refl
verb-at verb.Twrite rest = refl
verb-at verb.Rwrite rest = refl
verb-at verb.Tclunk rest = refl
verb-at verb.Rclunk rest = refl
verb-at verb.Tremove rest = refl
verb-at verb.Rremove rest = refl
verb-at verb.Tstat rest = refl
verb-at verb.Rstat rest = refl
verb-at verb.Twstat rest = refl
verb-at verb.Rwstat rest = refl

-- the frame of a line that ends
frame-law : (verb : Verb) (bytes : List ℕ) → 5 + length bytes < 2 ^ 32
    → frame_at verb bytes [] ≡ Ok (framed (type_of verb) bytes)
unfolding frame_at
frame-law verb bytes short = rw (skip-nothing, lt-ltb (5 + length bytes) 4294967296 short) refl

-- a line that is printed of a message is read as a frame with its bytes
pub line-law : (verb : Verb) (tag : ℕ) (fields : List (Key × Value))
    → fields_of verb ≡ forms fields → tag < 2 ^ 16 → FieldsFit fields
    → IsBytes (number 2 tag ++ fields_bytes fields)
    → 5 + length (number 2 tag ++ fields_bytes fields) < 2 ^ 32
    → frame_of_words (line_words verb tag fields)
    ≡ Ok (framed (type_of verb) (number 2 tag ++ fields_bytes fields))
unfolding frame_of_words line_words
line-law verb tag fields same small fits are short =
    let tagged = field_words (key.Tag, NumberOf U16 tag) in
    let others = flat_map field_words fields in
    let first : verb_at (verb_text verb ++ (tagged ++ others)) ≡ Ok (verb, tagged ++ others) =
    verb-at verb _ in
    let end : ends others ≡ true = ap ends (sym (append-nil others)) ∙ fields-ends fields [] refl in
    let second : field_at tag_field (tagged ++ others) ≡ Ok (number 2 tag, others) =
    field-law key.Tag (NumberOf U16 tag) others (omega arith)
    (IsBytes-front (number 2 tag) (fields_bytes fields) are) end in
    let last : fields_from (number 2 tag) (fields_of verb) others
    ≡ Ok (number 2 tag ++ fields_bytes fields, []) =
    rw same
    (ap (fields_from (number 2 tag) (forms fields)) (sym (append-nil others))
    ∙ fields-law fields (number 2 tag) [] fits
    (IsBytes-back (number 2 tag) (fields_bytes fields) are) refl) in
    rw (first, second, last) (frame-law verb (number 2 tag ++ fields_bytes fields) short)

-- the same frame, as the grammar spells it
framed-frame : (kind tag : ℕ) (body : List ℕ) → framed kind (number 2 tag ++ body) ≡ frame kind
    tag body
framed-frame kind tag body =
    let size : 5 + length (number 2 tag ++ body) ≡ 7 + length body =
    omega (arith, length-append (number 2 tag) body, length-number 2 tag) in
    ap (λ n. number 4 n ++ (number 1 kind ++ (number 2 tag ++ body))) size
    ∙ ap (λ b. number 4 (7 + length body) ++ b) (sym (append_assoc (number 1 kind) (number 2
    tag) body))

-- what is printed of a message with these fields is read as its frame
pub message-law : (verb : Verb) (tag : ℕ) (fields : List (Key × Value)) (kind : ℕ)
    (body bytes : List ℕ) → bytes ≡ frame kind tag body → type_of verb ≡ kind
    → body ≡ fields_bytes fields → fields_of verb ≡ forms fields → FieldsFit fields → tag < 2 ^ 16
    → IsBytes bytes → 7 + length body < 2 ^ 32
    → frame_of_words (line_words verb tag fields) ≡ Ok bytes
message-law verb tag fields kind body bytes whole is same shape fits small are short =
    let inner : IsBytes (number 2 tag ++ fields_bytes fields) =
    subst (λ b. IsBytes (number 2 tag ++ b)) same
    (IsBytes-back (number 1 kind) (number 2 tag ++ body)
    (subst IsBytes (append_assoc (number 1 kind) (number 2 tag) body)
    (IsBytes-back (number 4 (7 + length body)) (number 1 kind ++ number 2 tag ++ body)
    (subst IsBytes whole are)))) in
    let size : 5 + length (number 2 tag ++ fields_bytes fields) < 2 ^ 32 =
    subst (λ b. 5 + length (number 2 tag ++ b) < 2 ^ 32) same
    (omega (arith, length-append (number 2 tag) body, length-number 2 tag)) in
    line-law verb tag fields shape small fits inner size
    ∙ ap (λ b. Ok (framed (type_of verb) (number 2 tag ++ b))) (sym same)
    ∙ ap (λ k. Ok (framed k (number 2 tag ++ body))) is
    ∙ ap Ok (framed-frame kind tag body ∙ sym whole)
