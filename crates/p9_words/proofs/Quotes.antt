-- A text that is printed is read back: in quotes, in hexadecimal digits, or as a bare word.
use Rattle.std.proofs.Common.{◌≡◌, ℕ, zero, suc, ◌<◌, Bool, true, false, not, ◌&&◌, eqb, ltb}
use Rattle.std.proofs.Common.{List, [], ◌∷◌, ◌++◌, length, get_or, None, Ok, refl}
use Rattle.std.proofs.Common.{sym, ap, subst, ◌∙◌, append_assoc, arith, ⊎_elim, ◌/◌, ◌%◌}
use Rattle.std.specs.Prelude.{codes}
use Rattle.std.specs.List.{prefix_len, list_all, flat_map}
use Rattle.std.proofs.lemmas.Bool.{and_parts, and_from, not-true, eqb-true, eqb-false, ne_eqb}
use Rattle.std.proofs.lemmas.Bool.{or_cases}
use Rattle.std.proofs.lemmas.Bool.{cases_Bool, and_right, lt-ltb}
use Rattle.std.proofs.lemmas.List.{append-nil, take_at, drop_at}
use Rattle.hex.specs.Hex.{encode_lower, encode_with, lower_digits}
use Rattle.hex.proofs.HexLemmas.{decode_of-encode_lower}
use Rattle.p9_wire.specs.Fields.{FitsText}
use Rattle.p9_wire.specs.Frame.{IsBytes}
use Rattle.p9_wire.proofs.Bytes.{each_below}
use Rattle.p9_words.specs.Class.{is_in, is_bare, skip_blanks}
use Rattle.p9_words.specs.Reading.{behind, unquoted_from, pairs_at, bare_at, word_at, text_at}
use Rattle.p9_words.specs.Reading.{where_behind}
use Rattle.p9_words.specs.Words.{between_quotes, quoted, paired, shown, name_words, is_printable}
use Rattle.p9_words.specs.declared.class.Class.TheVariants.{Bare, Unquoted}
use Rattle.p9_words.proofs.Fronts.{ends, starts, prefix_len-front, prefix_len-ends, starts-front}
use Rattle.p9_words.proofs.Fronts.{skip-none}

-- a quote may not be after a word
no-quote : (c : ℕ) (rest : List ℕ) → ends (c ∷ rest) ≡ true → eqb c 39 ≡ false
no-quote c rest e =
    ne_eqb c 39
    (λ q. ⊎_elim (λ b. let is : c ≡ 32 = eqb-true _ _ b in absurd (omega arith))
    (λ b. let is : c ≡ 41 = eqb-true _ _ b in absurd (omega arith)) (or_cases _ _ e))

-- the quote that ends a text
ended : (bytes rest : List ℕ) → ends rest ≡ true → unquoted_from true bytes rest ≡ Ok (bytes, rest)
ended bytes [] e = refl
ended bytes (c ∷ rest) e = let no = no-quote c rest e in rw no refl

-- a text between quotes is read back
unquoted-law : (s bytes rest : List ℕ) → ends rest ≡ true
    → unquoted_from false bytes (flat_map between_quotes s ++ 39 ∷ rest) ≡ Ok (bytes ++ s, rest)
unquoted-law [] bytes rest e =
    ended bytes rest e ∙ ap (λ b. Ok (b, rest)) (sym (append-nil bytes))
unquoted-law (b ∷ s) bytes rest e =
    let ih = unquoted-law s (bytes ++ b ∷ []) rest e in
    let whole : Ok ((bytes ++ b ∷ []) ++ s, rest) ≡ Ok (bytes ++ b ∷ s, rest) =
    ap (λ x. Ok (x, rest)) (append_assoc bytes (b ∷ []) s) in
    ⊎_elim
    (λ (is : eqb b 39 ≡ true).
    let same : b ≡ 39 = eqb-true _ _ is in
    let step : unquoted_from false bytes ((between_quotes b ++ flat_map between_quotes s) ++ 39
    ∷ rest)
    ≡ unquoted_from false (bytes ++ 39 ∷ []) (flat_map between_quotes s ++ 39 ∷ rest) =
    rw is refl in
    step
    ∙ subst
    (λ x. unquoted_from false (bytes ++ x ∷ []) (flat_map between_quotes s ++ 39 ∷ rest)
    ≡ Ok (bytes ++ b ∷ s, rest)) same (ih ∙ whole))
    (λ (is : eqb b 39 ≡ false).
    let step : unquoted_from false bytes ((between_quotes b ++ flat_map between_quotes s) ++ 39
    ∷ rest)
    ≡ unquoted_from false (bytes ++ b ∷ []) (flat_map between_quotes s ++ 39 ∷ rest) =
    rw (is, is) refl in
    step ∙ (ih ∙ whole))
    (cases_Bool (eqb b 39))

-- a text in quotes
pub quoted-law : (s rest : List ℕ) → ends rest ≡ true
    → where_behind (behind (codes "'") (quoted s ++ rest)) (unquoted_from false [])
    (where_behind (behind (codes "x'") (quoted s ++ rest)) pairs_at bare_at) (quoted s ++ rest)
    ≡ Ok (s, rest)
unfolding behind
quoted-law s rest e =
    ap (unquoted_from false []) (append_assoc (flat_map between_quotes s) (39 ∷ []) rest)
    ∙ unquoted-law s [] rest e

-- no item of a list whose items pass, and no default that passes, fails
passes-at : (q : ℕ → Bool) (t : List ℕ) (i : ℕ) → list_all q t ≡ true → q 0 ≡ true
    → q (get_or t i 0) ≡ true
passes-at q [] i all zero_passes = zero_passes
passes-at q (c ∷ t) zero all zero_passes = (and_parts (q c) (list_all q t) all).0
passes-at q (c ∷ t) (suc i) all zero_passes =
    passes-at q t i (and_parts (q c) (list_all q t) all).1 zero_passes

-- hexadecimal digits have no quote among them
pairs-unquoted : (s : List ℕ) → list_all (is_in Unquoted) (encode_lower s) ≡ true
unfolding encode_with
pairs-unquoted [] = refl
pairs-unquoted (b ∷ s) =
    and_from _ _ (passes-at (is_in Unquoted) lower_digits (b / 16) refl refl)
    (and_from _ _ (passes-at (is_in Unquoted) lower_digits (b % 16) refl refl) (pairs-unquoted s))

-- bytes in pairs of hexadecimal digits
pairs-law : (s rest : List ℕ) → IsBytes s → pairs_at (encode_lower s ++ 39 ∷ rest) ≡ Ok (s, rest)
unfolding pairs_at behind
pairs-law s rest bytes =
    let e = encode_lower s in
    let len = prefix_len-front (is_in Unquoted) e (39 ∷ rest) (pairs-unquoted s) refl in
    rw (
      len,
      take_at e (39 ∷ rest) (length e) refl,
      drop_at e (39 ∷ rest) (length e) refl,
      decode_of-encode_lower s (each_below s bytes),
    ) refl

-- as they are read after their mark
pub paired-law : (s rest : List ℕ) → IsBytes s
    → where_behind (behind (codes "'") (paired s ++ rest)) (unquoted_from false [])
    (where_behind (behind (codes "x'") (paired s ++ rest)) pairs_at bare_at) (paired s ++ rest)
    ≡ Ok (s, rest)
unfolding behind
paired-law s rest bytes =
    ap pairs_at (append_assoc (encode_lower s) (39 ∷ []) rest) ∙ pairs-law s rest bytes

-- bytes of a bare word, as their test says
bare-parts : (c : ℕ) → is_bare c ≡ true → eqb c 39 ≡ false
bare-parts c is =
    let a = and_parts (ltb 32 c && ltb c 127 && not (eqb c 39) && not (eqb c 40)) (not (eqb c
    41)) is in
    let b = and_parts (ltb 32 c && ltb c 127 && not (eqb c 39)) (not (eqb c 40)) a.0 in
    let d = and_parts (ltb 32 c && ltb c 127) (not (eqb c 39)) b.0 in
    not-true _ d.1

-- what begins a bare word is no quote
no-mark : (s rest : List ℕ) → list_all is_bare s ≡ true → 0 < length s
    → behind (codes "'") (s ++ rest) ≡ None
unfolding behind
no-mark [] rest all some = absurd (omega arith)
no-mark (c ∷ s) rest all some =
    let no = bare-parts c (and_parts (is_bare c) (list_all is_bare s) all).0 in rw no refl

-- nor an x and a quote
no-marks : (s rest : List ℕ) → list_all is_bare s ≡ true → 0 < length s → ends rest ≡ true
    → behind (codes "x'") (s ++ rest) ≡ None
unfolding behind
no-marks [] rest all some e = absurd (omega arith)
no-marks (c ∷ []) [] all some e =
    let no = and_right (eqb c 120) false refl in rw no refl
no-marks (c ∷ []) (d ∷ rest) all some e =
    let no : (eqb c 120 && (eqb d 39 && true)) ≡ false =
    and_right (eqb c 120) _ (rw (no-quote d rest e) refl) in
    rw no refl
no-marks (c ∷ d ∷ s) rest all some e =
    let is : is_bare d ≡ true =
    (and_parts (is_bare d) (list_all is_bare s)
    (and_parts (is_bare c) (is_bare d && list_all is_bare s) all).1).0 in
    let no : (eqb c 120 && (eqb d 39 && true)) ≡ false =
    and_right (eqb c 120) _ (rw (bare-parts d is) refl) in
    rw no refl

-- a bare word
bare-law : (s rest : List ℕ) → list_all is_bare s ≡ true → 0 < length s → ends rest ≡ true
    → bare_at (s ++ rest) ≡ Ok (s, rest)
unfolding bare_at
bare-law s rest all some e =
    let len : prefix_len (is_in Bare) (s ++ rest) ≡ length s =
    prefix_len-front (is_in Bare) s rest all (prefix_len-ends (is_in Bare) rest refl refl e) in
    let no : eqb (length s) 0 ≡ false = ne_eqb _ _ (λ q. omega arith) in
    rw (len, no, take_at s rest (length s) refl, drop_at s rest (length s) refl) refl

-- a bare word, where a mark is looked for first
bare_word-law : (s rest : List ℕ) → list_all is_bare s ≡ true → 0 < length s → ends rest ≡ true
    → where_behind (behind (codes "'") (s ++ rest)) (unquoted_from false [])
    (where_behind (behind (codes "x'") (s ++ rest)) pairs_at bare_at) (s ++ rest)
    ≡ Ok (s, rest)
bare_word-law s rest all some e =
    rw (no-mark s rest all some, no-marks s rest all some e) (bare-law s rest all some e)

-- what is printed of bytes begins with no blank
pub shown-starts : (s rest : List ℕ) → starts (shown s ++ rest) ≡ true
unfolding shown
shown-starts s rest =
    ⊎_elim (λ (is : is_printable s ≡ true). rw is refl) (λ (is : is_printable s ≡ false). rw is
    refl)
    (cases_Bool (is_printable s))

-- and is read back
pub shown-law : (s text rest : List ℕ) → skip_blanks text ≡ shown s ++ rest → IsBytes s
    → ends rest ≡ true → word_at text ≡ Ok (s, rest)
unfolding shown word_at
shown-law s text rest here bytes e =
    ⊎_elim
    (λ (is : is_printable s ≡ true).
    let h : skip_blanks text ≡ quoted s ++ rest = here ∙ rw is refl in
    rw h (quoted-law s rest e))
    (λ (is : is_printable s ≡ false).
    let h : skip_blanks text ≡ paired s ++ rest = here ∙ rw is refl in
    rw h (paired-law s rest bytes)) (cases_Bool (is_printable s))

-- the test of a name that may be a bare word
abbrev is_word : List ℕ → Bool
is_word s = not (eqb (length s) 0) && list_all is_bare s

-- such a name has a byte
word-some : (s : List ℕ) → is_word s ≡ true → (0 < length s) × (list_all is_bare s ≡ true)
word-some s is =
    let a = and_parts (not (eqb (length s) 0)) (list_all is_bare s) is in
    let no = eqb-false (length s) 0 (not-true _ a.0) in
    (omega arith, a.1)

-- what is printed of a name begins with no blank
pub name-starts : (s rest : List ℕ) → starts (name_words s ++ rest) ≡ true
unfolding name_words
name-starts s rest =
    ⊎_elim
    (λ (is : is_word s ≡ true).
    let w = word-some s is in rw is (starts-front is_bare s rest refl refl w.1 w.0))
    (λ (is : is_word s ≡ false). rw is (shown-starts s rest)) (cases_Bool (is_word s))

-- a bare word, after blanks
word-bare : (s text rest : List ℕ) → skip_blanks text ≡ s ++ rest → list_all is_bare s ≡ true
    → 0 < length s → ends rest ≡ true → word_at text ≡ Ok (s, rest)
unfolding word_at
word-bare s text rest h all some e = rw h (bare_word-law s rest all some e)

-- and is read back
pub name-law : (s text rest : List ℕ) → skip_blanks text ≡ name_words s ++ rest → IsBytes s
    → ends rest ≡ true → word_at text ≡ Ok (s, rest)
unfolding name_words
name-law s text rest here bytes e =
    ⊎_elim
    (λ (is : is_word s ≡ true).
    let h : skip_blanks text ≡ s ++ rest = here ∙ rw is refl in
    let w = word-some s is in word-bare s text rest h w.1 w.0 e)
    (λ (is : is_word s ≡ false).
    let h : skip_blanks text ≡ shown s ++ rest = here ∙ rw is refl in
    shown-law s text rest h bytes e) (cases_Bool (is_word s))

-- a text that fits, read of what follows the blanks
pub text-law : (s text words rest : List ℕ) → skip_blanks text ≡ words
    → word_at words ≡ Ok (s, rest) → FitsText s → text_at text ≡ Ok (s, rest)
unfolding text_at
text-law s text words rest here read fits =
    rw (here, read, lt-ltb (length s) 65536 fits.short, fits.valid) refl

-- a text that is printed is read back
pub shown_text-law : (s text rest : List ℕ) → skip_blanks text ≡ shown s ++ rest → IsBytes s
    → ends rest ≡ true → FitsText s → text_at text ≡ Ok (s, rest)
shown_text-law s text rest here bytes e fits =
    text-law s text (shown s ++ rest) rest here
    (shown-law s (shown s ++ rest) rest (skip-none _ (shown-starts s rest)) bytes e) fits

-- and a name
pub name_text-law : (s text rest : List ℕ) → skip_blanks text ≡ name_words s ++ rest → IsBytes s
    → ends rest ≡ true → FitsText s → text_at text ≡ Ok (s, rest)
name_text-law s text rest here bytes e fits =
    text-law s text (name_words s ++ rest) rest here
    (name-law s (name_words s ++ rest) rest (skip-none _ (name-starts s rest)) bytes e) fits
