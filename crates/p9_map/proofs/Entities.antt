-- Text as it is written in SVG, and as it is read.
use Rattle.std.proofs.Common.{◌≡◌, ℕ, zero, suc, ◌≤◌, ◌==◌, Bool, true, false, List, [], ◌∷◌, ◌++◌}
use Rattle.std.proofs.Common.{length, map, drop, refl, sym, ap, ◌∙◌, subst, arith, append_assoc, append-nil}
use Rattle.std.proofs.Common.{if◌then◌else◌, inl, inr, encode_utf8, encode_utf8_all, not, ◌&&◌}
use Rattle.std.specs.Prelude.{codes}
use Rattle.std.specs.List.{All, flat_map}
use Rattle.std.specs.Str.{IsUtf8, chars}
use Rattle.std.proofs.lemmas.Bool.{and_parts, cases_Bool, eqb-false, eqb-true, not-true}
use Rattle.std.proofs.lemmas.List.Elements.{All-append, All-cons, All-nil}
use Rattle.std.proofs.lemmas.Str.{IsUtf8-past_char, chars-nil, chars_from_encodes, chars_past_char, encodes-append}
use Rattle.p9_map.specs.Escape.{IsHarmless, entity, entity_len, escaped_char, is_control, read, shown, unescaped}

-- the characters that a text is written in
abbrev pub escaped_chars : List ℕ → List ℕ
escaped_chars cs = flat_map escaped_char cs

pub utf8-more : (rest next : List ℕ) (c : ℕ) → IsUtf8 rest → rest ≡ encode_utf8 c ++ next → IsUtf8 next
utf8-more rest next c utf8 is = IsUtf8-past_char rest next c utf8 is

-- one character more
pub escape-more : (rest next out after whole : List ℕ) (c : ℕ) → IsUtf8 rest
    → rest ≡ encode_utf8 c ++ next → after ≡ out ++ encode_utf8_all (escaped_char c)
    → out ++ encode_utf8_all (escaped_chars (chars rest)) ≡ whole
    → after ++ encode_utf8_all (escaped_chars (chars next)) ≡ whole
escape-more rest next out after whole c utf8 is grown kept =
    ap (λ a. a ++ encode_utf8_all (escaped_chars (chars next))) grown
    ∙ append_assoc out (encode_utf8_all (escaped_char c)) (encode_utf8_all (escaped_chars (chars next)))
    ∙ ap (λ x. out ++ x) (sym (encodes-append (escaped_char c) (escaped_chars (chars next))))
    ∙ ap (λ cs. out ++ encode_utf8_all (escaped_chars cs)) (sym (chars_past_char rest next c utf8 is))
    ∙ kept

-- all characters
pub escape-all : (out rest text : List ℕ) → IsUtf8 out → length rest ≡ 0
    → out ++ encode_utf8_all (escaped_chars (chars rest)) ≡ encode_utf8_all (escaped_chars (chars text))
    → chars out ≡ escaped_chars (chars text)
escape-all out [] text utf8 none kept =
    let all : encode_utf8_all (escaped_chars (chars text)) ≡ out =
    sym kept ∙ ap (λ cs. out ++ encode_utf8_all (escaped_chars cs)) chars-nil ∙ append-nil out in
    sym (chars_from_encodes (escaped_chars (chars text)) out utf8 all)
escape-all out (b ∷ bs) text utf8 none kept = absurd (omega arith)

-- none is left
pub escape-end : (rest out whole : List ℕ) → length rest ≡ 0
    → out ++ encode_utf8_all (escaped_chars (chars rest)) ≡ whole → out ≡ whole
escape-end [] out whole none kept =
    sym (ap (λ cs. out ++ encode_utf8_all (escaped_chars cs)) chars-nil ∙ append-nil out) ∙ kept
escape-end (b ∷ bs) out whole none kept = absurd (omega arith)

-- a character is one of the four that are written as entities, or another
pub char-cases : (P : ℕ → Type 0) → P 38 → P 60 → P 62 → P 34
    → ((c : ℕ) → (c == 38) ≡ false → (c == 60) ≡ false → (c == 62) ≡ false → (c == 34) ≡ false → P c)
    → (c : ℕ) → P c
char-cases P ampersand less greater quote other c =
    elim (cases_Bool (c == 38)) [
      | inl e ↦ subst P (sym (eqb-true c 38 e)) ampersand
      | inr not38 ↦ elim (cases_Bool (c == 60)) [
        | inl e ↦ subst P (sym (eqb-true c 60 e)) less
        | inr not60 ↦ elim (cases_Bool (c == 62)) [
          | inl e ↦ subst P (sym (eqb-true c 62 e)) greater
          | inr not62 ↦ elim (cases_Bool (c == 34)) [
            | inl e ↦ subst P (sym (eqb-true c 34 e)) quote
            | inr not34 ↦ other c not38 not60 not62 not34
          ]
        ]
      ]
    ]

-- another character is written as it is shown
pub escaped-other : (c : ℕ) → (c == 38) ≡ false → (c == 60) ≡ false → (c == 62) ≡ false
    → (c == 34) ≡ false → escaped_char c ≡ shown c ∷ []
escaped-other c not38 not60 not62 not34 = rw (not38, not60, not62, not34) refl

-- what is shown is no such character, where the character is none
pub shown-other : (k c : ℕ) → (0xfffd == k) ≡ false → (c == k) ≡ false → (shown c == k) ≡ false
shown-other k c replaced not =
    elim (cases_Bool (is_control c)) [
      | inl e ↦ ap (λ b. (if b then 0xfffd else c) == k) e ∙ replaced
      | inr e ↦ ap (λ b. (if b then 0xfffd else c) == k) e ∙ not
    ]

-- No character that a text is written in is harmful.

harmless-of : (c : ℕ) → (c == 60) ≡ false → (c == 62) ≡ false → (c == 34) ≡ false → IsHarmless c
harmless-of c less greater quote = record {
  not_less = eqb-false c 60 less;
  not_greater = eqb-false c 62 greater;
  not_quote = eqb-false c 34 quote;
}

is_good : ℕ → Bool
is_good c = not (c == 60) && (not (c == 62) && not (c == 34))

all_good : List ℕ → Bool
all_good [] = true
all_good (c ∷ cs) = is_good c && all_good cs

harmless-good : (cs : List ℕ) → all_good cs ≡ true → All IsHarmless cs
unfolding is_good all_good
harmless-good [] good = All-nil IsHarmless
harmless-good (c ∷ cs) good =
    let both = and_parts (is_good c) (all_good cs) good in
    let first = and_parts (not (c == 60)) (not (c == 62) && not (c == 34)) both.0 in
    let others = and_parts (not (c == 62)) (not (c == 34)) first.1 in
    All-cons IsHarmless c cs
    (harmless-of c (not-true (c == 60) first.0) (not-true (c == 62) others.0)
    (not-true (c == 34) others.1))
    (harmless-good cs both.1)

harmless-char : (c : ℕ) → All IsHarmless (escaped_char c)
unfolding is_good all_good
harmless-char = char-cases (λ c. All IsHarmless (escaped_char c))
    (harmless-good (codes "&amp;") refl)
    (harmless-good (codes "&lt;") refl)
    (harmless-good (codes "&gt;") refl)
    (harmless-good (codes "&quot;") refl)
    (λ c not38 not60 not62 not34. subst (All IsHarmless)
    (sym (escaped-other c not38 not60 not62 not34))
    (All-cons IsHarmless (shown c) []
    (harmless-of (shown c) (shown-other 60 c refl not60) (shown-other 62 c refl not62)
    (shown-other 34 c refl not34))
    (All-nil IsHarmless)))

pub harmless-escaped : (cs : List ℕ) → All IsHarmless (escaped_chars cs)
harmless-escaped [] = All-nil IsHarmless
harmless-escaped (c ∷ cs) =
    All-append IsHarmless (escaped_char c) (escaped_chars cs) (harmless-char c) (harmless-escaped cs)

-- What is written is read as it was.

module _ (rest told : List ℕ) (read_rest : (m : ℕ) → length rest ≤ m → read m rest ≡ told) where
  read-ampersand : (n : ℕ) → length (codes "&amp;" ++ rest) ≤ n
      → read n (codes "&amp;" ++ rest) ≡ 38 ∷ told
  read-ampersand zero l = absurd (omega arith)
  read-ampersand (suc m) l = ap (λ cs. 38 ∷ cs) (read_rest m (omega arith))

  read-less : (n : ℕ) → length (codes "&lt;" ++ rest) ≤ n → read n (codes "&lt;" ++ rest) ≡ 60 ∷ told
  read-less zero l = absurd (omega arith)
  read-less (suc m) l = ap (λ cs. 60 ∷ cs) (read_rest m (omega arith))

  read-greater : (n : ℕ) → length (codes "&gt;" ++ rest) ≤ n
      → read n (codes "&gt;" ++ rest) ≡ 62 ∷ told
  read-greater zero l = absurd (omega arith)
  read-greater (suc m) l = ap (λ cs. 62 ∷ cs) (read_rest m (omega arith))

  read-quote : (n : ℕ) → length (codes "&quot;" ++ rest) ≤ n
      → read n (codes "&quot;" ++ rest) ≡ 34 ∷ told
  read-quote zero l = absurd (omega arith)
  read-quote (suc m) l = ap (λ cs. 34 ∷ cs) (read_rest m (omega arith))

  read-other : (c : ℕ) → (c == 38) ≡ false → (n : ℕ) → length (c ∷ rest) ≤ n
      → read n (c ∷ rest) ≡ c ∷ told
  read-other c not38 zero l = absurd (omega arith)
  read-other c not38 (suc m) l =
      ap (λ b. if b then entity rest ∷ read m (drop (entity_len rest) rest) else c ∷ read m rest) not38
      ∙ ap (λ cs. c ∷ cs) (read_rest m (omega arith))

  read-char : (c n : ℕ) → length (escaped_char c ++ rest) ≤ n
      → read n (escaped_char c ++ rest) ≡ shown c ∷ told
  read-char = char-cases (λ c. (n : ℕ) → length (escaped_char c ++ rest) ≤ n
      → read n (escaped_char c ++ rest) ≡ shown c ∷ told)
      read-ampersand read-less read-greater read-quote
      (λ c not38 not60 not62 not34. subst
      (λ cs. (n : ℕ) → length (cs ++ rest) ≤ n → read n (cs ++ rest) ≡ shown c ∷ told)
      (sym (escaped-other c not38 not60 not62 not34))
      (read-other (shown c) (shown-other 38 c refl not38)))

read-escaped : (cs : List ℕ) (n : ℕ) → length (escaped_chars cs) ≤ n
    → read n (escaped_chars cs) ≡ map shown cs
read-escaped [] zero l = refl
read-escaped [] (suc n) l = refl
read-escaped (c ∷ cs) n l = read-char (escaped_chars cs) (map shown cs) (read-escaped cs) c n l

pub unescaped-escaped : (cs : List ℕ) → unescaped (escaped_chars cs) ≡ map shown cs
unescaped-escaped cs = read-escaped cs (length (escaped_chars cs)) (omega arith)
