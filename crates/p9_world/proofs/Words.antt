-- The words of a line are read back from its text.
use Rattle.std.proofs.Common.{◌≡◌, ℕ, ◌≤◌, true, false, List, [], ◌∷◌, ◌++◌, length, refl, ap, ◌∙◌}
use Rattle.std.proofs.Common.{All, arith}
use Rattle.std.specs.Prelude.{◌==◌, ◌&&◌, IsTrue, nat_lt, nat_le, filter}
use Rattle.std.specs.List.{AllByRecursion, list_any, slice_split}
use Rattle.std.proofs.lemmas.Bool.{and_parts, leb-true, lt-ltb, not-true, or_parts}
use Rattle.std.proofs.lemmas.List.{append-nil}
use Rattle.std.proofs.lemmas.List.Elements.{All-append, All-cons, All-from_recursion, All-nil}
use Rattle.std.proofs.lemmas.List.Elements.{All-weaker}
use Rattle.std.proofs.lemmas.List.Splits.{slice_split_at, slice_split_none}
use Rattle.p9_base.specs.Line.{is_blank, words_of}
use Rattle.p9_base.specs.Text.{is_text}
use Rattle.p9_base.specs.User.{is_user}
use Rattle.p9_world.specs.Server.{is_server_name}
use Rattle.p9_world.specs.Text.{joined, spaced}
use Rattle.p9_world.specs.Word.{ends_word, is_plain, is_plain_server, is_plain_user}

-- no byte ends a word
abbrev pub IsPlain : List ℕ → Type 0
IsPlain text = All (λ b. ends_word b ≡ false) text

-- a word: not empty, and no byte ends it
pub record IsWord (word : List ℕ) : Type 0 where
  pub some : nat_lt 0 (length word) ≡ true
  pub plain : IsPlain word

-- Texts that pass the tests are words.

by_bytes : (text : List ℕ) → list_any ends_word text ≡ false
    → AllByRecursion (λ b. ends_word b ≡ false) text
by_bytes [] none = tt
by_bytes (b ∷ bs) none =
    let parts = or_parts (ends_word b) (list_any ends_word bs) none in
    (parts.0, by_bytes bs parts.1)

pub IsPlain-from_test : (text : List ℕ) → is_plain text ≡ true → IsPlain text
IsPlain-from_test text plain =
    All-from_recursion (λ b. ends_word b ≡ false) text
    (by_bytes text (not-true (list_any ends_word text) plain))

IsWord-from : (text : List ℕ) → nat_le 1 (length text) ≡ true → is_plain text ≡ true → IsWord text
IsWord-from text some plain = record {
  some = lt-ltb 0 (length text) (let h : 1 ≤ length text = leb-true 1 (length text) some in omega arith);
  plain = IsPlain-from_test text plain;
}

pub IsWord-user : (text : List ℕ) → IsTrue (is_plain_user text) → IsWord text
IsWord-user text h =
    let parts = and_parts (is_user text) (is_plain text) h in
    let user = and_parts _ (is_text text) parts.0 in
    IsWord-from text (and_parts _ _ user.0).0 parts.1

pub IsWord-server : (text : List ℕ) → IsTrue (is_plain_server text) → IsWord text
IsWord-server text h =
    let parts = and_parts (is_user text && is_server_name text) (is_plain text) h in
    let user = and_parts _ (is_text text) (and_parts (is_user text) (is_server_name text) parts.0).0 in
    IsWord-from text (and_parts _ _ user.0).0 parts.1

-- Words in a line.

no_blanks : (text : List ℕ) → IsPlain text → All (λ b. is_blank b ≡ false) text
no_blanks text plain =
    All-weaker (λ b. ends_word b ≡ false) (λ b. is_blank b ≡ false)
    (λ b h. (or_parts (is_blank b) (b == 10) h).0) text plain

no_newlines : (text : List ℕ) → IsPlain text → All (λ b. (b == 10) ≡ false) text
no_newlines text plain =
    All-weaker (λ b. ends_word b ≡ false) (λ b. (b == 10) ≡ false)
    (λ b h. (or_parts (is_blank b) (b == 10) h).1) text plain

-- the parts of a line between its blanks
parts-spaced : (word : List ℕ) (words : List (List ℕ)) → IsWord word → AllByRecursion IsWord words
    → slice_split is_blank (word ++ spaced words) ≡ word ∷ words
parts-spaced word [] sound all =
    ap (slice_split is_blank) (append-nil word)
    ∙ slice_split_none is_blank word (no_blanks word sound.plain)
parts-spaced word (next ∷ words) sound all =
    slice_split_at is_blank word 32 (next ++ spaced words) (no_blanks word sound.plain) refl
    ∙ ap (λ parts. word ∷ parts) (parts-spaced next words all.0 all.1)

-- none of them is empty
filter-words : (words : List (List ℕ)) → AllByRecursion IsWord words
    → filter (λ word. nat_lt 0 (length word)) words ≡ words
filter-words [] all = refl
filter-words (word ∷ words) all =
    rw all.0.some (ap (λ rest. word ∷ rest) (filter-words words all.1))

pub words_of-joined : (word : List ℕ) (words : List (List ℕ)) → AllByRecursion IsWord (word ∷ words)
    → words_of (joined (word ∷ words)) ≡ word ∷ words
words_of-joined word words all =
    ap (filter (λ word. nat_lt 0 (length word))) (parts-spaced word words all.0 all.1)
    ∙ filter-words (word ∷ words) all

-- no newline is in a line
spaced-newlines : (words : List (List ℕ)) → AllByRecursion IsWord words
    → All (λ b. (b == 10) ≡ false) (spaced words)
spaced-newlines [] all = All-nil (λ b. (b == 10) ≡ false)
spaced-newlines (word ∷ words) all =
    All-append (λ b. (b == 10) ≡ false) (32 ∷ word) (spaced words)
    (All-cons (λ b. (b == 10) ≡ false) 32 word refl (no_newlines word all.0.plain))
    (spaced-newlines words all.1)

pub joined-newlines : (words : List (List ℕ)) → AllByRecursion IsWord words
    → All (λ b. (b == 10) ≡ false) (joined words)
joined-newlines [] all = All-nil (λ b. (b == 10) ≡ false)
joined-newlines (word ∷ words) all =
    All-append (λ b. (b == 10) ≡ false) word (spaced words) (no_newlines word all.0.plain)
    (spaced-newlines words all.1)
