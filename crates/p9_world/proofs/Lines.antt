-- A line that is put together word by word.
use Rattle.std.proofs.Common.{◌≡◌, ℕ, List, [], ◌∷◌, ◌++◌, Result, Ok, Err, sym, ap, ◌∙◌}
use Rattle.std.proofs.Common.{append_assoc}
use Rattle.std.specs.Prelude.{OnOk}
use Rattle.std.proofs.lemmas.List.{append-nil}
use Rattle.std.proofs.lemmas.List.Concat.{flat_map-append}
use Rattle.p9_world.specs.Text.{joined, spaced, words_text}

-- the first word
pub line-begun : (word before text : List ℕ) → before ≡ [] → text ≡ before ++ word
    → text ≡ joined (word ∷ [])
line-begun word before text empty more =
    more ∙ ap (λ bs. bs ++ word) empty ∙ sym (append-nil word)

-- words after others
pub line-words : (first : List ℕ) (words others : List (List ℕ)) (before text : List ℕ)
    → before ≡ joined (first ∷ words) → text ≡ before ++ spaced others
    → text ≡ joined (first ∷ (words ++ others))
line-words first words others before text is more =
    more ∙ ap (λ bs. bs ++ spaced others) is ∙ append_assoc first (spaced words) (spaced others)
    ∙ ap (λ bs. first ++ bs) (sym (flat_map-append (λ word. 32 ∷ word) words others))

-- one word after others
pub line-word : (first : List ℕ) (words : List (List ℕ)) (word before text : List ℕ)
    → before ≡ joined (first ∷ words) → text ≡ before ++ 32 ∷ word
    → text ≡ joined (first ∷ (words ++ word ∷ []))
line-word first words word before text is more =
    line-words first words (word ∷ []) before text is
    (more ∙ ap (λ bs. before ++ bs) (sym (append-nil (32 ∷ word))))

-- one word of a text that is seen as it
pub line-text : (first : List ℕ) (words : List (List ℕ)) (word put before text : List ℕ)
    → before ≡ joined (first ∷ words) → text ≡ before ++ 32 ∷ put → put ≡ word
    → text ≡ joined (first ∷ (words ++ word ∷ []))
line-text first words word put before text is more same =
    line-word first words word before text is (more ∙ ap (λ bs. before ++ 32 ∷ bs) same)

-- the line is added to others
pub line-added : {D E : Type 0} (result : Result D E) (words : List (List ℕ))
    (text before after : List ℕ) → text ≡ joined words
    → OnOk result (after ≡ before ++ (text ++ 10 ∷ []))
    → OnOk result (after ≡ before ++ words_text words)
line-added (Ok done) words text before after is added =
    added ∙ ap (λ bs. before ++ (bs ++ 10 ∷ [])) is
line-added (Err error) words text before after is added = tt
