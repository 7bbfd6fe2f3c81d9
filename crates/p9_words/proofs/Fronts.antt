-- The front of a text: its blanks, and the bytes of one kind.
use Rattle.std.proofs.Common.{◌≡◌, ℕ, ◌<◌, Bool, true, false, not, ◌||◌, eqb}
use Rattle.std.proofs.Common.{List, [], ◌∷◌, ◌++◌, length, refl, ap, ◌∙◌, arith}
use Rattle.std.proofs.Common.{⊎_elim}
use Rattle.std.specs.List.{prefix_len, list_all}
use Rattle.std.proofs.lemmas.Bool.{and_parts, or_cases, eqb-true, not-true, not_from_false}
use Rattle.std.proofs.lemmas.Bool.{false_from_ne_true}
use Rattle.p9_words.specs.Class.{is_blank, skip_blanks}

-- what may be after a word: nothing, or a blank or a parenthesis first
abbrev pub ends : List ℕ → Bool
ends [] = true
ends (c ∷ s) = eqb c 32 || eqb c 41

-- what begins with no blank
abbrev pub starts : List ℕ → Bool
starts [] = false
starts (c ∷ s) = not (is_blank c)

-- bytes of a kind at the front of what begins with none
pub prefix_len-front : (p : ℕ → Bool) (xs rest : List ℕ) → list_all p xs ≡ true
    → prefix_len p rest ≡ 0 → prefix_len p (xs ++ rest) ≡ length xs
prefix_len-front p [] rest all none = none
prefix_len-front p (x ∷ xs) rest all none =
    let a = and_parts (p x) (list_all p xs) all in
    rw (a.0, prefix_len-front p xs rest a.1 none) (omega arith)

-- a kind without a blank and a parenthesis has none after a word
pub prefix_len-ends : (p : ℕ → Bool) (rest : List ℕ) → p 32 ≡ false → p 41 ≡ false
    → ends rest ≡ true → prefix_len p rest ≡ 0
prefix_len-ends p [] blank closing e = refl
prefix_len-ends p (c ∷ rest) blank closing e =
    let no : p c ≡ false =
    ⊎_elim (λ q. ap p (eqb-true _ _ q) ∙ blank) (λ q. ap p (eqb-true _ _ q) ∙ closing)
    (or_cases _ _ e) in
    rw no refl

-- no blanks are skipped where there are none
pub skip-none : (s : List ℕ) → starts s ≡ true → skip_blanks s ≡ s
unfolding skip_blanks
skip-none [] e = refl
skip-none (c ∷ s) e = let no : is_blank c ≡ false = not-true _ e in rw no refl

-- one is skipped where there is one
pub skip-one : (s : List ℕ) → starts s ≡ true → skip_blanks (32 ∷ s) ≡ s
unfolding skip_blanks
skip-one [] e = refl
skip-one (c ∷ s) e = let no : is_blank c ≡ false = not-true _ e in rw no refl

-- none where nothing is left
pub skip-nothing : skip_blanks [] ≡ []
unfolding skip_blanks
skip-nothing = refl

-- what begins with a byte of a kind without blanks
pub starts-front : (p : ℕ → Bool) (xs rest : List ℕ) → p 32 ≡ false → p 9 ≡ false
    → list_all p xs ≡ true → 0 < length xs → starts (xs ++ rest) ≡ true
starts-front p [] rest blank tab all some = absurd (omega arith)
starts-front p (x ∷ xs) rest blank tab all some =
    let is : p x ≡ true = (and_parts _ _ all).0 in
    not_from_false _
    (false_from_ne_true _
    (λ e. ⊎_elim (λ q. let no : p x ≡ false = ap p (eqb-true _ _ q) ∙ blank in absurd cc)
    (λ q. let no : p x ≡ false = ap p (eqb-true _ _ q) ∙ tab in absurd cc) (or_cases _ _ e)))
