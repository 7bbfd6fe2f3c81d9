-- The lines of texts that are put together.
use Rattle.std.proofs.Common.{◌≡◌, ◌==◌, ℕ, ◌+◌, ◌-◌, Bool, true, false, cond, List, [], ◌∷◌}
use Rattle.std.proofs.Common.{◌++◌, length, take, drop, get_or, refl, sym, ap, ◌∙◌, arith}
use Rattle.std.proofs.Common.{append_assoc, zero, suc}
use Rattle.std.specs.Prelude.{nat_lt}
use Rattle.std.proofs.lemmas.Bool.{false≢true}
use Rattle.std.proofs.lemmas.List.{append-nil}
use Rattle.std.specs.List.{AllByRecursion, flat_map, onto_first}
use Rattle.std.proofs.lemmas.Bool.{and_parts}
use Rattle.std.proofs.lemmas.Bool.Decides.{nat_tests}
use Rattle.std.proofs.lemmas.List.{take_more, take_all}
use Rattle.std.proofs.lemmas.List.Elements.{All-from_recursion}
use Rattle.std.proofs.lemmas.List.Splits.{slice_split_at}
use Rattle.p9_base.specs.Line.{lines_of}
use Rattle.p9_base.specs.Line.{ends_empty, whole_lines}
use Rattle.p9_prepared.specs.Bundle.{ended}

-- Lines without a newline.

abbrev pub IsLine : List ℕ → Type 0
IsLine line = AllByRecursion (λ b. (b == 10) ≡ false) line

abbrev pub AreLines : List (List ℕ) → Type 0
AreLines lines = AllByRecursion IsLine lines

onto_first-clean : (x : ℕ) (parts : List (List ℕ)) → (x == 10) ≡ false → AreLines parts
    → AreLines (onto_first x parts)
onto_first-clean x [] other clean = ((other, tt), tt)
onto_first-clean x (part ∷ parts) other clean = ((other, clean.0), clean.1)

-- the lines of a text have none
pub lines_of-clean : (xs : List ℕ) → AreLines (lines_of xs)
lines_of-clean [] = (tt, tt)
lines_of-clean (x ∷ xs) = clean (x == 10) refl (lines_of-clean xs)
  where
    clean : (b : Bool) → (x == 10) ≡ b → AreLines (lines_of xs)
        → AreLines (cond b ([] ∷ lines_of xs) (onto_first x (lines_of xs)))
    clean true is lines = (tt, lines)
    clean false is lines = onto_first-clean x (lines_of xs) is lines

pub take-clean : (n : ℕ) (lines : List (List ℕ)) → AreLines lines → AreLines (take n lines)
take-clean zero lines clean = tt
take-clean (suc n) [] clean = tt
take-clean (suc n) (line ∷ lines) clean = (clean.0, take-clean n lines clean.1)

pub drop-clean : (n : ℕ) (lines : List (List ℕ)) → AreLines lines → AreLines (drop n lines)
drop-clean zero lines clean = clean
drop-clean (suc n) [] clean = tt
drop-clean (suc n) (line ∷ lines) clean = drop-clean n lines clean.1

-- lines that are written before a text are its first lines
pub lines_of-ended : (lines : List (List ℕ)) (rest : List ℕ) → AreLines lines
    → lines_of (flat_map ended lines ++ rest) ≡ lines ++ lines_of rest
lines_of-ended [] rest clean = refl
lines_of-ended (line ∷ lines) rest clean =
    ap lines_of
    (append_assoc (line ++ 10 ∷ []) (flat_map ended lines) rest
    ∙ append_assoc line (10 ∷ []) (flat_map ended lines ++ rest))
    ∙ slice_split_at (λ b. b == 10) line 10 (flat_map ended lines ++ rest)
    (All-from_recursion (λ b. (b == 10) ≡ false) line clean.0) refl
    ∙ ap (λ ls. line ∷ ls) (lines_of-ended lines rest clean.1)

-- The last line.

empty-is : (xs : List ℕ) → (length xs == 0) ≡ true → xs ≡ []
empty-is [] is = refl
empty-is (x ∷ xs) is = absurd (grind (arith, nat_tests))

-- what is after the whole lines of a text: nothing, or an empty line
pub data LastLine : List (List ℕ) → Type 0 where
  none : LastLine []
  empty : LastLine ([] ∷ [])

-- lines of which the last is empty are those before it, and an empty one
without-last : (lines : List (List ℕ)) → ends_empty lines ≡ true
    → lines ≡ take (length lines - 1) lines ++ [] ∷ []
without-last [] is = absurd (false≢true is)
without-last (line ∷ lines) is =
    let parts = and_parts (nat_lt 0 (length (line ∷ lines)))
    (length (get_or (line ∷ lines) (length (line ∷ lines) - 1) []) == 0) is in
    let empty : get_or (line ∷ lines) (length (line ∷ lines) - 1) [] ≡ [] =
    empty-is (get_or (line ∷ lines) (length (line ∷ lines) - 1) []) parts.1 in
    sym (take_all (length (line ∷ lines) - 1 + 1) (line ∷ lines) (omega arith))
    ∙ take_more (line ∷ lines) (length (line ∷ lines) - 1) [] (omega arith)
    ∙ ap (λ l. take (length (line ∷ lines) - 1) (line ∷ lines) ++ l ∷ []) empty

pub whole_lines-last : (text : List ℕ)
    → (last : List (List ℕ)) × LastLine last × (lines_of text ≡ whole_lines text ++ last)
unfolding whole_lines
whole_lines-last text = last-by (ends_empty (lines_of text)) refl
  where
    last-by : (b : Bool) → ends_empty (lines_of text) ≡ b →
        (last : List (List ℕ)) × LastLine last
        × (lines_of text
        ≡ cond b (take (length (lines_of text) - 1) (lines_of text)) (lines_of text) ++ last)
    last-by false is = ([], none, sym (append-nil (lines_of text)))
    last-by true is = ([] ∷ [], empty, without-last (lines_of text) is)
