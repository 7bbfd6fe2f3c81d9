-- What is put into a text.
use Rattle.std.proofs.Common.{◌≡◌, ℕ, ◌/◌, ◌%◌, Bool, true, false, List, [], ◌∷◌, ◌++◌, length, take, drop}
use Rattle.std.proofs.Common.{refl, sym, ap, ◌∙◌, append_assoc, take-append-drop, arith}
use Rattle.std.proofs.Common.{Result, Ok, Err}
use Rattle.std.specs.Prelude.{◌==◌, OnOk, slice_index}
use Rattle.std.specs.List.{flat_map, join_with_byte}
use Rattle.std.proofs.lemmas.Bool.{eqb-true}
use Rattle.std.proofs.lemmas.List.{append-nil}
use Rattle.hex.specs.Hex.{encode_lower, encode_with, lower_digits}
use Rattle.p9_base.specs.Name.{slash}
use Rattle.p9_clean.specs.Path.{path_of}

-- Digits.

encode_with-append : (table xs ys : List ℕ)
    → encode_with table (xs ++ ys) ≡ encode_with table xs ++ encode_with table ys
unfolding encode_with
encode_with-append table [] ys = refl
encode_with-append table (b ∷ bs) ys =
    ap (λ rest. slice_index table (b / 16) ∷ slice_index table (b % 16) ∷ rest)
    (encode_with-append table bs ys)

-- the digits of a piece, and of the bytes that follow it
encode_lower-split : (n : ℕ) (rest piece others : List ℕ) → piece ≡ take n rest
    → others ≡ drop n rest → encode_lower piece ++ encode_lower others ≡ encode_lower rest
encode_lower-split n rest piece others front back =
    rw (front, back)
    (sym (encode_with-append lower_digits (take n rest) (drop n rest))
    ∙ ap encode_lower (take-append-drop n rest))

-- a text with the digits of one piece more
pub hex-more : (n : ℕ) (rest piece others digits before after : List ℕ) → piece ≡ take n rest
    → others ≡ drop n rest → digits ≡ encode_lower piece → after ≡ before ++ digits
    → after ++ encode_lower others ≡ before ++ encode_lower rest
hex-more n rest piece others digits before after front back written more =
    ap (λ text. text ++ encode_lower others) (more ∙ ap (λ digits. before ++ digits) written)
    ∙ append_assoc before (encode_lower piece) (encode_lower others)
    ∙ ap (λ digits. before ++ digits) (encode_lower-split n rest piece others front back)

-- a text with the digits of all pieces
pub hex-all : (rest text goal : List ℕ) (empty : Bool) → empty ≡ (length rest == 0)
    → empty ≡ true → text ++ encode_lower rest ≡ goal → text ≡ goal
unfolding encode_with
hex-all [] text goal empty tested ended kept = sym (append-nil text) ∙ kept
hex-all (b ∷ bs) text goal empty tested ended kept =
    let none : length (b ∷ bs) ≡ 0 =
    eqb-true (length (b ∷ bs)) 0 (sym tested ∙ ended) in
    absurd (omega arith)

-- Paths.

-- a slash before each name
slashes : (name : List ℕ) (names : List (List ℕ))
    → flat_map (λ name. slash ∷ name) (name ∷ names) ≡ slash ∷ join_with_byte slash (name ∷ names)
slashes name [] = append-nil (slash ∷ name)
slashes name (next ∷ names) = ap (λ rest. (slash ∷ name) ++ rest) (slashes next names)

pub path-put : {D E : Type 0} (put : Result D E) (names : List (List ℕ)) (before blank after : List ℕ)
    → (length names == 0) ≡ false → blank ≡ before ++ 32 ∷ []
    → OnOk put (after ≡ blank ++ flat_map (λ name. 47 ∷ name) names)
    → OnOk put (after ≡ before ++ 32 ∷ path_of true names)
path-put (Ok done) [] before blank after some first put = absurd (cc)
path-put (Ok done) (name ∷ names) before blank after some first put =
    put ∙ ap (λ text. text ++ flat_map (λ name. 47 ∷ name) (name ∷ names)) first
    ∙ append_assoc before (32 ∷ []) (flat_map (λ name. 47 ∷ name) (name ∷ names))
    ∙ ap (λ path. before ++ 32 ∷ path) (slashes name names)
path-put (Err error) names before blank after some first put = tt
