-- One line of a bundle more.
use Rattle.std.proofs.Common.{◌≡◌, ℕ, ◌+◌, ◌<◌, ◌≤◌, Bor, List, [], ◌∷◌, length, get_or, drop, map}
use Rattle.std.proofs.Common.{Result, Ok, Err, refl, sym, ap, ◌∙◌, arith}
use Rattle.std.specs.List.{enumerate_from}
use Rattle.std.proofs.lemmas.List.FromFn.{length-enumerate_from, get_or-enumerate_from}
use Rattle.p9_base.specs.Results.{and_then, try_fold}
use Rattle.p9_base.proofs.Results.{try_fold-ok, try_fold-err, try_fold-end}
use Rattle.p9_prepared.specs.Bundle.{IsBundleFault, Reading, Texts, with_numbered_line}
use Rattle.p9_prepared.specs.declared.bundle.BundleError.{BundleError}
use Rattle.p9_prepared.specs.declared.bundle.BundleError.TheVariants.{BadBundle, NoMemory}

-- what a numbered reference points to, with its number
abbrev pub numbered_line : ℕ × Bor (List ℕ) → ℕ × List ℕ
numbered_line numbered = (numbered.0, numbered.1.now)

-- the numbers are the same for references and for what they point to
map-enumerate_from : (n : ℕ) (items : List (Bor (List ℕ)))
    → map numbered_line (enumerate_from n items) ≡ enumerate_from n (map (λ line. line.now) items)
map-enumerate_from n [] = refl
map-enumerate_from n (x ∷ xs) = ap (λ rest. (n, x.now) ∷ rest) (map-enumerate_from (n + 1) xs)

module _ (items : List (Bor (List ℕ))) (lines : List (List ℕ))
    (same : map (λ line. line.now) items ≡ lines) (reading : Reading) (i : ℕ) where
  -- the lines by reference are the lines, each with its number
  numbered_same : map numbered_line (enumerate_from 1 items) ≡ enumerate_from 1 lines
  numbered_same = map-enumerate_from 1 items ∙ ap (enumerate_from 1) same

  -- the line at a position has the number after it
  numbered_at : (d : Bor (List ℕ)) → i < length items
      → (i + 1, get_or items i d) ≡ get_or (enumerate_from 1 items) i (0, d)
  numbered_at d l =
      ap (λ k. (k, get_or items i d)) (omega arith) ∙ sym (get_or-enumerate_from 1 items i (0, d) l)

  -- numbered lines are as many
  numbered_below : i < length items → i < length (enumerate_from 1 items)
  numbered_below l = omega (arith, length-enumerate_from 1 items)

  -- a line that is read
  pub line-read : (d : Bor (List ℕ)) (after : Reading) (all : Result Reading ℕ) → i < length items
      → with_numbered_line reading (i + 1, (get_or items i d).now) ≡ Ok after →
      try_fold with_numbered_line reading (drop i (enumerate_from 1 lines)) ≡ all
      → try_fold with_numbered_line after (drop (i + 1) (enumerate_from 1 lines)) ≡ all
  line-read d after all l read kept =
      try_fold-ok with_numbered_line numbered_line (enumerate_from 1 items) (enumerate_from 1 lines)
      numbered_same reading i after (i + 1, get_or items i d) (0, d) (numbered_below l)
      (numbered_at d l) read ∙ kept

  -- the number of a line that is bad
  pub line-bad : (n : ℕ) (d : Bor (List ℕ)) (all : Result Reading ℕ) → i < length items
      → with_numbered_line reading (i + 1, (get_or items i d).now) ≡ Err n →
      try_fold with_numbered_line reading (drop i (enumerate_from 1 lines)) ≡ all → all ≡ Err n
  line-bad n d all l bad kept =
      sym kept
      ∙ try_fold-err with_numbered_line numbered_line (enumerate_from 1 items)
      (enumerate_from 1 lines) numbered_same reading i n (i + 1, get_or items i d) (0, d)
      (numbered_below l) (numbered_at d l) bad

  -- a line that is bad
  pub line-fault : (error : BundleError) (d : Bor (List ℕ)) (all : Result Reading ℕ)
      → i < length items
      → IsBundleFault (with_numbered_line reading (i + 1, (get_or items i d).now)) error →
      try_fold with_numbered_line reading (drop i (enumerate_from 1 lines)) ≡ all
      → IsBundleFault (and_then all (λ reading. Ok reading.texts)) error
  line-fault NoMemory d all l fault kept = tt
  line-fault (BadBundle n) d all l fault kept =
      ap (λ all. and_then all
      (λ (reading : Reading). let read : Result Texts ℕ = Ok reading.texts in read))
      (line-bad n d all l fault kept)

  -- after the last line
  pub lines-end : (all : Result Reading ℕ) → length items ≤ i
      → try_fold with_numbered_line reading (drop i (enumerate_from 1 lines)) ≡ all
      → all ≡ Ok reading
  lines-end all l kept =
      sym kept
      ∙ try_fold-end with_numbered_line numbered_line (enumerate_from 1 items)
      (enumerate_from 1 lines) numbered_same reading i
      (omega (arith, length-enumerate_from 1 items))
