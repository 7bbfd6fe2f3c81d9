-- A write into a file's bytes, and what it leaves of their number.
use Rattle.std.proofs.Common.{◌≡◌, ℕ, ◌+◌, ◌-◌, ◌≤◌, List, ◌++◌, length, take, drop, replicate, ap}
use Rattle.std.proofs.Common.{sym, ◌∙◌, inl, inr, arith}
use Rattle.std.proofs.Math.Seq.{take-append-add}
use Rattle.std.proofs.lemmas.Bool.{cases_lt}
use Rattle.std.proofs.lemmas.List.{append-nil, drop_all, length-append, length-take, length-drop}
use Rattle.std.proofs.lemmas.List.{length-replicate, take-append-le, take-replicate, take_all}
use Rattle.p9_base.specs.Text.{padded}
use Rattle.p9_tree.specs.Bytes.{overwritten, cut_to}

-- a write within a limit leaves no more bytes than that
pub length-overwritten : (offset : ℕ) (bytes old : List ℕ) (limit : ℕ)
    → offset + length bytes ≤ limit → length old ≤ limit
    → length (overwritten offset bytes old) ≤ limit
length-overwritten offset bytes old limit fits small =
    simp (length-append, length-take, length-drop, length-replicate) (omega arith)

-- nor does a cut
pub length-cut_to : (size : ℕ) (old : List ℕ) (limit : ℕ) → length old ≤ limit
    → length (cut_to size old) ≤ limit
length-cut_to size old limit small = simp length-take (omega arith)

-- the front of a padded list is padded no further
take-padded : (n m : ℕ) (xs : List ℕ) → n ≤ m → take n (padded m xs) ≡ take n (padded n xs)
take-padded n m xs le = elim (cases_lt n (length xs)) [
  | inl lt ↦ (let within : n ≤ length xs = omega arith in
      take-append-le n xs _ within ∙ sym (take-append-le n xs _ within))
  | inr ge ↦ (
      let past : n ≡ length xs + (n - length xs) = omega arith in
      let whole : length (padded n xs) ≤ n = simp (length-append, length-replicate) (omega arith) in
      let front : take (length xs + (n - length xs)) (padded m xs) ≡ xs
      ++ take (n - length xs) (replicate (m - length xs) 0) = take-append-add xs
      (replicate (m - length xs) 0) (n - length xs) in
      let zeros : take (n - length xs) (replicate (m - length xs) 0) ≡ replicate (n - length xs) 0 =
      take-replicate (n - length xs) (m - length xs) 0 (omega arith) in
      ap (λ k. take k (padded m xs)) past ∙ front ∙ ap (λ zs. xs ++ zs) zeros
      ∙ sym (take_all n (padded n xs) whole))
]

-- what follows a padded list's length followed it before
drop-padded : (m : ℕ) (xs : List ℕ) → drop m (padded m xs) ≡ drop m xs
drop-padded m xs = elim (cases_lt m (length xs)) [
  | inl lt ↦ (let none : m - length xs ≡ 0 = omega arith in
      ap (λ k. drop m (xs ++ replicate k 0)) none ∙ ap (λ ys. drop m ys) (append-nil xs))
  | inr ge ↦
      (let whole : length (padded m xs)
      ≤ m = simp (length-append, length-replicate) (omega arith) in
      drop_all m (padded m xs) whole ∙ sym (drop_all m xs ge))
]

-- a write over bytes that were brought to the write's end is the write
pub put-overwritten : (offset : ℕ) (bytes old whole new : List ℕ)
    → whole ≡ padded (offset + length bytes) old
    → new ≡ take offset whole ++ bytes ++ drop (offset + length bytes) whole
    → new ≡ overwritten offset bytes old
put-overwritten offset bytes old whole new padding put =
    put
    ∙ ap (λ w. take offset w ++ bytes ++ drop (offset + length bytes) w) padding
    ∙ ap (λ front. front ++ bytes
    ++ drop (offset + length bytes) (padded (offset + length bytes) old))
    (take-padded offset (offset + length bytes) old (omega arith))
    ∙ ap (λ rest. take offset (padded offset old) ++ bytes ++ rest)
    (drop-padded (offset + length bytes) old)
