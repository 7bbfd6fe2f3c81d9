-- A list brought to a length by zeros.
use Rattle.std.proofs.Common.{◌≡◌, ℕ, ◌-◌, ◌≤◌, List, ◌++◌, length, replicate, take, drop, arith}
use Rattle.std.proofs.Common.{ap}
use Rattle.std.proofs.lemmas.List.{length-append, length-replicate, length-take-le, drop-replicate}
use Rattle.std.proofs.Math.Seq.{take-append_seam}
use Rattle.p9_base.specs.Text.{padded}

-- the first k places of a list that is k of them and zeros are k long
pub length-take_padded : (n k : ℕ) (bs : List ℕ) → k ≤ n → bs ≡ padded n (take k bs)
    → length (take k bs) ≡ k
length-take_padded n k bs le e =
    length-take-le k bs
    (let long : n ≤ length bs = omega (
      arith,
      ap length e,
      length-append (take k bs) (replicate (n - length (take k bs)) 0),
      length-replicate {A = ℕ} (n - length (take k bs)) 0,
    ) in omega arith)

-- a list with zeros put after it is its own padding
pub padded-take : (n : ℕ) (xs : List ℕ) → length xs ≤ n
    → xs ++ drop (length xs) (replicate n 0)
    ≡ padded n (take (length xs) (xs ++ drop (length xs) (replicate n 0)))
padded-take n xs le = rw (take-append_seam, drop-replicate)
