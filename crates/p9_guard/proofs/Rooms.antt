-- Room behind the bytes that are used, and a reply in it.
use Rattle.std.proofs.Common.{◌≡◌, ℕ, ◌+◌, ◌≤◌, List, ◌++◌, sym, ap, ◌∙◌, arith, length, take}
use Rattle.std.proofs.lemmas.List.{append_assoc, length-append, length-take, length-take-le}
use Rattle.std.proofs.lemmas.List.{take-append-le, take-take}
use Rattle.std.proofs.Math.Seq.{take-append-add}

-- a reply that was written behind the bytes that are used
pub placed : (used size len : ℕ) (xs reply rest more : List ℕ) → used ≤ length xs
    → size ≤ length reply → used + size ≤ len
    → take (used + size) (take len ((take used xs ++ (reply ++ rest)) ++ more))
    ≡ take used xs ++ take size reply
placed used size len xs reply rest more a b c =
    let front = take used xs in
    let behind = (reply ++ rest) ++ more in
    let long : length front ≡ used = length-take-le used xs a in
    take-take (used + size) len ((front ++ (reply ++ rest)) ++ more) c
    ∙ ap (take (used + size)) (append_assoc front (reply ++ rest) more)
    ∙ ap (λ (k : ℕ). take (k + size) (front ++ behind)) (sym long)
    ∙ take-append-add front behind size
    ∙ ap (λ (zs : List ℕ). front ++ zs)
    (take-append-le size (reply ++ rest) more (omega (arith, b, length-append reply rest))
    ∙ take-append-le size reply rest b)

-- bytes that are used are kept where the list grows behind them
pub kept : (used len : ℕ) (old grown more : List ℕ) → grown ≡ take len old ++ more → used ≤ len
    → used ≤ length old → take used grown ≡ take used old
kept used len old grown more e a b =
    ap (take used) e
    ∙ take-append-le used (take len old) more (omega (arith, a, b, length-take len old))
    ∙ take-take used len old a
