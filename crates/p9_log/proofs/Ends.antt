-- Behind the blocks of a file nothing counts, also where it is cut short.
use Rattle.std.proofs.Common.{◌≡◌, ℕ, ◌≤◌, List, [], ◌∷◌, ◌++◌, length, take, drop, Option, Some, None}
use Rattle.std.proofs.Common.{refl, sym, ap, ◌∙◌, append_assoc, arith, take-append-drop, length-append, length-drop}
use Rattle.std.proofs.lemmas.List.{take_at, length-take-le, nil_from_length}
use Rattle.p9_log.specs.declared.crash.Crash.{Crash}
use Rattle.p9_log.specs.Blocks.{behind, block_at, content_in}
use Rattle.p9_log.proofs.Readings.{none_unless, none_is_not_some, block-parts, block-back, content-step, content-stop}

-- no block with the same gates and size, and no more bytes
pub head-stop : (how : Crash) (rest more : List ℕ) → block_at how rest ≡ None → take 10 more ≡ take 10 rest
    → length more ≤ length rest → block_at how more ≡ None
head-stop how rest more none same le =
    none_unless _ (λ x e.
    let b = block-parts how more x e in
    let head : List ℕ = b.gate ∷ 1 ∷ b.head in
    let ten : length head ≡ 10 = omega (arith, b.eight) in
    let long = length-append (b.gate ∷ 1 ∷ b.head ++ x.0) x.2 in
    let longer = length-append b.head x.0 in
    let parted : more ≡ head ++ (x.0 ++ x.2) = b.whole ∙ append_assoc head x.0 x.2 in
    let first : take 10 rest ≡ head = sym same ∙ ap (take 10) parted ∙ take_at head (x.0 ++ x.2) 10 ten in
    let bytes : List ℕ = take (length x.0) (drop 10 rest) in
    let behind_it : List ℕ = drop (length x.0) (drop 10 rest) in
    let whole : rest ≡ (b.gate ∷ 1 ∷ b.head ++ bytes) ++ behind_it =
    sym (take-append-drop 10 rest) ∙ ap (λ (bs : List ℕ). bs ++ drop 10 rest) first
    ∙ ap (λ (bs : List ℕ). head ++ bs) (sym (take-append-drop (length x.0) (drop 10 rest)))
    ∙ sym (append_assoc head bytes behind_it) in
    let size : length bytes ≡ length x.0 =
    length-take-le (length x.0) (drop 10 rest) (omega (arith, ap length b.whole, length-drop 10 rest)) in
    none_is_not_some (block_at how rest) (bytes, behind how b.gate, behind_it) none
    (ap (block_at how) whole ∙ block-back how b.gate b.head bytes behind_it b.counted b.eight (b.is ∙ sym size)))

-- ten bytes are at most a block without bytes
pub few-none : (how : Crash) (more : List ℕ) → length more ≤ 10 → content_in how more ≡ []
few-none how more few = go (block_at how more) refl
  where
    go : (r : Option (List ℕ × Crash × List ℕ)) → block_at how more ≡ r → content_in how more ≡ []
    go None e = content-stop how more e
    go (Some x) e =
        let b = block-parts how more x e in
        let long = length-append (b.gate ∷ 1 ∷ b.head ++ x.0) x.2 in
        let longer = length-append b.head x.0 in
        let all = ap length b.whole in
        let eight = b.eight in
        let empty : x.0 ≡ [] = nil_from_length x.0 (omega arith) in
        let nothing : x.2 ≡ [] = nil_from_length x.2 (omega arith) in
        content-step how more x e ∙ (λ i. empty i ++ content_in x.1 (nothing i)) ∙ content-stop x.1 [] refl
