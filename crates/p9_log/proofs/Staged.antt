-- A block made in a buffer, around its bytes.
use Rattle.std.proofs.Common.{◌≡◌, ℕ, ◌+◌, ◌-◌, ◌≤◌, List, [], ◌∷◌, ◌++◌, length, take, drop}
use Rattle.std.proofs.Common.{sym, ap, ◌∙◌, append_assoc, arith}
use Rattle.std.proofs.lemmas.List.{drop-drop, drop-take, length-append, length-drop, length-take-le, take-take, take_at}
use Rattle.std.proofs.Math.Seq.{take-append-add}
use Rattle.p9_log.specs.Blocks.{number}
use Rattle.p9_log.specs.Rest.{block, held, staged}
use Rattle.p9_log.proofs.Readings.{length-number}

-- how many bytes are in a buffer
pub length-held : (buffer : List ℕ) (end : ℕ) → 10 ≤ end → end ≤ length buffer
    → length (held buffer end) ≡ end - 10
length-held buffer end from room =
    length-take-le (end - 10) (drop 10 buffer) (omega (arith, length-drop 10 buffer))

-- the head of a block and its bytes
length-block : (buffer : List ℕ) (end : ℕ) → 10 ≤ end → end ≤ length buffer
    → length (block 1 (held buffer end)) ≡ end
length-block buffer end from room =
    omega (
      arith,
      length-held buffer end from room,
      length-append (number (length (held buffer end))) (held buffer end),
      length-number (length (held buffer end)),
    )

-- what is written behind the gates of a block
pub staged-is : (old new : List ℕ) (end : ℕ) → 10 ≤ end → end ≤ length old
    → take (end + 2) new ≡ block 1 (held old end) ++ 1 ∷ 0 ∷ []
    → take (end + 2 - 2) (drop 2 new) ≡ staged (held old end)
staged-is old new end from room is =
    let on : 2 + (end + 2 - 2) ≡ end + 2 = omega arith in
    sym (drop-take 2 (end + 2 - 2) new) ∙ ap (λ n. drop 2 (take n new)) on ∙ ap (drop 2) is

-- and what is added to a draft
pub drafted-is : (old new : List ℕ) (end : ℕ) → 10 ≤ end → end ≤ length old
    → take (end + 2) new ≡ block 1 (held old end) ++ 1 ∷ 0 ∷ []
    → take end new ≡ block 1 (held old end)
drafted-is old new end from room is =
    sym (take-take end (end + 2) new (omega arith)) ∙ ap (take end) is
    ∙ take_at (block 1 (held old end)) (1 ∷ 0 ∷ []) end (length-block old end from room)

-- the gates, the size, and the gates of the next are put over what is there
pub staged-all : (old one two new size : List ℕ) (end : ℕ) → 10 ≤ end → end + 2 ≤ length old
    → size ≡ number (length (held old end))
    → one ≡ take 0 old ++ (1 ∷ 1 ∷ []) ++ drop 2 old
    → two ≡ take 2 one ++ size ++ drop (2 + length size) one
    → new ≡ take end two ++ (1 ∷ 0 ∷ []) ++ drop (end + 2) two
    → take (end + 2) new ≡ block 1 (held old end) ++ 1 ∷ 0 ∷ []
staged-all old one two new size end from room sized first second third =
    let bytes : List ℕ = held old end in
    let head : List ℕ = 1 ∷ 1 ∷ size in
    let eight : length size ≡ 8 = ap length sized ∙ length-number (length bytes) in
    let ten : length head ≡ 10 = omega (arith, eight) in
    let behind : drop (2 + length size) one ≡ drop 10 old =
    ap (drop (2 + length size)) first ∙ ap (λ n. drop (2 + n) (1 ∷ 1 ∷ drop 2 old)) eight
    ∙ drop-drop 8 2 old in
    let two-is : two ≡ head ++ drop 10 old =
    second ∙ ap (λ (o : List ℕ). take 2 o ++ size ++ drop (2 + length size) one) first
    ∙ ap (λ (more : List ℕ). 1 ∷ 1 ∷ size ++ more) behind in
    let on : end ≡ length head + (end - 10) = omega (arith, ten) in
    let front : take end two ≡ head ++ bytes =
    ap (take end) two-is ∙ ap (λ n. take n (head ++ drop 10 old)) on
    ∙ take-append-add head (drop 10 old) (end - 10) in
    let whole : length (head ++ bytes) ≡ end =
    omega (arith, ten, length-append head bytes, length-held old end from (omega arith)) in
    let next : List ℕ = drop (end + 2) two in
    let begins : take end two ++ (1 ∷ 0 ∷ next) ≡ (head ++ bytes) ++ (1 ∷ 0 ∷ next) =
    ap (λ (f : List ℕ). f ++ (1 ∷ 0 ∷ next)) front in
    let put : new ≡ take end two ++ (1 ∷ 0 ∷ next) =
    third ∙ append_assoc (take end two) (1 ∷ 0 ∷ []) next in
    let new-is : new ≡ (head ++ bytes) ++ (1 ∷ 0 ∷ next) = put ∙ begins in
    let two_more : end + 2 ≡ length (head ++ bytes) + 2 = omega (arith, whole) in
    ap (take (end + 2)) new-is ∙ ap (λ n. take n ((head ++ bytes) ++ (1 ∷ 0 ∷ next))) two_more
    ∙ take-append-add (head ++ bytes) (1 ∷ 0 ∷ next) 2
    ∙ ap (λ (s : List ℕ). (1 ∷ 1 ∷ s ++ bytes) ++ 1 ∷ 0 ∷ []) sized
