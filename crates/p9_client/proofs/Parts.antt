-- Bytes that are written or read part by part.
use Rattle.std.proofs.Common.{◌≡◌, ℕ, ◌+◌, ◌-◌, ◌≤◌, List, ◌++◌, Option, sym, ◌∙◌, ap, arith, subst, drop}
use Rattle.std.proofs.Common.{length, length-drop, length-take-le, take, take-append-drop, take-take, take_at, drop_at}
use Rattle.std.proofs.KnownBytes.{Appends-trans, Consumes-kept, Consumes-trans}
use Rattle.std.proofs.Math.Seq.{take-add}
use Rattle.std.proofs.lemmas.List.{drop-append-le}
use Rattle.std.proofs.lemmas.Slice.{take-put_mid, take-put_mid_below}
use Rattle.std.specs.Io.KnownBytes.{Appends, Consumes, Keeps}
use Rattle.p9_wire.specs.Writing.{Writes}
use borrow.Rule.Slice.PartMut.{put_mid}

-- what is left of bytes
abbrev pub rest : ℕ → List ℕ → List ℕ
rest sent bytes = take (length bytes - sent) (drop sent bytes)

pub length-rest : (sent : ℕ) (bytes : List ℕ) → length (rest sent bytes) ≡ length bytes - sent
length-rest sent bytes =
    length-take-le (length bytes - sent) (drop sent bytes) (omega (arith, length-drop sent bytes))

-- a part of bytes
pub length-part : (from to : ℕ) (bytes : List ℕ) → to ≤ length bytes
    → length (take (to - from) (drop from bytes)) ≡ to - from
length-part from to bytes within =
    length-take-le (to - from) (drop from bytes) (omega (arith, length-drop from bytes))

-- a further part of bytes was written
pub written-more : (a b c : Option (List ℕ)) (bytes : List ℕ) (sent count next : ℕ)
    → next ≡ sent + count → count ≤ length (rest sent bytes)
    → Appends a b (take sent bytes) → Appends b c (take count (rest sent bytes))
    → Appends a c (take next bytes)
written-more a b c bytes sent count next is within first more =
    let part : take count (rest sent bytes) ≡ take count (drop sent bytes) =
    take-take count (length bytes - sent) (drop sent bytes) (omega (arith, length-rest sent bytes)) in
    let joined : take sent bytes ++ take count (rest sent bytes) ≡ take next bytes =
    ap (λ (zs : List ℕ). take sent bytes ++ zs) part ∙ sym (take-add sent count bytes)
    ∙ ap (λ (n : ℕ). take n bytes) (sym is) in
    subst (Appends a c) joined (Appends-trans a b c _ _ first more)

-- what is in a buffer up to a place, after something was written from a place before it
pub filled : (a k count : ℕ) (xs ys : List ℕ) → a ≤ length xs → count ≤ length ys
    → take (a + count) (put_mid a k xs ys) ≡ take a xs ++ take count ys
filled a k count xs ys within fits =
    let all = take a xs ++ ys in
    let long = length-take-le a xs within in
    sym (take-take (a + count) (a + length ys) (put_mid a k xs ys) (omega arith))
    ∙ ap (take (a + count)) (take-put_mid a k xs ys (a + length ys) (omega arith) within)
    ∙ take-add a count all
    ∙ ap (λ (zs : List ℕ). zs ++ take count (drop a all)) (take_at (take a xs) ys a long)
    ∙ ap (λ (zs : List ℕ). take a xs ++ take count zs) (drop_at (take a xs) ys a long)

-- a further part of bytes was read
pub read-more : (a b c : Option (List ℕ)) (start at k count next : ℕ) (xs ys : List ℕ)
    → next ≡ at + count → start ≤ at → at ≤ length xs → count ≤ length ys
    → Consumes a b (drop start (take at xs)) → Consumes b c (take count ys)
    → Consumes a c (drop start (take next (put_mid at k xs ys)))
read-more a b c start at k count next xs ys is ordered within fits first more =
    let joined : drop start (take at xs) ++ take count ys ≡ drop start (take next (put_mid at k xs ys)) =
    sym (drop-append-le start (take at xs) (take count ys) (omega (arith, length-take-le at xs within)))
    ∙ ap (drop start) (sym (filled at k count xs ys within fits))
    ∙ ap (λ (n : ℕ). drop start (take n (put_mid at k xs ys))) (sym is) in
    subst (Consumes a c) joined (Consumes-trans a b c _ _ first more)

-- nothing more was read, whatever is in the buffer after what was read
pub read-none : (a b c : Option (List ℕ)) (start at k next : ℕ) (xs ys : List ℕ)
    → next ≡ at → at ≤ length xs → Consumes a b (drop start (take at xs)) → Keeps b c
    → Consumes a c (drop start (take next (put_mid at k xs ys)))
read-none a b c start at k next xs ys is within first none =
    let same : drop start (take at xs) ≡ drop start (take next (put_mid at k xs ys)) =
    ap (drop start) (sym (take-put_mid_below at k xs ys at (omega arith) within))
    ∙ ap (λ (n : ℕ). drop start (take n (put_mid at k xs ys))) (sym is) in
    subst (Consumes a c) same (Consumes-kept a b c _ first none)

-- what is in a buffer before a place, after something was written from a later place on
pub kept-before : (start at k : ℕ) (xs ys old : List ℕ) → start ≤ at → at ≤ length xs
    → take start xs ≡ take start old → take start (put_mid at k xs ys) ≡ take start old
kept-before start at k xs ys old ordered within kept =
    take-put_mid_below at k xs ys start ordered within ∙ kept

-- what was read first, and what was read after it
pub read-both : (a b c : Option (List ℕ)) (first size : ℕ) (old new : List ℕ) → first ≤ size
    → take first new ≡ take first old → Consumes a b (take first old)
    → Consumes b c (drop first (take size new)) → Consumes a c (take size new)
read-both a b c first size old new ordered kept read more =
    let joined : take first old ++ drop first (take size new) ≡ take size new =
    ap (λ (zs : List ℕ). zs ++ drop first (take size new)) (sym kept ∙ sym (take-take first size new ordered))
    ∙ take-append-drop first (take size new) in
    subst (Consumes a c) joined (Consumes-trans a b c _ _ read more)

-- what was written is at the front
pub written-front : (spelling : List ℕ) (end : ℕ) (old new : List ℕ) → Writes spelling end old new
    → take end new ≡ spelling
written-front spelling end old new written =
    ap (take end) written.bytes ∙ take_at spelling (drop end old) end (sym written.ends)
