-- Parts of buffers.
use Rattle.std.proofs.Common.{◌≡◌, ℕ, ◌+◌, ◌-◌, ◌≤◌, List, [], ◌++◌, Option, Some, None, Result}
use Rattle.std.proofs.Common.{Ok, Err, IfOk, sym, ◌∙◌, ap, arith, drop, drop-drop, drop_at}
use Rattle.std.proofs.Common.{length, length-drop, length-take-le, take, take-append-drop, take-take}
use Rattle.std.proofs.Common.{take_at, append-nil}
use Rattle.std.proofs.Math.Seq.{take-add}
use Rattle.std.proofs.lemmas.List.{drop-take, take-append-le}
use Rattle.std.specs.Io.{ReadsAtMost}
use Rattle.std.specs.Io.KnownBytes.{Appends, Consumes, Keeps, ReadConsumes}

-- the bytes from a place to another
abbrev pub part : ℕ → ℕ → List ℕ → List ℕ
part from to bytes = take (to - from) (drop from bytes)

pub part-length : (bytes : List ℕ) (from to : ℕ) → from ≤ to → to ≤ length bytes
    → length (part from to bytes) ≡ to - from
part-length bytes from to ordered within =
    length-take-le (to - from) (drop from bytes) (omega (arith, length-drop from bytes))

-- without the first of them
pub part-shorter : (bytes : List ℕ) (from to count : ℕ) → from + count ≤ to
    → part (from + count) to bytes ≡ drop count (part from to bytes)
part-shorter bytes from to count fits =
    let left : to - from ≡ count + (to - (from + count)) = omega arith in
    ap (take (to - (from + count))) (sym (drop-drop count from bytes))
    ∙ sym (drop-take count (to - (from + count)) (drop from bytes))
    ∙ ap (λ (n : ℕ). drop count (take n (drop from bytes))) (sym left)

-- the first bytes of a buffer, to whose room after them something was written
behind-front : (front bytes rest : List ℕ) (filled count : ℕ) → length front ≡ filled
    → count ≤ length bytes
    → drop filled (take (filled + count) (front ++ (bytes ++ rest))) ≡ take count bytes
behind-front front bytes rest filled count long within =
    let all = front ++ (bytes ++ rest) in
    ap (drop filled) (take-add filled count all
    ∙ ap (λ (zs : List ℕ). zs ++ take count (drop filled all))
    (take_at front (bytes ++ rest) filled long)
    ∙ ap (λ (zs : List ℕ). front ++ take count zs) (drop_at front (bytes ++ rest) filled long)
    ∙ ap (λ (zs : List ℕ). front ++ zs) (take-append-le count bytes rest within))
    ∙ drop_at front (take count bytes) filled long

-- the same in a vector, whose part after the first bytes was lent
pub behind-lent : (items old bytes rest : List ℕ) (len filled count : ℕ)
    → length (take filled old ++ (bytes ++ rest)) ≡ len → filled ≤ length old
    → count ≤ length bytes
    → drop filled (take (filled + count) (take len (take filled old ++ (bytes ++ rest)
    ++ drop (length (take filled old ++ (bytes ++ rest))) items)))
    ≡ take count bytes
behind-lent items old bytes rest len filled count long within fits =
    let all = take filled old ++ (bytes ++ rest) in
    ap (λ (zs : List ℕ). drop filled (take (filled + count) zs))
    (take_at all (drop (length all) items) len long)
    ∙ behind-front (take filled old) bytes rest filled count (length-take-le filled old within) fits

-- what was read, where it is
pub read-there : {E : Type 0} (old new : Option (List ℕ)) (result : Result ℕ E) (bytes : List ℕ)
    (there : ℕ → List ℕ) → ReadConsumes old new result bytes → ReadsAtMost result bytes
    → ((count : ℕ) → count ≤ length bytes → there count ≡ take count bytes)
    → IfOk result (λ count. Consumes old new (there count))
read-there old new (Ok count) bytes there read bound same = rw (same count bound.0) read.0
read-there old new (Err error) bytes there read bound same = tt

-- what a buffer has gained
pub gained-length : (bytes : List ℕ) (filled count : ℕ) → filled + count ≤ length bytes
    → length (drop filled (take (filled + count) bytes)) ≡ count
gained-length bytes filled count fits =
    omega (
      arith,
      length-drop filled (take (filled + count) bytes),
      length-take-le (filled + count) bytes fits,
    )

pub gained : (old new : List ℕ) (filled count : ℕ) → take filled new ≡ old
    → take (filled + count) new ≡ old ++ drop filled (take (filled + count) new)
gained old new filled count kept =
    sym (take-append-drop filled (take (filled + count) new))
    ∙ ap (λ (zs : List ℕ). zs ++ drop filled (take (filled + count) new))
    (take-take filled (filled + count) new (omega arith) ∙ kept)

-- No bytes.

pub none-consumed : (old new : Option (List ℕ)) → Keeps old new → Consumes old new []
none-consumed None new kept = tt
none-consumed (Some xs) None kept = kept
none-consumed (Some xs) (Some ys) kept = sym kept

pub none-appended : (old new : Option (List ℕ)) → Keeps old new → Appends old new []
none-appended None new kept = tt
none-appended (Some xs) None kept = kept
none-appended (Some xs) (Some ys) kept = kept ∙ sym (append-nil xs)
