-- How a file of blocks is read.
use Rattle.std.proofs.Common.{◌≡◌, ℕ, zero, suc, ◌+◌, ◌≤◌, ◌<◌, ◌^◌, Bool, true, false, cond, eqb, ltb}
use Rattle.std.proofs.Common.{List, [], ◌∷◌, ◌++◌, length, take, drop, Option, Some, None, refl, sym}
use Rattle.std.proofs.Common.{ap, subst, ◌∙◌, append_assoc, arith, take-append-drop, length-append}
use Rattle.std.proofs.lemmas.Bool.{ltb-false, le-ltb, eqb-true}
use Rattle.std.proofs.lemmas.List.{append-nil, take_at, drop_at, length-take-le}
use Rattle.byteorder.specs.Endian.{little_number}
use Rattle.byteorder.specs.Numbers.{little_from-take, little_from-append, little_number-reads_back}
use Rattle.byteorder.specs.Numbers.{length-bytes_low_first}
use Rattle.p9_log.specs.declared.crash.Crash.{Crash}
use Rattle.p9_log.specs.declared.crash.Crash.TheVariants.{Killed, Stopped}
use Rattle.p9_log.specs.Blocks.{number, bytes_at, sized_at, counts, behind, with_behind, block_at}
use Rattle.p9_log.specs.Blocks.{content_after, content_by, content_in}

-- a test that did not fail
if_not : {A : Type 0} (b : Bool) (r : Option A) (y : A) → cond b None r ≡ Some y
    → (b ≡ false) × (r ≡ Some y)
if_not false r y e = (refl, e)
if_not true r y e = absurd cc

-- a test that let it go on
when_passed : {A : Type 0} (b : Bool) (r : Option A) (y : A) → cond b r None ≡ Some y
    → (b ≡ true) × (r ≡ Some y)
when_passed true r y e = (refl, e)
when_passed false r y e = absurd cc

pub none_unless : {A : Type 0} (r : Option A) → ((x : A) → r ≡ Some x → ⊥) → r ≡ None
none_unless None never = refl
none_unless (Some x) never = absurd (never x refl)

pub none_is_not_some : {A : Type 0} (r : Option A) (x : A) → r ≡ None → r ≡ Some x → ⊥
none_is_not_some r x none some = cc

-- the eight bytes of a number are eight
pub length-number : (n : ℕ) → length (number n) ≡ 8
unfolding number
length-number n = length-bytes_low_first 0 8 n

-- and are read as the number
pub number-reads : (n : ℕ) → n < 2 ^ 64 → little_number 8 (number n) ≡ n
unfolding number
number-reads n small =
    ap (little_number 8) (sym (append-nil (number n))) ∙ little_number-reads_back 8 n [] small

-- bytes with their number before them
pub sized-back : (head bytes more : List ℕ) → length head ≡ 8 → little_number 8 head ≡ length bytes
    → sized_at (head ++ (bytes ++ more)) ≡ Some (bytes, more)
unfolding sized_at
sized-back head bytes more eight is =
    let long : ltb (length (head ++ (bytes ++ more))) 8 ≡ false =
    le-ltb _ _ (omega (arith, length-append head (bytes ++ more))) in
    let n : little_number 8 (head ++ (bytes ++ more)) ≡ length bytes =
    little_from-append 8 head (bytes ++ more) (omega arith) ∙ is in
    let rest : drop 8 (head ++ (bytes ++ more)) ≡ bytes ++ more = drop_at head (bytes ++ more) 8 eight in
    let enough : ltb (length (bytes ++ more)) (length bytes) ≡ false =
    le-ltb _ _ (omega (arith, length-append bytes more)) in
    rw (long, n, rest, enough, take_at bytes more (length bytes) refl, drop_at bytes more (length bytes) refl)
    refl

-- what was read so
pub record IsSized (bytes : List ℕ) (x : List ℕ × List ℕ) : Type 0 where
  pub head : List ℕ
  pub whole : bytes ≡ head ++ (x.0 ++ x.1)
  pub eight : length head ≡ 8
  pub is : little_number 8 head ≡ length x.0

pub sized-parts : (bytes : List ℕ) (x : List ℕ × List ℕ) → sized_at bytes ≡ Some x → IsSized bytes x
unfolding sized_at
sized-parts bytes x e =
    let first = if_not (ltb (length bytes) 8) (bytes_at (little_number 8 bytes) (drop 8 bytes)) x e in
    let long : 8 ≤ length bytes = ltb-false _ _ first.0 in
    let n = little_number 8 bytes in
    let rest = drop 8 bytes in
    let second = if_not (ltb (length rest) n) (Some (take n rest, drop n rest)) x first.1 in
    let there : n ≤ length rest = ltb-false _ _ second.0 in
    let is : (take n rest, drop n rest) ≡ x = cc (second.1) in
    subst (IsSized bytes) is (record {
      head = take 8 bytes;
      whole = sym (take-append-drop 8 bytes) ∙ ap (λ bs. take 8 bytes ++ bs) (sym (take-append-drop n rest));
      eight = length-take-le 8 bytes long;
      is = little_from-take 0 8 8 bytes (omega arith) ∙ sym (length-take-le n rest there);
    })

-- a block whose write gate is open, and what is behind it
pub block-back : (how : Crash) (gate : ℕ) (head bytes more : List ℕ) → counts how gate 1 ≡ true
    → length head ≡ 8 → little_number 8 head ≡ length bytes
    → block_at how ((gate ∷ 1 ∷ head ++ bytes) ++ more) ≡ Some (bytes, behind how gate, more)
block-back how gate head bytes more counted eight is =
    rw (counted, append_assoc head bytes more, sized-back head bytes more eight is) refl

-- what was read so
pub record IsBlock (how : Crash) (file : List ℕ) (x : List ℕ × Crash × List ℕ) : Type 0 where
  pub gate : ℕ
  pub head : List ℕ
  pub whole : file ≡ (gate ∷ 1 ∷ head ++ x.0) ++ x.2
  pub counted : counts how gate 1 ≡ true
  pub after : x.1 ≡ behind how gate
  pub eight : length head ≡ 8
  pub is : little_number 8 head ≡ length x.0

write_gate : (how : Crash) (s w : ℕ) → counts how s w ≡ true → w ≡ 1
write_gate Killed s w e = eqb-true w 1 e
write_gate Stopped s w e = go (eqb s 1) e
  where
    go : (b : Bool) → cond b (eqb w 1) false ≡ true → w ≡ 1
    go true e = eqb-true w 1 e
    go false e = absurd cc

behind-parts : (how : Crash) (r : Option (List ℕ × List ℕ)) (x : List ℕ × Crash × List ℕ)
    → with_behind how r ≡ Some x → (r ≡ Some (x.0, x.2)) × (x.1 ≡ how)
behind-parts how None x e = absurd cc
behind-parts how (Some y) x e =
    let is : (y.0, how, y.1) ≡ x = cc in
    (ap (λ (z : List ℕ × Crash × List ℕ). Some (z.0, z.2)) is, sym (ap (λ (z : List ℕ × Crash × List ℕ). z.1) is))

pub block-parts : (how : Crash) (file : List ℕ) (x : List ℕ × Crash × List ℕ)
    → block_at how file ≡ Some x → IsBlock how file x
block-parts how [] x e = absurd cc
block-parts how (s ∷ []) x e = absurd cc
block-parts how (s ∷ w ∷ rest) x e =
    let passed = when_passed (counts how s w) (with_behind (behind how s) (sized_at rest)) x e in
    let one : w ≡ 1 = write_gate how s w passed.0 in
    let sized = behind-parts (behind how s) (sized_at rest) x passed.1 in
    let parts = sized-parts rest (x.0, x.2) sized.0 in
    record {
      gate = s;
      head = parts.head;
      whole = ap (λ (v : ℕ). s ∷ v ∷ rest) one ∙ ap (λ (bs : List ℕ). s ∷ 1 ∷ bs) (parts.whole ∙ sym (append_assoc parts.head x.0 x.2));
      counted = subst (λ (v : ℕ). counts how s v ≡ true) one passed.0;
      after = sized.1;
      eight = parts.eight;
      is = parts.is;
    }

-- a block of its ten bytes and others
pub block-long : (how : Crash) (file : List ℕ) (x : List ℕ × Crash × List ℕ) → block_at how file ≡ Some x
    → length x.2 + 10 ≤ length file
block-long how file x e =
    let b = block-parts how file x e in
    omega (
      arith,
      ap length b.whole,
      length-append (b.gate ∷ 1 ∷ b.head ++ x.0) x.2,
      length-append b.head x.0,
      b.eight,
    )

-- more turns than bytes change nothing
enough : (n m : ℕ) (how : Crash) (file : List ℕ) → length file ≤ n → length file ≤ m
    → content_by n how file ≡ content_by m how file
enough zero zero how file a b = refl
enough zero (suc m) how [] a b = refl
enough zero (suc m) how (byte ∷ bytes) a b = absurd (omega arith)
enough (suc n) zero how [] a b = refl
enough (suc n) zero how (byte ∷ bytes) a b = absurd (omega arith)
enough (suc n) (suc m) how file a b =
    go (block_at how file) refl (λ (after : Crash) (rest : List ℕ) c. enough n m after rest (omega arith) (omega arith))
  where
    go : (r : Option (List ℕ × Crash × List ℕ)) → block_at how file ≡ r
        → ((after : Crash) (rest : List ℕ) → length rest < length file
        → content_by n after rest ≡ content_by m after rest)
        → content_after (content_by n) r ≡ content_after (content_by m) r
    go None e same = refl
    go (Some x) e same =
        let long = block-long how file x e in
        ap (λ bs. x.0 ++ bs) (same x.1 x.2 (omega arith))

-- the first block, and what is behind it
pub content-step : (how : Crash) (file : List ℕ) (x : List ℕ × Crash × List ℕ)
    → block_at how file ≡ Some x → content_in how file ≡ x.0 ++ content_in x.1 x.2
unfolding content_in
content-step how file x e =
    let long = block-long how file x e in
    enough (length file) (suc (length file)) how file (omega arith) (omega arith)
    ∙ ap (content_after (content_by (length file))) e
    ∙ ap (λ bs. x.0 ++ bs) (enough (length file) (length x.2) x.1 x.2 (omega arith) (omega arith))

-- no block
pub content-stop : (how : Crash) (file : List ℕ) → block_at how file ≡ None → content_in how file ≡ []
unfolding content_in
content-stop how file e =
    enough (length file) (suc (length file)) how file (omega arith) (omega arith)
    ∙ ap (content_after (content_by (length file))) e

-- too few bytes for a block
pub short : (how : Crash) (file : List ℕ) → length file < 10 → block_at how file ≡ None
short how file few =
    none_unless _ (λ x e. let long = block-long how file x e in absurd (omega arith))

-- a closed write gate
pub shut : (how : Crash) (gate : ℕ) (rest : List ℕ) → block_at how (gate ∷ 0 ∷ rest) ≡ None
shut Killed gate rest = refl
shut Stopped gate rest = go (eqb gate 1)
  where
    go : (b : Bool) → cond (cond b false false) (with_behind Stopped (sized_at rest)) None ≡ None
    go true = refl
    go false = refl

-- a closed sync gate
pub closed : (gate : ℕ) (rest : List ℕ) → eqb gate 1 ≡ false → block_at Stopped (gate ∷ rest) ≡ None
closed gate [] e = refl
closed gate (w ∷ rest) e = rw e refl

-- no block after a kill, no block after a stop
pub killed-stop : (file : List ℕ) → block_at Killed file ≡ None → block_at Stopped file ≡ None
killed-stop file none =
    none_unless _ (λ x e.
    let b = block-parts Stopped file x e in
    none_is_not_some (block_at Killed file) (x.0, behind Killed b.gate, x.2) none
    (ap (block_at Killed) b.whole ∙ block-back Killed b.gate b.head x.0 x.2 refl b.eight b.is))
