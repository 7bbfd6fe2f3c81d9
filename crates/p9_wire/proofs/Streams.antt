-- The frames of a byte string, case by case.
use Rattle.std.proofs.Common.{◌≡◌, ℕ, zero, suc, ◌≤◌, ◌<◌, Bool, true, false, cond, ◌||◌, ltb, List}
use Rattle.std.proofs.Common.{◌++◌, length, take, drop, inl, inr, refl, ap, subst, sym, ◌∙◌, arith}
use Rattle.std.proofs.Common.{◌&&◌, nat_le, ◌==◌}
use Rattle.std.proofs.lemmas.Bool.{and_parts, cases_lt, ltb-false, lt-ltb, le-ltb}
use Rattle.std.proofs.lemmas.Bool.Decides.{nat_tests}
use Rattle.std.proofs.lemmas.List.{length-append, length-drop, length-take, take-append-drop}
use Rattle.byteorder.specs.Endian.{little_number}
use Rattle.byteorder.specs.Numbers.{little_from-append}
use Rattle.p9_wire.specs.declared.frame.Frame.{Frame}
use Rattle.p9_wire.specs.declared.frame.Frame.TheVariants.{Need, Whole, Broken}
use Rattle.p9_wire.specs.Frame.{header, msize_max, is_frame, first_frame, Frames, Next, frames_by}
use Rattle.p9_wire.specs.Frame.{frames_within, frames, BeginsFrames}

-- the choice that ends at a whole frame
chosen : (a b c d : Bool) (m n : ℕ)
    → cond a Need (cond (b || c) Broken (cond d Need (Whole m))) ≡ Whole n
    → (a ≡ false) × (b ≡ false) × (c ≡ false) × (d ≡ false) × (m ≡ n)
chosen false false false false m n e = (refl, refl, refl, refl, cc)
chosen false false false true m n e = absurd cc
chosen false false true d m n e = absurd cc
chosen false true c d m n e = absurd cc
chosen true b c d m n e = absurd cc

-- a whole frame has seven bytes or more
pub whole_size : (bytes : List ℕ) (size : ℕ) → first_frame bytes ≡ Whole size → 7 ≤ size
whole_size bytes size e =
    let said = little_number 4 bytes in
    let c =
    chosen (ltb (length bytes) 4) (ltb said 7) (ltb msize_max said) (ltb (length bytes) said)
    said size e in
    let least : 7 ≤ said = ltb-false _ _ c.1 in
    omega (arith, c.4)

-- fewer than four bytes hold no size
pub first_frame-few : (bytes : List ℕ) → length bytes < 4 → first_frame bytes ≡ Need
first_frame-few bytes short =
    let few : ltb (length bytes) 4 ≡ true = lt-ltb _ _ (omega arith) in rw few refl

-- what follows is looked at only behind a whole frame
frames_by-same : (f : Frame) (bytes : List ℕ) (r s : List ℕ → Frames)
    → ((size : ℕ) → f ≡ Whole size → r (drop size bytes) ≡ s (drop size bytes))
    → frames_by f bytes r ≡ frames_by f bytes s
frames_by-same Need bytes r s h = refl
frames_by-same (Whole size) bytes r s h = ap (Next (take size bytes)) (h size refl)
frames_by-same Broken bytes r s h = refl

-- no more frames than bytes are looked for
frames_within-enough : (k j : ℕ) (bytes : List ℕ) → length bytes ≤ k → length bytes ≤ j
    → frames_within k bytes ≡ frames_within j bytes
unfolding frames_within
frames_within-enough zero zero bytes p q = refl
frames_within-enough zero (suc j) bytes p q = rw (first_frame-few bytes (omega arith)) refl
frames_within-enough (suc k) zero bytes p q = rw (first_frame-few bytes (omega arith)) refl
frames_within-enough (suc k) (suc j) bytes p q =
    frames_by-same (first_frame bytes) bytes (frames_within k) (frames_within j) (λ size e.
    let some : 7 ≤ size = whole_size bytes size e in
    frames_within-enough k j (drop size bytes) (omega (arith, length-drop size bytes))
    (omega (arith, length-drop size bytes)))

-- the frames of a byte string begin with what is at its front
pub begins_frames : (bytes : List ℕ) → BeginsFrames (first_frame bytes) bytes
unfolding frames frames_within
begins_frames bytes = begun (first_frame bytes) refl
  where
    once : frames bytes ≡ frames_by (first_frame bytes) bytes (frames_within (length bytes))
    once =
        frames_within-enough (length bytes) (suc (length bytes)) bytes (omega arith) (omega arith)

    begun : (f : Frame) → first_frame bytes ≡ f → BeginsFrames f bytes
    begun Need e = once ∙ ap (λ (f : Frame). frames_by f bytes (frames_within (length bytes))) e
    begun (Whole size) e =
        once ∙ ap (λ (f : Frame). frames_by f bytes (frames_within (length bytes))) e
        ∙ ap (Next (take size bytes))
        (frames_within-enough (length bytes) (length (drop size bytes)) (drop size bytes)
        (omega (arith, length-drop size bytes)) (omega arith))
    begun Broken e = once ∙ ap (λ (f : Frame). frames_by f bytes (frames_within (length bytes))) e

-- the same, of an answer that equals it
pub begins_frames_as : (f : Frame) (bytes : List ℕ) → first_frame bytes ≡ f → BeginsFrames f bytes
begins_frames_as f bytes e = subst (λ (g : Frame). BeginsFrames g bytes) e (begins_frames bytes)

-- the choice at the front, where more bytes cannot be too few complete
still : (b p q : Bool) (size : ℕ) → (p ≡ false → q ≡ false)
    → (cond b Broken (cond p Need (Whole size)) ≡ Need → ⊥)
    → cond b Broken (cond q Need (Whole size)) ≡ cond b Broken (cond p Need (Whole size))
still true p q size more known = refl
still false true q size more known = absurd (known refl)
still false false q size more known = rw (more refl) refl

-- bytes that come later leave a whole frame whole and a broken size broken
pub first_frame-append : (bytes more : List ℕ) → (first_frame bytes ≡ Need → ⊥)
    → first_frame (bytes ++ more) ≡ first_frame bytes
first_frame-append bytes more known = elim (cases_lt (length bytes) 4) [
  | inl few ↦ absurd (known (first_frame-few bytes few))
  | inr enough ↦
      let old : ltb (length bytes) 4 ≡ false = le-ltb _ _ enough in
      let new : ltb (length (bytes ++ more)) 4 ≡ false =
      le-ltb _ _ (omega (arith, length-append bytes more)) in
      let size = little_number 4 bytes in
      let said : little_number 4 (bytes ++ more) ≡ size = little_from-append 4 bytes more enough in
      let longer : ltb (length bytes) size ≡ false → ltb (length (bytes ++ more)) size ≡ false =
      λ e. let held : size ≤ length bytes =
      ltb-false _ _ e in le-ltb _ _ (omega (arith, held, length-append bytes more)) in
      rw (new, old, said)
      (still (ltb size 7 || ltb msize_max size) (ltb (length bytes) size)
      (ltb (length (bytes ++ more)) size) size longer (λ e. known (rw old e)))
]

-- a whole frame is the first of itself
frame-first : (frame : List ℕ) → is_frame frame ≡ true → first_frame frame ≡ Whole (length frame)
frame-first frame whole =
    let parts =
    and_parts (nat_le header (length frame) && nat_le (length frame) msize_max)
    (little_number 4 frame == length frame) whole in
    let sizes =
    and_parts (nat_le header (length frame)) (nat_le (length frame) msize_max) parts.0 in
    let said : little_number 4 frame ≡ length frame = grind (arith, nat_tests, parts.1) in
    let low : header ≤ length frame = grind (arith, nat_tests, sizes.0) in
    let high : length frame ≤ msize_max = grind (arith, nat_tests, sizes.1) in
    let enough : ltb (length frame) 4 ≡ false = le-ltb _ _ (omega arith) in
    let least : ltb (length frame) header ≡ false = le-ltb _ _ low in
    let most : ltb msize_max (length frame) ≡ false = le-ltb _ _ high in
    let all : ltb (length frame) (length frame) ≡ false = le-ltb _ _ (omega arith) in
    rw (enough, said, least, most, all) refl

-- and of all bytes that begin with it
pub frame-first-append : (frame more : List ℕ) → is_frame frame ≡ true
    → first_frame (frame ++ more) ≡ Whole (length frame)
frame-first-append frame more whole =
    let first = frame-first frame whole in
    first_frame-append frame more (λ need. let no : Need ≡ Whole (length frame) =
    sym need ∙ first in absurd (cc))
    ∙ first

-- the first frame of bytes is a whole one
pub first_frame-whole : (bytes : List ℕ) (size : ℕ) → first_frame bytes ≡ Whole size
    → (is_frame (take size bytes) ≡ true) × (length (take size bytes) ≡ size)
first_frame-whole bytes size e =
    let said = little_number 4 bytes in
    let c =
    chosen (ltb (length bytes) 4) (ltb said 7) (ltb msize_max said) (ltb (length bytes) said)
    said size e in
    let low : 7 ≤ said = ltb-false _ _ c.1 in
    let high : said ≤ msize_max = ltb-false _ _ c.2 in
    let held : said ≤ length bytes = ltb-false _ _ c.3 in
    let long : length (take size bytes) ≡ size = omega (arith, length-take size bytes, c.4) in
    let same : little_number 4 (take size bytes) ≡ said =
    sym (little_from-append 4 (take size bytes) (drop size bytes) (omega (arith, c.4)))
    ∙ ap (little_number 4) (take-append-drop size bytes) in
    (rw (same, long, c.4) (grind (arith, nat_tests, low, high, c.4)), long)
