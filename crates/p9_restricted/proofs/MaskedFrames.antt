-- The frames of what is made of bytes.
use Rattle.std.proofs.Common.{◌≡◌, ℕ, zero, suc, ◌+◌, ◌≤◌, ◌<◌, true, false, ◌||◌, ◌&&◌, leb}
use Rattle.std.proofs.Common.{ltb, List, [], ◌++◌, ◌==◌, length, take, drop, replicate, inl, inr, refl}
use Rattle.std.proofs.Common.{ap, sym, ◌∙◌, subst, arith}
use Rattle.std.proofs.lemmas.List.{append-nil, append_assoc}
use Rattle.std.proofs.lemmas.Bool.{and_parts, cases_lt, cond_both, ltb-true, ltb-false}
use Rattle.std.proofs.lemmas.Bool.{leb-true, lt-ltb, le-ltb, or_parts}
use Rattle.std.proofs.lemmas.List.{drop_all, drop_at, length-drop}
use Rattle.std.proofs.lemmas.List.{length-take, take-append-drop, take_all, take_at}
use Rattle.byteorder.specs.Endian.{little_number}
use Rattle.byteorder.specs.Numbers.{little_from-append}
use Rattle.p9_wire.specs.Frame.{header, msize_max, is_frame, first_frame, Frames, Next, Rest}
use Rattle.p9_wire.specs.Frame.{BrokenSize, frames}
use Rattle.p9_wire.specs.declared.frame.Frame.TheVariants as wire
use Rattle.p9_wire.proofs.Streams.{begins_frames_as, first_frame-whole, frame-first-append}
use Rattle.p9_restricted.specs.declared.front.Front.{Front}
use Rattle.p9_restricted.specs.declared.front.Front.TheVariants.{Undecided, Broken, Frame}
use Rattle.p9_restricted.specs.Front.{IsWithin, attach_front, blanked, front_of, name_at}
use Rattle.p9_restricted.specs.Front.{name_len, type_of}
use Rattle.p9_base.specs.User.{user_max}
use Rattle.p9_restricted.specs.Masked.{masked, masked_within}
use Rattle.p9_restricted.specs.Laws.{FramesAreMasked, each_masked}
use Rattle.p9_restricted.proofs.Blanks.{length-blanked}
use Rattle.p9_restricted.proofs.Fronts.{FitsIn, front_of-append, front_of-fits}
use Rattle.p9_restricted.proofs.Maskings.{masked-front_as}

-- what is said of the front agrees with what the frames of the bytes begin with
abbrev AgreesWith : Front → List ℕ → Type 0
AgreesWith Undecided bytes = first_frame bytes ≡ wire.Need
AgreesWith Broken bytes = first_frame bytes ≡ wire.Broken
AgreesWith (Frame size mask) bytes =
    (4 ≤ length bytes) × (little_number 4 bytes ≡ size) × (header ≤ size) × (size ≤ msize_max)

-- a frame of which bytes lack
short_frame : (bytes : List ℕ) → 4 ≤ length bytes → header ≤ little_number 4 bytes
    → little_number 4 bytes ≤ msize_max → length bytes < little_number 4 bytes
    → first_frame bytes ≡ wire.Need
short_frame bytes enough low high short =
    let a : ltb (length bytes) 4 ≡ false = le-ltb _ _ enough in
    let b : ltb (little_number 4 bytes) header ≡ false = le-ltb _ _ low in
    let c : ltb msize_max (little_number 4 bytes) ≡ false = le-ltb _ _ high in
    let d : ltb (length bytes) (little_number 4 bytes) ≡ true = lt-ltb _ _ short in
    rw (a, b, c, d) refl

-- a frame of which none lack
whole_frame : (bytes : List ℕ) → 4 ≤ length bytes → header ≤ little_number 4 bytes
    → little_number 4 bytes ≤ msize_max → little_number 4 bytes ≤ length bytes
    → first_frame bytes ≡ wire.Whole (little_number 4 bytes)
whole_frame bytes enough low high held =
    let a : ltb (length bytes) 4 ≡ false = le-ltb _ _ enough in
    let b : ltb (little_number 4 bytes) header ≡ false = le-ltb _ _ low in
    let c : ltb msize_max (little_number 4 bytes) ≡ false = le-ltb _ _ high in
    let d : ltb (length bytes) (little_number 4 bytes) ≡ false = le-ltb _ _ held in
    rw (a, b, c, d) refl

attach_front-agrees : (users : List (List ℕ)) (bytes : List ℕ) → 4 ≤ length bytes
    → header ≤ little_number 4 bytes → little_number 4 bytes ≤ msize_max
    → name_at ≤ little_number 4 bytes
    → AgreesWith (attach_front users (little_number 4 bytes) bytes) bytes
attach_front-agrees users bytes enough low high long =
    let size = little_number 4 bytes in
    let len = name_len bytes in
    cond_both (ltb (length bytes) name_at) Undecided _ (λ f. AgreesWith f bytes)
    (λ e. let few : length bytes < name_at = ltb-true _ _ e in
    short_frame bytes enough low high (omega arith))
    (λ e. cond_both (ltb user_max len || ltb size (name_at + len)) (Frame size 0) _
    (λ f. AgreesWith f bytes) (λ e. (enough, refl, low, high))
    (λ fits.
    let parts = or_parts (ltb user_max len) (ltb size (name_at + len)) fits in
    let room : name_at + len ≤ size = ltb-false _ _ parts.1 in
    cond_both (ltb (length bytes) (name_at + len)) Undecided _ (λ f. AgreesWith f bytes)
    (λ e. let few : length bytes < name_at + len = ltb-true _ _ e in
    short_frame bytes enough low high (omega arith))
    (λ e. (enough, refl, low, high))))

front_of-agrees : (users : List (List ℕ)) (bytes : List ℕ)
    → AgreesWith (front_of users bytes) bytes
front_of-agrees users bytes =
    let size = little_number 4 bytes in
    cond_both (ltb (length bytes) 4) Undecided _ (λ f. AgreesWith f bytes)
    (λ e. rw e refl)
    (λ e. let enough : 4 ≤ length bytes = ltb-false _ _ e in
    cond_both (ltb size header || ltb msize_max size) Broken _ (λ f. AgreesWith f bytes)
    (λ bad. rw (e, bad) refl)
    (λ fits.
    let parts = or_parts (ltb size header) (ltb msize_max size) fits in
    let low : header ≤ size = ltb-false _ _ parts.0 in
    let high : size ≤ msize_max = ltb-false _ _ parts.1 in
    cond_both (ltb (length bytes) 5) Undecided _ (λ f. AgreesWith f bytes)
    (λ e. let few : length bytes < 5 = ltb-true _ _ e in
    short_frame bytes enough low high (omega arith))
    (λ e. cond_both (type_of bytes == 104 && leb name_at size) (attach_front users size bytes)
    (Frame size 0) (λ f. AgreesWith f bytes)
    (λ long. attach_front-agrees users bytes enough low high
    (leb-true _ _ (and_parts (type_of bytes == 104) (leb name_at size) long).1))
    (λ e. (enough, refl, low, high)))))

-- the same, of an answer that equals it
agrees_as : (users : List (List ℕ)) (bytes : List ℕ) (f : Front) → front_of users bytes ≡ f
    → AgreesWith f bytes
agrees_as users bytes f e = subst (λ g. AgreesWith g bytes) e (front_of-agrees users bytes)

-- numbers before the name stay as they are
number-blanked : (n mask : ℕ) (bytes : List ℕ) → n ≤ name_at → n ≤ length bytes
    → little_number n (blanked mask bytes) ≡ little_number n bytes
number-blanked n mask bytes early held =
    let start = take name_at bytes in
    let end = drop (name_at + mask) bytes in
    let blanks : List ℕ = replicate mask 32 in
    let there : n ≤ length start = omega (arith, length-take name_at bytes) in
    ap (little_number n) (append_assoc start blanks end)
    ∙ little_from-append n start (blanks ++ end) there
    ∙ sym (little_from-append n start (drop name_at bytes) there)
    ∙ ap (little_number n) (take-append-drop name_at bytes)

-- bytes that begin no frame are all of them the rest
rest_as : (bytes : List ℕ) → first_frame bytes ≡ wire.Need → frames bytes ≡ Rest bytes
rest_as bytes e = begins_frames_as wire.Need bytes e

-- what is made of one whole frame
pub masked_whole : (users : List (List ℕ)) (frame : List ℕ) (mask : ℕ)
    → front_of users frame ≡ Frame (length frame) mask → masked users frame ≡ blanked mask frame
unfolding masked masked_within
masked_whole users frame mask said =
    masked-front_as users frame (Frame (length frame) mask) said
    ∙ ap (λ xs. blanked mask xs ++ masked users (drop (length frame) frame))
    (take_all (length frame) frame (omega arith))
    ∙ ap (λ xs. blanked mask frame ++ masked users xs) (drop_all (length frame) frame (omega arith))
    ∙ append-nil (blanked mask frame)

-- the blanks are in a frame, whose size stays as it is
is_frame-blanked : (mask : ℕ) (frame : List ℕ) → is_frame frame ≡ true
    → IsWithin mask (length frame) → is_frame (blanked mask frame) ≡ true
is_frame-blanked mask frame whole within =
    let long = length-blanked mask frame within in
    let parts =
    and_parts (leb header (length frame) && leb (length frame) msize_max)
    (little_number 4 frame == length frame) whole in
    let sizes = and_parts (leb header (length frame)) (leb (length frame) msize_max) parts.0 in
    let low : header ≤ length frame = leb-true _ _ sizes.0 in
    let said : little_number 4 (blanked mask frame) ≡ little_number 4 frame =
    number-blanked 4 mask frame (omega arith) (omega arith) in
    rw (long, said) whole

-- a frame, and bytes after it
masked_more : (users : List (List ℕ)) (bytes : List ℕ) (size mask : ℕ) (others : Frames)
    → front_of users bytes ≡ Frame size mask → size ≤ length bytes
    → frames (masked users (drop size bytes)) ≡ others
    → (frames bytes ≡ Next (take size bytes) (frames (drop size bytes)))
    × (frames (masked users bytes) ≡ Next (masked users (take size bytes)) others)
masked_more users bytes size mask others said held later =
    let agrees = agrees_as users bytes (Frame size mask) said in
    let fits = subst (λ f. FitsIn f bytes) said (front_of-fits users bytes) in
    let number : little_number 4 bytes ≡ size = agrees.1 in
    let first : first_frame bytes ≡ wire.Whole size =
    whole_frame bytes agrees.0 (omega (arith, agrees.2)) (omega (arith, agrees.3)) (omega arith)
    ∙ ap wire.Whole number in
    let frame = take size bytes in
    let rest = masked users (drop size bytes) in
    let whole = first_frame-whole bytes size first in
    let long : length frame ≡ size = whole.1 in
    let inside : IsWithin mask (length frame) = λ some. let a = fits.1 some in omega arith in
    let begun : front_of users frame ≡ Frame size mask =
    sym (front_of-append users frame (drop size bytes) (λ e.
    let need : first_frame frame ≡ wire.Need = agrees_as users frame Undecided e in
    let here : first_frame (frame ++ []) ≡ wire.Whole (length frame) =
    frame-first-append frame [] whole.0 in
    let no : wire.Need ≡ wire.Whole (length frame) =
    sym need ∙ ap first_frame (sym (append-nil frame)) ∙ here in absurd (cc)))
    ∙ ap (front_of users) (take-append-drop size bytes) ∙ said in
    let blanks : masked users frame ≡ blanked mask frame =
    masked_whole users frame mask (begun ∙ ap (λ n. Frame n mask) (sym long)) in
    let all : masked users bytes ≡ masked users frame ++ rest =
    masked-front_as users bytes (Frame size mask) said
    ∙ ap (λ xs. xs ++ rest) (sym blanks) in
    let length_is : length (masked users frame) ≡ size =
    ap length blanks ∙ length-blanked mask frame inside ∙ long in
    let framed : is_frame (masked users frame) ≡ true =
    ap is_frame blanks ∙ is_frame-blanked mask frame whole.0 inside in
    let again : first_frame (masked users frame ++ rest) ≡ wire.Whole size =
    frame-first-append (masked users frame) rest framed ∙ ap wire.Whole length_is in (
      begins_frames_as (wire.Whole size) bytes first,
      ap frames all ∙ begins_frames_as (wire.Whole size) (masked users frame ++ rest) again
          ∙ ap (λ xs. Next xs (frames (drop size (masked users frame ++ rest))))
          (take_at (masked users frame) rest size length_is)
          ∙ ap (λ xs. Next (masked users frame) (frames xs)) (drop_at (masked users frame) rest size length_is)
          ∙ ap (Next (masked users frame)) later,
    )

-- a frame of which bytes lack
masked_short : (users : List (List ℕ)) (bytes : List ℕ) (size mask : ℕ)
    → front_of users bytes ≡ Frame size mask → length bytes < size
    → (frames bytes ≡ Rest bytes) × (frames (masked users bytes) ≡ Rest (masked users bytes))
unfolding masked masked_within
masked_short users bytes size mask said short =
    let agrees = agrees_as users bytes (Frame size mask) said in
    let fits = subst (λ f. FitsIn f bytes) said (front_of-fits users bytes) in
    let number : little_number 4 bytes ≡ size = agrees.1 in
    let all : masked users bytes ≡ blanked mask bytes =
    masked-front_as users bytes (Frame size mask) said
    ∙ ap (λ xs. blanked mask xs ++ masked users (drop size bytes))
    (take_all size bytes (omega arith))
    ∙ ap (λ xs. blanked mask bytes ++ masked users xs) (drop_all size bytes (omega arith))
    ∙ append-nil (blanked mask bytes) in
    let long : length (masked users bytes) ≡ length bytes =
    ap length all ∙ length-blanked mask bytes fits.2 in
    let enough : 4 ≤ length bytes = agrees.0 in
    let same : little_number 4 (masked users bytes) ≡ size =
    ap (little_number 4) all ∙ number-blanked 4 mask bytes (omega arith) enough ∙ number in (
      rest_as bytes
          (short_frame bytes enough (omega (arith, agrees.2)) (omega (arith, agrees.3)) (omega arith)),
      rest_as (masked users bytes)
          (short_frame (masked users bytes) (omega arith) (omega (arith, agrees.2))
          (omega (arith, agrees.3)) (omega arith)),
    )

-- by what is at the front, where the law holds of all shorter bytes
masked_by_front : (users : List (List ℕ)) (bytes : List ℕ) (f : Front) → front_of users bytes ≡ f
    → ((size : ℕ) → 7 ≤ size → size ≤ length bytes
    → frames (masked users (drop size bytes)) ≡ each_masked users (frames (drop size bytes)))
    → frames (masked users bytes) ≡ each_masked users (frames bytes)
masked_by_front users bytes Undecided said shorter =
    let same : masked users bytes ≡ bytes = masked-front_as users bytes Undecided said in
    let rest : frames bytes ≡ Rest bytes =
    rest_as bytes (agrees_as users bytes Undecided said) in
    ap frames same ∙ rest ∙ ap Rest (sym same) ∙ ap (each_masked users) (sym rest)
masked_by_front users bytes Broken said shorter =
    let same : masked users bytes ≡ bytes = masked-front_as users bytes Broken said in
    let bad : frames bytes ≡ BrokenSize =
    begins_frames_as wire.Broken bytes (agrees_as users bytes Broken said) in
    ap frames same ∙ bad ∙ ap (each_masked users) (sym bad)
masked_by_front users bytes (Frame size mask) said shorter =
    elim (cases_lt (length bytes) size) [
      | inl short ↦
          let its = masked_short users bytes size mask said short in
          its.1 ∙ ap (each_masked users) (sym its.0)
      | inr held ↦
          let agrees = agrees_as users bytes (Frame size mask) said in
          let its =
          masked_more users bytes size mask (each_masked users (frames (drop size bytes))) said held
          (shorter size agrees.2 held) in
          its.1 ∙ ap (each_masked users) (sym its.0)
    ]

masked_up_to : (users : List (List ℕ)) (n : ℕ) (bytes : List ℕ) → length bytes ≤ n
    → frames (masked users bytes) ≡ each_masked users (frames bytes)
masked_up_to users zero bytes few =
    masked_by_front users bytes (front_of users bytes) refl
    (λ size some held. absurd (omega arith))
masked_up_to users (suc n) bytes few =
    masked_by_front users bytes (front_of users bytes) refl
    (λ size some held. masked_up_to users n (drop size bytes)
    (omega (arith, length-drop size bytes)))

pub frames-are-masked : FramesAreMasked
frames-are-masked users bytes = masked_up_to users (length bytes) bytes (omega arith)
