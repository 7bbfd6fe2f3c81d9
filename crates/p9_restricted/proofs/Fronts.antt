-- What begins a frame: it is within the bytes, and later bytes do not change it.
use Rattle.std.proofs.Common.{◌≡◌, ℕ, ◌+◌, ◌≤◌, ◌<◌, Bool, true, false, cond, ◌||◌, ◌&&◌, ltb, leb, List}
use Rattle.std.proofs.Common.{◌==◌, ◌++◌, length, take, drop, not, inl, inr, refl, ap, ◌∙◌, arith}
use Rattle.std.proofs.lemmas.Bool.{cases_lt, cond_both, ltb-true, ltb-false, lt-ltb, le-ltb}
use Rattle.std.proofs.lemmas.Bool.{or_parts}
use Rattle.std.proofs.lemmas.List.{length-append, length-drop, length-take-le, take-append-le}
use Rattle.std.proofs.lemmas.List.{drop-append-le}
use Rattle.byteorder.specs.Endian.{little_number}
use Rattle.byteorder.specs.Numbers.{little_from-append}
use Rattle.p9_base.specs.User.{is_listed_user, is_user, user_max}
use Rattle.p9_wire.specs.Frame.{header, msize_max}
use Rattle.p9_restricted.specs.declared.front.Front.{Front}
use Rattle.p9_restricted.specs.declared.front.Front.TheVariants.{Undecided, Broken, Frame}
use Rattle.p9_restricted.specs.Front.{IsWithin, attach_front, front_of, longest, masked_len}
use Rattle.p9_restricted.specs.Front.{name_at, name_len, type_of}

-- what is said of bytes is within them and within their frame, and is said where they are long enough
abbrev pub FitsIn : Front → List ℕ → Type 0
FitsIn Undecided bytes = length bytes < longest
FitsIn Broken bytes = Unit {0}
FitsIn (Frame size mask) bytes =
    (header ≤ size) × IsWithin mask size × IsWithin mask (length bytes)

-- fewer than four bytes say nothing
pub front_of-few : (users : List (List ℕ)) (bytes : List ℕ) → length bytes < 4
    → front_of users bytes ≡ Undecided
front_of-few users bytes short =
    let few : ltb (length bytes) 4 ≡ true = lt-ltb _ _ (omega arith) in rw few refl

-- a name is masked whole or not at all
masked_len-name : (users : List (List ℕ)) (name : List ℕ) → masked_len users name ≤ length name
masked_len-name users name =
    cond_both (is_user name && not (is_listed_user users name)) (length name) 0
    (λ n. n ≤ length name) (λ e. omega arith) (λ e. omega arith)

-- the choices at the front of a Tattach: its name is longer than any, or not there whole, or there
attach_name-fits : (users : List (List ℕ)) (size len : ℕ) (bytes : List ℕ) → header ≤ size
    → FitsIn (cond (ltb user_max len || ltb size (name_at + len)) (Frame size 0)
    (cond (ltb (length bytes) (name_at + len)) Undecided
    (Frame size (masked_len users (take len (drop name_at bytes)))))) bytes
attach_name-fits users size len bytes least =
    cond_both (ltb user_max len || ltb size (name_at + len)) (Frame size 0) _
    (λ f. FitsIn f bytes) (λ e. (least, λ h. absurd (omega arith), λ h. absurd (omega arith)))
    (λ fits.
    let parts = or_parts (ltb user_max len) (ltb size (name_at + len)) fits in
    let short : len ≤ user_max = ltb-false _ _ parts.0 in
    let room : name_at + len ≤ size = ltb-false _ _ parts.1 in
    cond_both (ltb (length bytes) (name_at + len)) Undecided _ (λ f. FitsIn f bytes)
    (λ e. omega (arith, ltb-true _ _ e))
    (λ e.
    let held : name_at + len ≤ length bytes = ltb-false _ _ e in
    let name = take len (drop name_at bytes) in
    let long : length name ≡ len =
    length-take-le len (drop name_at bytes) (omega (arith, length-drop name_at bytes)) in
    let most : masked_len users name ≤ length name = masked_len-name users name in
    (least, λ h. omega arith, λ h. omega arith)))

attach_front-fits : (users : List (List ℕ)) (size : ℕ) (bytes : List ℕ) → header ≤ size
    → FitsIn (attach_front users size bytes) bytes
attach_front-fits users size bytes least =
    cond_both (ltb (length bytes) name_at) Undecided _ (λ f. FitsIn f bytes)
    (λ e. omega (arith, ltb-true _ _ e))
    (λ e. attach_name-fits users size (name_len bytes) bytes least)

-- what begins a frame is within it
pub front_of-fits : (users : List (List ℕ)) (bytes : List ℕ) → FitsIn (front_of users bytes) bytes
front_of-fits users bytes =
    let size = little_number 4 bytes in
    cond_both (ltb (length bytes) 4) Undecided _ (λ f. FitsIn f bytes)
    (λ e. omega (arith, ltb-true _ _ e))
    (λ e. cond_both (ltb size header || ltb msize_max size) Broken _ (λ f. FitsIn f bytes)
    (λ e. tt)
    (λ fits.
    let parts = or_parts (ltb size header) (ltb msize_max size) fits in
    let least : header ≤ size = ltb-false _ _ parts.0 in
    cond_both (ltb (length bytes) 5) Undecided _ (λ f. FitsIn f bytes)
    (λ e. omega (arith, ltb-true _ _ e))
    (λ e. cond_both (type_of bytes == 104 && leb name_at size) (attach_front users size bytes)
    (Frame size 0) (λ f. FitsIn f bytes) (λ e. attach_front-fits users size bytes least)
    (λ e. (least, λ h. absurd (omega arith), λ h. absurd (omega arith))))))

-- a choice that is settled stays so, if what is chosen does
still_second : (b : Bool) (x y z : Front) → (cond b x y ≡ Undecided → ⊥)
    → ((y ≡ Undecided → ⊥) → z ≡ y) → cond b x z ≡ cond b x y
still_second true x y z known h = refl
still_second false x y z known h = h known

still_first : (b : Bool) (x y z : Front) → (cond b x y ≡ Undecided → ⊥)
    → ((x ≡ Undecided → ⊥) → z ≡ x) → cond b z y ≡ cond b x y
still_first true x y z known h = h known
still_first false x y z known h = refl

-- enough bytes stay enough
still_enough : (need : ℕ) (bytes more : List ℕ) (y z : Front)
    → (cond (ltb (length bytes) need) Undecided y ≡ Undecided → ⊥)
    → (need ≤ length bytes → (y ≡ Undecided → ⊥) → z ≡ y)
    → cond (ltb (length (bytes ++ more)) need) Undecided z
    ≡ cond (ltb (length bytes) need) Undecided y
still_enough need bytes more y z known h = elim (cases_lt (length bytes) need) [
  | inl few ↦ absurd (known (rw (lt-ltb (length bytes) need few) refl))
  | inr enough ↦
      let old : ltb (length bytes) need ≡ false = le-ltb _ _ enough in
      let new : ltb (length (bytes ++ more)) need ≡ false =
      le-ltb _ _ (omega (arith, length-append bytes more)) in
      rw (new, old) (h enough (λ e. known (rw old e)))
]

attach_front-append : (users : List (List ℕ)) (size : ℕ) (bytes more : List ℕ)
    → (attach_front users size bytes ≡ Undecided → ⊥)
    → attach_front users size (bytes ++ more) ≡ attach_front users size bytes
attach_front-append users size bytes more known =
    still_enough name_at bytes more _ _ known (λ enough known.
    let len = name_len bytes in
    let behind : drop 15 (bytes ++ more) ≡ drop 15 bytes ++ more =
    drop-append-le 15 bytes more (omega arith) in
    let same : name_len (bytes ++ more) ≡ len =
    ap (little_number 2) behind
    ∙ little_from-append 2 (drop 15 bytes) more (omega (arith, length-drop 15 bytes)) in
    rw same
    (still_second (ltb user_max len || ltb size (name_at + len)) (Frame size 0) _ _ known (λ known.
    still_enough (name_at + len) bytes more _ _ known (λ whole known.
    ap (λ name. Frame size (masked_len users name))
    (ap (take len) (drop-append-le name_at bytes more (omega arith))
    ∙ take-append-le len (drop name_at bytes) more (omega (arith, length-drop name_at bytes)))))))

-- bytes that come later leave as it is what is known of the front
pub front_of-append : (users : List (List ℕ)) (bytes more : List ℕ)
    → (front_of users bytes ≡ Undecided → ⊥)
    → front_of users (bytes ++ more) ≡ front_of users bytes
front_of-append users bytes more known =
    still_enough 4 bytes more _ _ known (λ enough known.
    let size = little_number 4 bytes in
    let said : little_number 4 (bytes ++ more) ≡ size = little_from-append 4 bytes more enough in
    rw said
    (still_second (ltb size header || ltb msize_max size) Broken _ _ known (λ known.
    still_enough 5 bytes more _ _ known (λ five known.
    let kind : type_of (bytes ++ more) ≡ type_of bytes =
    ap (little_number 1) (drop-append-le 4 bytes more (omega arith))
    ∙ little_from-append 1 (drop 4 bytes) more (omega (arith, length-drop 4 bytes)) in
    rw kind
    (still_first (type_of bytes == 104 && leb name_at size) (attach_front users size bytes) _ _
    known (λ known. attach_front-append users size bytes more known))))))
