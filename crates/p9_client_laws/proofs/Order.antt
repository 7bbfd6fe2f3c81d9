-- The answers to requests that were sent together are in the order in which they came, where the frames
-- came in the order of the tags.
use Rattle.std.proofs.Common.{◌≡◌, ◌∙◌, ℕ, ◌+◌, ◌<◌, ◌≤◌, ◌^◌, ◌⊎◌, List, [], ◌∷◌, ◌++◌, Some, ap}
use Rattle.std.proofs.Common.{Bool, arith, false, inl, inr, length, refl, subst, suc, sym, true, zero}
use Rattle.std.proofs.lemmas.Bool.Decides.{nat_tests}
use Rattle.std.specs.Prelude.{if◌then◌else◌, nat_lt, slice_index_or}
use Rattle.std.specs.List.{AllByRecursion, Contains, concat}
use Rattle.std.specs.Option.{option_map_or}
use Rattle.p9_wire.specs.Message.{RMessage}
use Rattle.p9_wire.specs.Reading.{r_message_of}
use Rattle.p9_client.specs.Ahead.{Answer, AreAnswers, ahead_max, frames}
use Rattle.p9_client.specs.Reply.{IsReply}
use Rattle.p9_client.specs.Session.{next_tag}
use Rattle.p9_client_laws.proofs.Came.{next-fits}

-- a tag is so many, of at most eight, after the first
Off : (first count tag : ℕ) → Type 0
Off first count tag =
    (tag ≡ first + count) ⊎ ((tag + 65535 ≡ first + count) ⊎ (tag + 65536 ≡ first + count))

-- the next tag is one more
off-next : (first count tag : ℕ) → first < 2 ^ 16 → tag < 2 ^ 16 → count ≤ 8 → Off first count tag
    → Off first (count + 1) (next_tag tag)
unfolding Off
off-next first count tag first_fits tag_fits few off =
    go (nat_lt tag 65534) (nat_lt tag 65535) refl refl
  where
    go : (test last : Bool) → nat_lt tag 65534 ≡ test → nat_lt tag 65535 ≡ last
        → Off first (count + 1) (if test then tag + 1 else 0)
    go true last is last_is =
        elim off [
          | inl h ↦ inl (omega (arith, h))
          | inr h ↦ elim h [
            | inl i ↦ inr (inl (omega (arith, i)))
            | inr i ↦ inr (inr (omega (arith, i)))
          ]
        ]
    go false true is last_is =
        let below : tag < 65535 = grind (arith, nat_tests, last_is) in
        let above : 65534 ≤ tag = grind (arith, nat_tests, is) in
        elim off [
          | inl h ↦ inr (inl (omega (arith, h, below, above)))
          | inr h ↦ elim h [
            | inl i ↦ absurd (omega (arith, i, above, few, first_fits))
            | inr i ↦ absurd (omega (arith, i, above, few, first_fits))
          ]
        ]
    go false false is last_is =
        let above : 65535 ≤ tag = grind (arith, nat_tests, last_is) in
        elim off [
          | inl h ↦ inr (inr (omega (arith, h, above, tag_fits)))
          | inr h ↦ elim h [
            | inl i ↦ absurd (omega (arith, i, above, few, first_fits))
            | inr i ↦ absurd (omega (arith, i, above, few, first_fits))
          ]
        ]

-- and another one
off-other : (first count : ℕ) → 0 < count → count ≤ 8 → Off first count first → ⊥
unfolding Off
off-other first count some few off =
    elim off [
      | inl h ↦ omega (arith, h, some)
      | inr h ↦ elim h [
        | inl i ↦ omega (arith, i, few)
        | inr i ↦ omega (arith, i, few)
      ]
    ]

off-first : (first : ℕ) → first < 2 ^ 16 → Off first 1 (next_tag first)
unfolding Off
off-first first fits = off-next first 0 first fits fits (omega arith) (inl (omega arith))

-- one frame is the reply with one tag
one-tag : (frame other : List ℕ) (t u : ℕ) (m n : RMessage) → IsReply frame t m → IsReply other u n
    → frame ≡ other → t ≡ u
one-tag frame other t u m n is also same =
    let both : Some (t, m) ≡ Some (u, n) = sym is ∙ ap r_message_of same ∙ also in
    ap (λ o. option_map_or (λ x. x.0) o 0) both

head-or-tail : (x : List ℕ) (xs : List (List ℕ)) (y : List ℕ) → Contains (x ∷ xs) y
    → (x ≡ y) ⊎ Contains xs y
head-or-tail x xs y h = go h.0 h.1 h.2
  where
    go : (k : ℕ) → k < length (x ∷ xs) → slice_index_or (x ∷ xs) k y ≡ y → (x ≡ y) ⊎ Contains xs y
    go zero lt is = inl is
    go (suc k) lt is = inr (k, omega (arith, lt), is)

-- each frame is the reply with the next tag
abbrev pub InOrder : ℕ → List (List ℕ) → Type 0
InOrder tag [] = Unit {0}
InOrder tag (f ∷ fs) = ((m : RMessage) × IsReply f tag m) × InOrder (next_tag tag) fs

-- none of those behind the first tag is the reply with it
not-behind : (first count tag : ℕ) (fs : List (List ℕ)) (frame : List ℕ) (m : RMessage)
    → first < 2 ^ 16 → tag < 2 ^ 16 → Off first count tag → 0 < count → count + length fs ≤ 8
    → InOrder tag fs → IsReply frame first m → Contains fs frame → ⊥
not-behind first count tag [] frame m first_fits tag_fits off some few in_order is there =
    omega (arith, there.1)
not-behind first count tag (f ∷ fs) frame m first_fits tag_fits off some few in_order is there =
    elim (head-or-tail f fs frame there) [
      | inl same ↦
          let tags : tag ≡ first = one-tag f frame tag first in_order.0.0 m in_order.0.1 is same in
          off-other first count some (omega (arith, few)) (subst (Off first count) tags off)
      | inr later ↦ not-behind first (count + 1) (next_tag tag) fs frame m first_fits
          (next-fits tag tag_fits) (off-next first count tag first_fits tag_fits (omega (arith, few)) off)
          (omega arith) (omega (arith, few)) in_order.1 is later
    ]

-- the answers behind the first tag are among the frames behind the first
rest-among : (first count tag : ℕ) (f : List ℕ) (fs : List (List ℕ)) (answers : List Answer)
    (m : RMessage) → first < 2 ^ 16 → tag < 2 ^ 16 → Off first count tag → 0 < count
    → count + length answers ≤ 8 → IsReply f first m → AreAnswers tag answers
    → AllByRecursion (λ a. Contains (f ∷ fs) a.frame) answers
    → AllByRecursion (λ a. Contains fs a.frame) answers
rest-among first count tag f fs [] m first_fits tag_fits off some few is answered among = tt
rest-among first count tag f fs (a ∷ answers) m first_fits tag_fits off some few is answered among =
    let there : Contains fs a.frame =
    elim (head-or-tail f fs a.frame among.0) [
      | inl same ↦
          let tags : first ≡ tag = one-tag f a.frame first tag m a.reply is answered.0.is same in
          absurd (off-other first count some (omega (arith, few))
          (subst (Off first count) (sym tags) off))
      | inr later ↦ later
    ] in (
      there,
      rest-among first (count + 1) (next_tag tag) f fs answers m first_fits (next-fits tag tag_fits)
          (off-next first count tag first_fits tag_fits (omega (arith, few)) off) (omega arith)
          (omega (arith, few)) is answered.1 among.1,
    )

-- the frames are those of the answers, in the same order
pub same-order : (tag : ℕ) (fs : List (List ℕ)) (answers : List Answer) → tag < 2 ^ 16
    → length fs ≡ length answers → length answers ≤ ahead_max → InOrder tag fs
    → AreAnswers tag answers → AllByRecursion (λ a. Contains fs a.frame) answers
    → concat fs ≡ frames answers
same-order tag [] [] fits as_many few in_order answered among = refl
same-order tag [] (a ∷ answers) fits as_many few in_order answered among = absurd (omega (arith, as_many))
same-order tag (f ∷ fs) [] fits as_many few in_order answered among = absurd (omega (arith, as_many))
same-order tag (f ∷ fs) (a ∷ answers) fits as_many few in_order answered among =
    let first : f ≡ a.frame =
    elim (head-or-tail f fs a.frame among.0) [
      | inl same ↦ same
      | inr later ↦ absurd (not-behind tag 1 (next_tag tag) fs a.frame a.reply fits (next-fits tag fits)
          (off-first tag fits) (omega arith) (omega (arith, as_many, few)) in_order.1 answered.0.is later)
    ] in
    let others = same-order (next_tag tag) fs answers (next-fits tag fits) (omega (arith, as_many))
    (omega (arith, few)) in_order.1 answered.1
    (rest-among tag 1 (next_tag tag) f fs answers in_order.0.0 fits (next-fits tag fits)
    (off-first tag fits) (omega arith) (omega (arith, few)) in_order.0.1 answered.1 among.1) in
    ap (λ (zs : List ℕ). zs ++ concat fs) first ∙ ap (λ (zs : List ℕ). a.frame ++ zs) others
