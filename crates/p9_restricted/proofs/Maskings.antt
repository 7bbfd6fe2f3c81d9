-- What is made of the frames of bytes, frame by frame.
use Rattle.std.proofs.Common.{◌≡◌, ℕ, zero, suc, ◌≤◌, List, ◌++◌, length, take, drop}
use Rattle.std.proofs.Common.{refl, ap, ◌∙◌, arith, subst}
use Rattle.std.proofs.lemmas.List.{length-drop}
use Rattle.p9_restricted.specs.declared.front.Front.{Front}
use Rattle.p9_restricted.specs.declared.front.Front.TheVariants.{Undecided, Broken, Frame}
use Rattle.p9_restricted.specs.Front.{IsWithin, blanked, front_of}
use Rattle.p9_restricted.specs.Masked.{masked, masked_by, masked_within}
use Rattle.p9_restricted.proofs.Fronts.{FitsIn, front_of-few, front_of-fits}

-- what follows is looked at only behind a frame
masked_by-same : (f : Front) (bytes : List ℕ) (r s : List ℕ → List ℕ)
    → ((size mask : ℕ) → f ≡ Frame size mask → r (drop size bytes) ≡ s (drop size bytes))
    → masked_by f bytes r ≡ masked_by f bytes s
masked_by-same Undecided bytes r s h = refl
masked_by-same Broken bytes r s h = refl
masked_by-same (Frame size mask) bytes r s h =
    ap (λ others. blanked mask (take size bytes) ++ others) (h size mask refl)

-- a frame has seven bytes or more
front_size : (users : List (List ℕ)) (bytes : List ℕ) (size mask : ℕ)
    → front_of users bytes ≡ Frame size mask → 7 ≤ size
front_size users bytes size mask e =
    (subst (λ f. FitsIn f bytes) e (front_of-fits users bytes)).0

-- the name that is masked is there
pub front_mask : (users : List (List ℕ)) (bytes : List ℕ) (size mask : ℕ)
    → front_of users bytes ≡ Frame size mask → IsWithin mask (length bytes)
front_mask users bytes size mask e =
    (subst (λ f. FitsIn f bytes) e (front_of-fits users bytes)).2

-- no more frames than bytes are looked for
masked_within-enough : (users : List (List ℕ)) (k j : ℕ) (bytes : List ℕ) → length bytes ≤ k
    → length bytes ≤ j → masked_within users k bytes ≡ masked_within users j bytes
unfolding masked_within
masked_within-enough users zero zero bytes p q = refl
masked_within-enough users zero (suc j) bytes p q =
    rw (front_of-few users bytes (omega arith)) refl
masked_within-enough users (suc k) zero bytes p q =
    rw (front_of-few users bytes (omega arith)) refl
masked_within-enough users (suc k) (suc j) bytes p q =
    masked_by-same (front_of users bytes) bytes (masked_within users k) (masked_within users j)
    (λ size mask e.
    let some : 7 ≤ size = front_size users bytes size mask e in
    masked_within-enough users k j (drop size bytes) (omega (arith, length-drop size bytes))
    (omega (arith, length-drop size bytes)))

-- what is made of bytes, by what is at their front
pub masked-front : (users : List (List ℕ)) (bytes : List ℕ)
    → masked users bytes ≡ masked_by (front_of users bytes) bytes (masked users)
unfolding masked masked_within
masked-front users bytes =
    masked_within-enough users (length bytes) (suc (length bytes)) bytes (omega arith) (omega arith)
    ∙ masked_by-same (front_of users bytes) bytes (masked_within users (length bytes))
    (masked users) (λ size mask e.
    let some : 7 ≤ size = front_size users bytes size mask e in
    masked_within-enough users (length bytes) (length (drop size bytes)) (drop size bytes)
    (omega (arith, length-drop size bytes)) (omega arith))

-- the same, of an answer that equals it
pub masked-front_as : (users : List (List ℕ)) (bytes : List ℕ) (f : Front)
    → front_of users bytes ≡ f → masked users bytes ≡ masked_by f bytes (masked users)
masked-front_as users bytes f e =
    masked-front users bytes ∙ ap (λ (g : Front). masked_by g bytes (masked users)) e
