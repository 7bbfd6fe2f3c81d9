-- Bytes that are passed on, piece by piece.
use Rattle.std.proofs.Common.{◌≡◌, ℕ, ◌+◌, ◌-◌, ◌≤◌, List, ◌++◌, length, take, drop, min, refl}
use Rattle.std.proofs.Common.{ap, sym, ◌∙◌, arith, subst}
use Rattle.std.proofs.lemmas.List.{append_assoc, length-append, length-drop, length-take-le}
use Rattle.std.proofs.lemmas.List.{take-append-drop, take-append-le, drop-append-le, drop-drop}
use Rattle.std.proofs.lemmas.List.{drop-take, take-take, take_at, drop_at}
use Rattle.p9_restricted.specs.declared.front.Front.TheVariants.{Undecided, Broken, Frame}
use Rattle.p9_restricted.specs.declared.passing.Place.{Place}
use Rattle.p9_restricted.specs.declared.passing.Place.TheVariants.{Before, Lost}
use Rattle.p9_restricted.specs.Front.{IsWithin, blanked, front_of}
use Rattle.p9_restricted.specs.Masked.{Gate, Passes, masked, masked_from, onward}
use Rattle.p9_restricted.proofs.Fronts.{FitsIn, front_of-append, front_of-fits}
use Rattle.p9_restricted.proofs.Maskings.{masked-front_as}
use Rattle.p9_restricted.proofs.Blanks.{blanked-append, length-blanked}

-- what is made of bytes, at known users and a known place
onward_at : (gate : Gate) (users : List (List ℕ)) (place : Place) (bytes : List ℕ)
    → gate.users ≡ users → gate.place ≡ place → onward gate bytes ≡ masked_from users place bytes
onward_at gate users place bytes e f =
    ap (λ u. masked_from u gate.place bytes) e ∙ ap (λ p. masked_from users p bytes) f

-- the front of bytes, of which some are there
front_in_two : (bytes behind : List ℕ) (left count : ℕ) → count ≤ left → count ≤ length bytes
    → take left (bytes ++ behind)
    ≡ take count bytes ++ take (left - count) (drop count bytes ++ behind)
front_in_two bytes behind left count few held =
    let all = bytes ++ behind in
    let sum : left ≡ count + (left - count) = omega arith in
    let first : take count (take left all) ≡ take count bytes =
    take-take count left all few ∙ take-append-le count bytes behind held in
    let second : drop count (take left all) ≡ take (left - count) (drop count bytes ++ behind) =
    ap (λ n. drop count (take n all)) sum
    ∙ drop-take count (left - count) all
    ∙ ap (take (left - count)) (drop-append-le count bytes behind held) in
    sym (take-append-drop count (take left all))
    ∙ ap (λ xs. xs ++ drop count (take left all)) first
    ∙ ap (λ xs. take count bytes ++ xs) second

-- what is behind the front of bytes, of which some are there
rest_in_two : (bytes behind : List ℕ) (left count : ℕ) → count ≤ left → count ≤ length bytes
    → drop left (bytes ++ behind) ≡ drop (left - count) (drop count bytes ++ behind)
rest_in_two bytes behind left count few held =
    let sum : left ≡ count + (left - count) = omega arith in
    ap (λ n. drop n (bytes ++ behind)) sum
    ∙ sym (drop-drop (left - count) count (bytes ++ behind))
    ∙ ap (drop (left - count)) (drop-append-le count bytes behind held)

-- bytes of a frame that has begun
pub passes_left : (old new : Gate) (bytes : List ℕ) (left count : ℕ) → old.place ≡ Before left
    → new.users ≡ old.users → new.place ≡ Before (left - count) → count ≡ min left (length bytes)
    → Passes old bytes new bytes count
passes_left old new bytes left count at users place counted =
    let few : count ≤ left = omega arith in
    let held : count ≤ length bytes = omega arith in
    record {
      within = held;
      others = refl;
      length_is = refl;
      users_are = users;
      front = λ behind.
          let rest = drop count bytes ++ behind in
          onward_at old old.users (Before left) (bytes ++ behind) refl at
          ∙ ap (λ xs. xs ++ masked old.users (drop left (bytes ++ behind)))
          (front_in_two bytes behind left count few held)
          ∙ ap (λ xs. (take count bytes ++ take (left - count) rest) ++ masked old.users xs)
          (rest_in_two bytes behind left count few held)
          ∙ append_assoc (take count bytes) (take (left - count) rest)
          (masked old.users (drop (left - count) rest))
          ∙ ap (λ xs. take count bytes ++ xs)
          (sym (onward_at new old.users (Before (left - count)) rest users place));
    }

-- bytes that begin with a size of no frame
pub passes_broken : (old new : Gate) (bytes : List ℕ) → old.place ≡ Before 0
    → front_of old.users bytes ≡ Broken → new.users ≡ old.users → new.place ≡ Lost
    → Passes old bytes new bytes (length bytes)
passes_broken old new bytes at said users place =
    record {
      within = omega arith;
      others = refl;
      length_is = refl;
      users_are = users;
      front = λ behind.
          let later : front_of old.users (bytes ++ behind) ≡ Broken =
          front_of-append old.users bytes behind (λ e. let no : Undecided ≡ Broken =
          sym e ∙ said in absurd (cc)) ∙ said in
          onward_at old old.users (Before 0) (bytes ++ behind) refl at
          ∙ masked-front_as old.users (bytes ++ behind) Broken later
          ∙ ap (λ xs. xs ++ behind) (sym (take-append-drop (length bytes) bytes))
          ∙ append_assoc (take (length bytes) bytes) (drop (length bytes) bytes) behind
          ∙ ap (λ xs. take (length bytes) bytes ++ xs)
          (sym (onward_at new old.users Lost (drop (length bytes) bytes ++ behind) users place));
    }

-- bytes that begin a frame
pub passes_frame : (old new : Gate) (bytes : List ℕ) (size mask count : ℕ)
    → old.place ≡ Before 0 → front_of old.users bytes ≡ Frame size mask
    → new.users ≡ old.users → new.place ≡ Before (size - count) → count ≡ min size (length bytes)
    → Passes old bytes new (blanked mask bytes) count
passes_frame old new bytes size mask count at said users place counted =
    let fits = subst (λ f. FitsIn f bytes) said (front_of-fits old.users bytes) in
    let few : count ≤ size = omega arith in
    let held : count ≤ length bytes = omega arith in
    let begun = take count bytes in
    let long : length begun ≡ count = length-take-le count bytes held in
    let inside : IsWithin mask (length begun) =
    λ some. let a = fits.1 some in let b = fits.2 some in omega (arith, a, b) in
    let masked_begun : length (blanked mask begun) ≡ count =
    length-blanked mask begun inside ∙ long in
    let parts : blanked mask bytes ≡ blanked mask begun ++ drop count bytes =
    ap (blanked mask) (sym (take-append-drop count bytes))
    ∙ blanked-append mask begun (drop count bytes) inside in
    let first : take count (blanked mask bytes) ≡ blanked mask begun =
    ap (take count) parts ∙ take_at (blanked mask begun) (drop count bytes) count masked_begun in
    record {
      within = held;
      others = ap (drop count) parts
          ∙ drop_at (blanked mask begun) (drop count bytes) count masked_begun;
      length_is = length-blanked mask bytes fits.2;
      users_are = users;
      front = λ behind.
          let rest = drop count bytes ++ behind in
          let later : front_of old.users (bytes ++ behind) ≡ Frame size mask =
          front_of-append old.users bytes behind (λ e. let no : Undecided ≡ Frame size mask =
          sym e ∙ said in absurd (cc)) ∙ said in
          onward_at old old.users (Before 0) (bytes ++ behind) refl at
          ∙ masked-front_as old.users (bytes ++ behind) (Frame size mask) later
          ∙ ap (λ xs. blanked mask xs ++ masked old.users (drop size (bytes ++ behind)))
          (front_in_two bytes behind size count few held)
          ∙ ap (λ xs. blanked mask (begun ++ take (size - count) rest) ++ masked old.users xs)
          (rest_in_two bytes behind size count few held)
          ∙ ap (λ xs. xs ++ masked old.users (drop (size - count) rest))
          (blanked-append mask begun (take (size - count) rest) inside)
          ∙ append_assoc (blanked mask begun) (take (size - count) rest)
          (masked old.users (drop (size - count) rest))
          ∙ ap (λ xs. blanked mask begun ++ xs)
          (sym (onward_at new old.users (Before (size - count)) rest users place))
          ∙ ap (λ xs. xs ++ onward new rest) (sym first);
    }

-- one piece after another
pub passes-then : (g h k : Gate) (bytes bytes' part part' : List ℕ) (at count : ℕ)
    → Passes g bytes h bytes' at → Passes h (drop at bytes') k part count
    → part' ≡ take at bytes' ++ part → Passes g bytes k part' (at + count)
passes-then g h k bytes bytes' part part' at count p q e =
    let within : at ≤ length bytes = p.within in
    let held : length (take at bytes') ≡ at =
    length-take-le at bytes' (omega (arith, p.length_is)) in
    let left : count ≤ length (drop at bytes') = q.within in
    let first : take at part' ≡ take at bytes' =
    ap (take at) e ∙ take_at (take at bytes') part at held in
    let second : drop at part' ≡ part = ap (drop at) e ∙ drop_at (take at bytes') part at held in
    let others : drop (at + count) part' ≡ drop (at + count) bytes =
    sym (drop-drop count at part') ∙ ap (drop count) second ∙ q.others
    ∙ ap (drop count) p.others ∙ drop-drop count at bytes in
    let taken : take (at + count) part' ≡ take at bytes' ++ take count part =
    sym (take-append-drop at (take (at + count) part'))
    ∙ ap (λ xs. xs ++ drop at (take (at + count) part'))
    (take-take at (at + count) part' (omega arith) ∙ first)
    ∙ ap (λ xs. take at bytes' ++ xs) (drop-take at count part' ∙ ap (take count) second) in
    record {
      within = omega (arith, p.length_is, length-drop at bytes');
      others = others;
      length_is = ap length e
          ∙ omega (
            arith,
            length-append (take at bytes') part,
            q.length_is,
            p.length_is,
            length-drop at bytes',
          );
      users_are = q.users_are ∙ p.users_are;
      front = λ behind.
          p.front behind
          ∙ ap (λ xs. take at bytes' ++ onward h (xs ++ behind)) (sym p.others)
          ∙ ap (λ xs. take at bytes' ++ xs) (q.front behind)
          ∙ sym (append_assoc (take at bytes') (take count part)
          (onward k (drop count (drop at bytes') ++ behind)))
          ∙ ap (λ xs. xs ++ onward k (drop count (drop at bytes') ++ behind)) (sym taken)
          ∙ ap (λ xs. take (at + count) part' ++ onward k (xs ++ behind))
          (ap (drop count) p.others ∙ drop-drop count at bytes);
    }
