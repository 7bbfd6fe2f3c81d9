-- An index of a list of texts, when a text joins the list.
use Rattle.std.proofs.Common.{◌≡◌, ◌≤◌, ◌+◌, ℕ, Bool, true, false, List, [], ◌∷◌, ◌++◌, length}
use Rattle.std.proofs.Common.{Some, None, is_some, refl, sym, ap, ◌∙◌, arith, cond}
use Rattle.std.proofs.Common.{length-append, not}
use Rattle.std.specs.Prelude.{position}
use Rattle.std.specs.List.{list_any, position_or_len}
use Rattle.std.specs.Str.{bytes_eq}
use Rattle.std.proofs.lemmas.Bool.Decides.{nat_tests}
use Rattle.std.proofs.lemmas.List.Folds.{position_or_len_push}
use Rattle.std.proofs.lemmas.Slice.Eq.{bytes_eq-Decides}
use Rattle.p9_world.specs.declared.positions.Positions.{Positions}
use Rattle.p9_world.specs.Positions.{HasSame, Indexes, Places, position_at}

-- a position is within the list, or the list's length stands for none
position_or_len-le : {X : Type 0} (p : X → Bool) (xs : List X) → position_or_len p xs ≤ length xs
position_or_len-le p [] = omega arith
position_or_len-le p (x ∷ xs) = by (p x) (position_or_len-le p xs)
  where
    by : (b : Bool) → position_or_len p xs ≤ length xs
        → cond (not b) (1 + position_or_len p xs) 0 ≤ length (x ∷ xs)
    by true le = omega arith
    by false le = grind arith

-- what has a position is among the list
pub is_some-position : {X : Type 0} (p : X → Bool) (xs : List X)
    → is_some (position p xs) ≡ list_any p xs
is_some-position p [] = refl
is_some-position p (x ∷ xs) = grind (arith, nat_tests, is_some-position p xs)

-- the position in a list that one more joins
position-joined : {X : Type 0} (p : X → Bool) (xs : List X) (x : X) → position p xs ≡ None
    → position p (xs ++ x ∷ []) ≡ cond (p x) (Some (length xs)) None
position-joined p xs x none =
    grind (
      arith,
      nat_tests,
      position_or_len_push p xs x,
      position_or_len-le p xs,
      length-append xs (x ∷ []),
    )

position-kept : {X : Type 0} (p : X → Bool) (xs : List X) (x : X) → p x ≡ false
    → position p (xs ++ x ∷ []) ≡ position p xs
position-kept p xs x other =
    grind (
      arith,
      nat_tests,
      position_or_len_push p xs x,
      position_or_len-le p xs,
      length-append xs (x ∷ []),
    )

-- a new text joins
pub Indexes-joined : {Z : Type 0} (texts : List (List ℕ)) (text : List ℕ) (count : ℕ)
    (old new : Positions Z) → Indexes old texts → position_at old text ≡ None
    → count ≡ length texts → Places text count old new → Indexes new (texts ++ text ∷ [])
Indexes-joined texts text count old new index absent last places q =
    by (bytes_eq text q) refl
  where
    by : (b : Bool) → bytes_eq text q ≡ b
        → position_at new q ≡ position (λ other. bytes_eq other q) (texts ++ text ∷ [])
    by true e =
        let same : text ≡ q = (bytes_eq-Decides text q).0 e in
        let none : position (λ other. bytes_eq other q) texts ≡ None =
        sym (index q) ∙ ap (position_at old) (sym same) ∙ absent in
        let now : position_at new q ≡ Some count = places q ∙ rw e refl in
        let there : position (λ other. bytes_eq other q) (texts ++ text ∷ [])
        ≡ Some (length texts) =
        position-joined (λ other. bytes_eq other q) texts text none ∙ rw e refl in
        now ∙ ap Some last ∙ sym there
    by false e =
        let kept : position_at new q ≡ position_at old q = places q ∙ rw e refl in
        kept ∙ index q ∙ sym (position-kept (λ other. bytes_eq other q) texts text e)

-- the same positions index the same list
pub Indexes-same : {Z : Type 0} (texts : List (List ℕ)) (old new : Positions Z)
    → Indexes old texts → HasSame old new → Indexes new texts
Indexes-same texts old new index same q = same q ∙ index q
