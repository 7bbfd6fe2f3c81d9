-- The entries that a buffer has room for, and a buffer that is filled with them.
use Rattle.std.proofs.Common.{◌≡◌, ℕ, suc, ◌+◌, ◌-◌, ◌<◌, ◌≤◌, Bool, true, false, cond, List}
use Rattle.std.proofs.Common.{[], ◌∷◌, ◌++◌, length, take, drop, Option}
use Rattle.std.proofs.Common.{Some, refl, sym, ap, append_assoc, ◌∙◌, subst, arith}
use Rattle.std.specs.Prelude.{nat_lt, slice_get, nat_le}
use Rattle.std.specs.List.{flat_map}
use Rattle.std.proofs.lemmas.Grind.{flat_map-append}
use Rattle.std.proofs.lemmas.List.{append-nil, length-append, length-drop, length-take-le, take_at}
use Rattle.std.proofs.lemmas.List.{take-append-drop}
use borrow.Rule.Slice.PartMut.{post_of, put_mid}
use Rattle.std.proofs.lemmas.Bool.Decides.{nat_tests}
use Rattle.p9_base.specs.NodeRef.{beside}
use Rattle.p9_fids.specs.declared.opened.Cursor.{Cursor}
use Rattle.p9_step.specs.Listing.{UnionEntry, cursor_of}
use Rattle.p9_wire.proofs.Lengths.{length-stat_bytes}
use Rattle.p9_step.specs.Qid.{stat_of}
use Rattle.p9_step.specs.Read.{cursor_after, entry_bytes, fitting}
use Rattle.p9_walks.specs.Listing.{Fills}

-- What has room.

-- these are given, and there is room for others behind them
pub record GivesSome (room : ℕ) (left given others : List UnionEntry) : Type 0 where
  pub gives : fitting room left
      ≡ given ++ fitting (room - length (flat_map entry_bytes given)) others
  pub counted : length left ≡ length given + length others
  pub has_room : length (flat_map entry_bytes given) ≤ room

abbrev pub is_short : ℕ → List UnionEntry → Bool
is_short room left = nat_lt (length (fitting room left)) (length left)

no_bytes_less : (room : ℕ) (left : List UnionEntry) → fitting room left ≡ fitting (room - 0) left
no_bytes_less room left =
    let same : room ≡ room - 0 = omega arith in ap (λ n. fitting n left) same

gives_more : (room : ℕ) (e : UnionEntry) (left given others : List UnionEntry)
    → nat_le (length (entry_bytes e)) room ≡ true
    → GivesSome (room - length (entry_bytes e)) left given others
    → GivesSome room (e ∷ left) (e ∷ given) others
gives_more room e left given others fits some =
    let long : length (flat_map entry_bytes (e ∷ given))
    ≡ length (entry_bytes e) + length (flat_map entry_bytes given) =
    length-append (entry_bytes e) (flat_map entry_bytes given) in
    let has_room = some.has_room in
    let counted = some.counted in
    let le : length (entry_bytes e) ≤ room = grind (arith, nat_tests) in
    let less : (room - length (entry_bytes e)) - length (flat_map entry_bytes given)
    ≡ room - length (flat_map entry_bytes (e ∷ given)) = omega arith in
    record {
      gives = ap (λ b. cond b (e ∷ fitting (room - length (entry_bytes e)) left) []) fits
          ∙ ap (λ es. e ∷ es) (some.gives ∙ ap (λ n. given ++ fitting n others) less);
      counted = omega arith;
      has_room = omega arith;
    }

gives_none : (room : ℕ) (left : List UnionEntry) → GivesSome room left [] left
gives_none room left = record {
  gives = no_bytes_less room left;
  counted = omega arith;
  has_room = omega arith;
}

pub gives_one : (room : ℕ) (e : UnionEntry) (others : List UnionEntry) → length (entry_bytes e) ≤ room
    → GivesSome room (e ∷ others) (e ∷ []) others
gives_one room e others le =
    let fits : nat_le (length (entry_bytes e)) room ≡ true = grind (arith, nat_tests) in
    gives_more room e others [] others fits
    (gives_none (room - length (entry_bytes e)) others)

-- where all of the first ones have room, the others are given behind them
pub gives_whole : (room : ℕ) (xs ys : List UnionEntry) → is_short room xs ≡ false
    → GivesSome room (xs ++ ys) xs ys
gives_whole room [] ys whole = gives_none room ys
gives_whole room (x ∷ xs) ys whole =
    go (gives_whole (room - length (entry_bytes x)) xs ys)
    (nat_le (length (entry_bytes x)) room) refl
  where
    go : (is_short (room - length (entry_bytes x)) xs ≡ false
        → GivesSome (room - length (entry_bytes x)) (xs ++ ys) xs ys) → (b : Bool)
        → nat_le (length (entry_bytes x)) room ≡ b → GivesSome room (x ∷ (xs ++ ys)) (x ∷ xs) ys
    go further true fits =
        let short : nat_lt (suc (length (fitting (room - length (entry_bytes x)) xs)))
        (suc (length xs)) ≡ false =
        ap (λ b. nat_lt
        (length (cond b (x ∷ fitting (room - length (entry_bytes x)) xs) [])) (suc (length xs)))
        (sym fits) ∙ whole in
        gives_more room x (xs ++ ys) xs ys fits (further (grind (arith, nat_tests)))
    go further false fails =
        let short : nat_lt 0 (suc (length xs)) ≡ false =
        ap (λ b. nat_lt
        (length (cond b (x ∷ fitting (room - length (entry_bytes x)) xs) [])) (suc (length xs)))
        (sym fails) ∙ whole in
        absurd (grind (arith, nat_tests))

-- where one of the first ones has no room, none behind it is given
pub record Stops (room : ℕ) (xs ys others : List UnionEntry) : Type 0 where
  pub gives : GivesSome room (xs ++ ys) (fitting room xs) others
  pub ends : fitting (room - length (flat_map entry_bytes (fitting room xs))) others ≡ []
  pub more : 0 < length others

stops_here : (room : ℕ) (x : UnionEntry) (xs ys : List UnionEntry)
    → nat_le (length (entry_bytes x)) room ≡ false
    → (given : List UnionEntry) → given ≡ []
    → (GivesSome room (x ∷ (xs ++ ys)) given (x ∷ (xs ++ ys)))
    × (fitting (room - length (flat_map entry_bytes given)) (x ∷ (xs ++ ys)) ≡ [])
stops_here room x xs ys fails given none =
    let none_fits : fitting room (x ∷ (xs ++ ys)) ≡ [] =
    ap (λ b. cond b (x ∷ fitting (room - length (entry_bytes x)) (xs ++ ys)) []) fails in
    subst (λ g. (GivesSome room (x ∷ (xs ++ ys)) g (x ∷ (xs ++ ys)))
    × (fitting (room - length (flat_map entry_bytes g)) (x ∷ (xs ++ ys)) ≡ [])) (sym none)
    (gives_none room (x ∷ (xs ++ ys)), sym (no_bytes_less room (x ∷ (xs ++ ys))) ∙ none_fits)

pub gives_part : (room : ℕ) (xs ys : List UnionEntry) → is_short room xs ≡ true
    → (others : List UnionEntry) × Stops room xs ys others
gives_part room [] ys short = absurd (grind (arith, nat_tests))
gives_part room (x ∷ xs) ys short =
    go (gives_part (room - length (entry_bytes x)) xs ys) (nat_le (length (entry_bytes x)) room)
    refl
  where
    go : (is_short (room - length (entry_bytes x)) xs ≡ true
        → (others : List UnionEntry) × Stops (room - length (entry_bytes x)) xs ys others)
        → (b : Bool) → nat_le (length (entry_bytes x)) room ≡ b
        → (others : List UnionEntry) × Stops room (x ∷ xs) ys others
    go further true fits =
        let given : fitting room (x ∷ xs) ≡ x ∷ fitting (room - length (entry_bytes x)) xs =
        ap (λ b. cond b (x ∷ fitting (room - length (entry_bytes x)) xs) []) fits in
        let less : nat_lt (suc (length (fitting (room - length (entry_bytes x)) xs)))
        (suc (length xs)) ≡ true =
        ap (λ es. nat_lt (length es) (suc (length xs))) (sym given) ∙ short in
        let (others, stops) = further (grind (arith, nat_tests)) in
        let long =
        length-append (entry_bytes x)
        (flat_map entry_bytes (fitting (room - length (entry_bytes x)) xs)) in
        let behind : room
        - length (flat_map entry_bytes (x ∷ fitting (room - length (entry_bytes x)) xs))
        ≡ (room - length (entry_bytes x))
        - length (flat_map entry_bytes (fitting (room - length (entry_bytes x)) xs)) =
        omega (arith, long) in (
          others,
          record {
            gives = subst (λ g. GivesSome room (x ∷ (xs ++ ys)) g others) (sym given)
                (gives_more room x (xs ++ ys) (fitting (room - length (entry_bytes x)) xs) others fits
                stops.gives);
            ends = ap (λ es. fitting (room - length (flat_map entry_bytes es)) others) given
                ∙ ap (λ k. fitting k others) behind ∙ stops.ends;
            more = stops.more;
          },
        )
    go further false fails =
        let given : fitting room (x ∷ xs) ≡ [] =
        ap (λ b. cond b (x ∷ fitting (room - length (entry_bytes x)) xs) []) fails in
        let here = stops_here room x xs ys fails (fitting room (x ∷ xs)) given in
        (x ∷ (xs ++ ys), record { gives = here.0; ends = here.1; more = omega arith })

-- where one is left, and none is given, there is no room for it
pub first_has_no_room : (room : ℕ) (e : UnionEntry) (left : List UnionEntry) → slice_get left 0 ≡ Some e
    → room < length (entry_bytes e) → fitting room left ≡ []
first_has_no_room room e [] first short = absurd (cc)
first_has_no_room room e (x ∷ xs) first short =
    let same : x ≡ e = cc in
    let long : room < length (entry_bytes x) =
    subst (λ z. room < length (entry_bytes z)) (sym same) short in
    let fails : nat_le (length (entry_bytes x)) room ≡ false = grind (arith, nat_tests) in
    ap (λ b. cond b (x ∷ fitting (room - length (entry_bytes x)) xs) []) fails

-- Filling a buffer.

-- so many bytes of the buffer are filled, and this is left
pub record Filling (room : ℕ) (all : List UnionEntry) (from : Option Cursor) (buffer : List ℕ) (size : ℕ)
    (cursor : Option Cursor) (left : List UnionEntry) : Type 0 where
  pub within : size ≤ length buffer
  pub bytes : flat_map entry_bytes (fitting room all) ≡ take size buffer
      ++ flat_map entry_bytes (fitting (room - size) left)
  pub last : cursor_after from (fitting room all) ≡ cursor_after cursor (fitting (room - size) left)
  pub count : length all + length (fitting (room - size) left)
      ≡ length (fitting room all) + length left

pub filling-start : (all : List UnionEntry) (from : Option Cursor) (buffer : List ℕ)
    → Filling (length buffer) all from buffer 0 from all
filling-start all from buffer =
    let whole : length buffer ≡ length buffer - 0 = omega arith in
    record {
      within = omega arith;
      bytes = ap (λ n. flat_map entry_bytes (fitting n all)) whole;
      last = ap (λ n. cursor_after from (fitting n all)) whole;
      count =
          let same = ap (λ n. length (fitting n all)) whole in
          omega arith;
    }

cursor_after-append : (from : Option Cursor) (xs ys : List UnionEntry)
    → cursor_after from (xs ++ ys) ≡ cursor_after (cursor_after from xs) ys
cursor_after-append from [] ys = refl
cursor_after-append from (x ∷ xs) ys = cursor_after-append (Some (cursor_of x)) xs ys

-- bytes put behind the first ones
put_behind : (size : ℕ) (buffer bytes sub : List ℕ) → size ≤ length buffer
    → put_mid size (length buffer - size) buffer (bytes ++ sub) ≡ (take size buffer ++ bytes)
    ++ (sub ++ post_of size (length buffer - size) buffer)
put_behind size buffer bytes sub within =
    ap (λ xs. take size buffer ++ xs)
    (append_assoc bytes sub (post_of size (length buffer - size) buffer))
    ∙ sym (append_assoc (take size buffer) bytes
    (sub ++ post_of size (length buffer - size) buffer))

pub length-put_mid : (size : ℕ) (buffer new : List ℕ) → size ≤ length buffer
    → length new ≡ length buffer - size
    → length (put_mid size (length buffer - size) buffer new) ≡ length buffer
length-put_mid size buffer new within long =
    let behind = post_of size (length buffer - size) buffer in
    let front = length-take-le size buffer within in
    let all = length-append (take size buffer) (new ++ behind) in
    let middle = length-append new behind in
    let none = length-drop (length buffer - size) (drop size buffer) in
    let rest = length-drop size buffer in
    all ∙ omega arith

module _ (all : List UnionEntry) (from : Option Cursor) (room : ℕ) (buffer : List ℕ) (size : ℕ)
    (cursor : Option Cursor) (left : List UnionEntry) (whole : length buffer ≡ room)
    (filling : Filling room all from buffer size cursor left) where
  abbrev rest_of : List ℕ
  rest_of = take (length buffer - size) (drop size buffer)

  rest_room : length rest_of ≡ room - size
  rest_room =
      let within = filling.within in
      length-take-le (length buffer - size) (drop size buffer)
      (omega (arith, length-drop size buffer)) ∙ omega arith

  -- entries are given in the rest of the buffer
  pub filling-more : (given others : List UnionEntry) (n : ℕ) (new : List ℕ) (last : Option Cursor)
      → GivesSome (length rest_of) left given others
      → take n new ≡ flat_map entry_bytes given → length new ≡ length rest_of → n ≤ length rest_of
      → last ≡ cursor_after cursor given
      → Filling room all from (put_mid size (length buffer - size) buffer new) (size + n) last others
  filling-more given others n new last some put long fits last_is =
      let within = filling.within in
      let counted = some.counted in
      let count = filling.count in
      let bytes = flat_map entry_bytes given in
      let sized : n ≡ length bytes =
      sym (length-take-le n new (omega arith)) ∙ ap length put in
      let behind = drop n new ++ post_of size (length buffer - size) buffer in
      let is : put_mid size (length buffer - size) buffer new ≡ (take size buffer ++ bytes)
      ++ behind = ap (put_mid size (length buffer - size) buffer)
      (sym (take-append-drop n new) ∙ ap (λ xs. xs ++ drop n new) put)
      ∙ put_behind size buffer bytes (drop n new) within in
      let front : length (take size buffer) ≡ size = length-take-le size buffer within in
      let both : length (take size buffer ++ bytes) ≡ size + n =
      length-append (take size buffer) bytes ∙ omega arith in
      let less : length rest_of - length bytes ≡ room - (size + n) =
      ap (λ k. k - length bytes) rest_room ∙ omega arith in
      let gives : fitting (room - size) left ≡ given ++ fitting (room - (size + n)) others =
      ap (λ k. fitting k left) (sym rest_room) ∙ some.gives
      ∙ ap (λ k. given ++ fitting k others) less in
      record {
        within =
            let all_long = ap length is in
            omega (arith, all_long, both, length-append (take size buffer ++ bytes) behind);
        bytes = filling.bytes
            ∙ ap (λ es. take size buffer ++ flat_map entry_bytes es) gives
            ∙ ap (λ bs. take size buffer ++ bs)
            (flat_map-append entry_bytes given (fitting (room - (size + n)) others))
            ∙ sym (append_assoc (take size buffer) bytes
            (flat_map entry_bytes (fitting (room - (size + n)) others)))
            ∙ ap (λ bs. bs ++ flat_map entry_bytes (fitting (room - (size + n)) others))
            (sym (ap (take (size + n)) is
            ∙ take_at (take size buffer ++ bytes) behind (size + n) both));
        last = filling.last ∙ ap (cursor_after cursor) gives
            ∙ cursor_after-append cursor given (fitting (room - (size + n)) others)
            ∙ ap (λ c. cursor_after c (fitting (room - (size + n)) others)) (sym last_is);
        count =
            let more : length (fitting (room - size) left)
            ≡ length given + length (fitting (room - (size + n)) others) =
            ap length gives ∙ length-append given (fitting (room - (size + n)) others) in
            omega arith;
      }

  -- nothing more has room
  pub filled : (is_full : Bool) → fitting (room - size) left ≡ [] → is_full ≡ nat_lt 0 (length left)
      → Fills room all from buffer (record { size = size; cursor = cursor; is_full = is_full })
  filled is_full none full =
      let within = filling.within in
      let count = filling.count in
      let empty : length (fitting (room - size) left) ≡ 0 = ap length none in
      record {
        within = omega arith;
        bytes = sym (append-nil (take size buffer))
            ∙ sym (filling.bytes ∙ ap (λ es. take size buffer ++ flat_map entry_bytes es) none);
        last = sym (filling.last ∙ ap (cursor_after cursor) none);
        full = full ∙ grind (arith, nat_tests);
      }

-- no entry is empty
pub some_bytes : (e : UnionEntry) → 0 < length (entry_bytes e)
unfolding entry_bytes
some_bytes e =
    let long = length-stat_bytes (stat_of (beside e.member e.node.number) e.node) in
    omega (arith, long)
