-- Bytes that are held, and what is left to give.
use Rattle.std.proofs.Common.{◌≡◌, ℕ, zero, suc, ◌+◌, ◌-◌, ◌≤◌, List, [], ◌++◌, Option, None, Some}
use Rattle.std.proofs.Common.{Result, Ok, Err, IfOk}
use Rattle.std.proofs.Common.{length, take, drop, min, refl, ap, sym, ◌∙◌, arith, subst}
use Rattle.std.proofs.lemmas.List.{append_assoc, drop-append-le, drop-drop, drop-take}
use Rattle.std.proofs.lemmas.List.{drop_at, length-append, length-drop, length-take-le}
use Rattle.std.proofs.lemmas.List.{take-append-drop, take-append-le, take-take, take_at}
use Rattle.std.proofs.KnownBytes.{Consumes-trans, Keeps-refl}
use Rattle.std.specs.Option.{option_map}
use Rattle.std.specs.Io.{ReadsAtMost}
use Rattle.std.specs.Io.KnownBytes.{Consumes, IsAtEnd, Keeps, ReadConsumes}
use borrow.Rule.Slice.PartMut.{post_of, put_mid}
use Rattle.p9_restricted.specs.declared.passing.Place.{Place}
use Rattle.p9_restricted.specs.declared.passing.Place.TheVariants.{Before, Lost}
use Rattle.p9_restricted.specs.Masked.{Gate, Passes, masked, masked_from, masked_within, onward}
use Rattle.p9_restricted.specs.Stream.{Gave, Gives, Holding, Over, left_over, nothing_held}
use Rattle.p9_restricted.specs.Stream.{to_give}

-- Parts of the buffer.

-- the bytes from a place to another
abbrev pub part : ℕ → ℕ → List ℕ → List ℕ
part from to bytes = take (to - from) (drop from bytes)

pub part-length : (bytes : List ℕ) (from to : ℕ) → from ≤ to → to ≤ length bytes
    → length (part from to bytes) ≡ to - from
part-length bytes from to ordered within =
    length-take-le (to - from) (drop from bytes) (omega (arith, length-drop from bytes))

-- without the first of them
pub part-shorter : (bytes : List ℕ) (from to count : ℕ) → from + count ≤ to
    → part (from + count) to bytes ≡ drop count (part from to bytes)
part-shorter bytes from to count fits =
    let left : to - from ≡ count + (to - (from + count)) = omega arith in
    ap (take (to - (from + count))) (sym (drop-drop count from bytes))
    ∙ sym (drop-take count (to - (from + count)) (drop from bytes))
    ∙ ap (λ (n : ℕ). drop count (take n (drop from bytes))) (sym left)

-- what was read, where it is
pub read_there : {E : Type 0} (old new : Option (List ℕ)) (result : Result ℕ E) (bytes : List ℕ)
    (there : ℕ → List ℕ) → ReadConsumes old new result bytes → ReadsAtMost result bytes
    → ((count : ℕ) → count ≤ length bytes → there count ≡ take count bytes)
    → IfOk result (λ count. Consumes old new (there count))
read_there old new (Ok count) bytes there read bound same = rw (same count bound.0) read.0
read_there old new (Err error) bytes there read bound same = tt

-- what a buffer has gained behind its first bytes
pub gained-length : (bytes : List ℕ) (filled count : ℕ) → filled + count ≤ length bytes
    → length (drop filled (take (filled + count) bytes)) ≡ count
gained-length bytes filled count fits =
    omega (
      arith,
      length-drop filled (take (filled + count) bytes),
      length-take-le (filled + count) bytes fits,
    )

pub gained : (old new : List ℕ) (filled count : ℕ) → take filled new ≡ old
    → take (filled + count) new ≡ old ++ drop filled (take (filled + count) new)
gained old new filled count kept =
    sym (take-append-drop filled (take (filled + count) new))
    ∙ ap (λ (zs : List ℕ). zs ++ drop filled (take (filled + count) new))
    (take-take filled (filled + count) new (omega arith) ∙ kept)

-- the bytes of a buffer, by its marks
abbrev pub holding : List ℕ → (given passed end : ℕ) → Holding
holding bytes given passed end =
    record { ready = part given passed bytes; undecided = part passed end bytes }

pub gives : (bytes : List ℕ) (given passed end count : ℕ) (room front : List ℕ)
    → given ≤ passed → passed ≤ length bytes → count ≡ min (passed - given) (length room)
    → front ≡ part given (given + count) bytes
    → Gives (holding bytes given passed end) (holding bytes (given + count) passed end)
    (front ++ drop count room) count
gives bytes given passed end count room front ordered within counted copied =
    let ready = part given passed bytes in
    let few : count ≤ passed - given = omega arith in
    let long : length ready ≡ passed - given = part-length bytes given passed ordered within in
    let sum : given + count - given ≡ count = omega arith in
    let taken : front ≡ take count ready =
    copied ∙ ap (λ (n : ℕ). take n (drop given bytes)) sum
    ∙ sym (take-take count (passed - given) (drop given bytes) few) in
    let front_long : length front ≡ count =
    ap length taken ∙ length-take-le count ready (omega arith) in
    record {
      count_is = omega (arith, length-append front (drop count room), length-drop count room);
      given = take_at front (drop count room) count front_long ∙ taken;
      left = ap (λ (xs : List ℕ). let all : Holding =
          record { ready = xs; undecided = part passed end bytes } in all)
          (part-shorter bytes given passed count (omega arith));
    }

-- what was written behind the first bytes
pub behind_first : (first bytes rest : List ℕ) (filled count : ℕ) → length first ≡ filled
    → count ≤ length bytes
    → drop filled (take (filled + count) (first ++ (bytes ++ rest))) ≡ take count bytes
behind_first first bytes rest filled count long within =
    drop-take filled count (first ++ (bytes ++ rest))
    ∙ ap (take count) (drop_at first (bytes ++ rest) filled long)
    ∙ take-append-le count bytes rest within

-- bytes in the middle, in two parts
pub middle_front : (bytes middle : List ℕ) (from to count : ℕ) → from ≤ length bytes
    → count ≤ length middle
    → part from (from + count) (put_mid from (to - from) bytes middle) ≡ take count middle
middle_front bytes middle from to count within few =
    let rest = post_of from (to - from) bytes in
    let sum : from + count - from ≡ count = omega arith in
    ap (λ (n : ℕ). take n (drop from (put_mid from (to - from) bytes middle))) sum
    ∙ ap (take count)
    (drop_at (take from bytes) (middle ++ rest) from (length-take-le from bytes within))
    ∙ take-append-le count middle rest few

pub middle_rest : (bytes middle : List ℕ) (from to count : ℕ) → from ≤ length bytes
    → length middle ≡ to - from → count ≤ length middle
    → part (from + count) to (put_mid from (to - from) bytes middle) ≡ drop count middle
middle_rest bytes middle from to count within long few =
    let rest = post_of from (to - from) bytes in
    ap (take (to - (from + count)))
    (sym (drop-drop count from (put_mid from (to - from) bytes middle))
    ∙ ap (drop count)
    (drop_at (take from bytes) (middle ++ rest) from (length-take-le from bytes within))
    ∙ drop-append-le count middle rest few)
    ∙ take_at (drop count middle) rest (to - (from + count)) (omega (arith, length-drop count middle))

-- bytes that were passed on in the buffer
pub passes_held : (g h : Gate) (bytes middle old : List ℕ) (from to count : ℕ)
    → from ≤ to → to ≤ length bytes → part from to bytes ≡ old
    → Passes g (part from to bytes) h middle count
    → (let new = holding (put_mid from (to - from) bytes middle) from (from + count) to in
    Passes g old h (new.ready ++ new.undecided) (length new.ready))
passes_held g h bytes middle old from to count ordered within same passes =
    let long : length middle ≡ to - from =
    passes.length_is ∙ part-length bytes from to ordered within in
    let few : count ≤ length middle = omega (arith, passes.within, passes.length_is) in
    let ready = middle_front bytes middle from to count (omega arith) few in
    let rest = middle_rest bytes middle from to count (omega arith) long few in
    let counted : length (take count middle) ≡ count = length-take-le count middle few in
    rw (ready, rest, counted, take-append-drop count middle)
    (subst (λ (xs : List ℕ). Passes g xs h middle count) same passes)

-- No byte.

none_consumed : (a b : Option (List ℕ)) → Keeps a b → Consumes a b []
none_consumed None b kept = tt
none_consumed (Some xs) None kept = absurd kept
none_consumed (Some xs) (Some ys) kept = sym kept

-- What is given.

module _ {S : Type 0} (remaining : S → Option (List ℕ)) where
  -- no byte came
  pub nothing_came : (old new : Over S) → Keeps (remaining old.stream) (remaining new.stream)
      → new.gate ≡ old.gate → new.held ≡ old.held → Gave remaining old new []
  nothing_came old new kept gate held = record {
    came = [];
    consumed = none_consumed (remaining old.stream) (remaining new.stream) kept;
    front = λ behind.
        ap (λ (g : Gate). to_give g old.held behind) (sym gate)
        ∙ ap (λ (h : Holding). to_give new.gate h behind) (sym held);
  }

  -- nothing happened
  pub gave_none : (all : Over S) → Gave remaining all all []
  gave_none all = nothing_came all all (Keeps-refl (remaining all.stream)) refl refl

  -- bytes are passed on where none were held, and others are behind them
  pub came_through : (old new : Over S) (read bytes rest : List ℕ) (count passed : ℕ)
      → old.held ≡ nothing_held
      → new.held ≡ record { ready = []; undecided = part passed count (bytes ++ rest) }
      → length read ≡ count → Consumes (remaining old.stream) (remaining new.stream) read
      → Passes old.gate read new.gate bytes passed
      → Gave remaining old new (take passed (bytes ++ rest))
  came_through old new read bytes rest count passed none is long consumed passes =
      let few : passed ≤ length bytes = omega (arith, passes.within, passes.length_is) in
      let behind_those : part passed count (bytes ++ rest) ≡ drop passed bytes =
      ap (take (count - passed)) (drop-append-le passed bytes rest few)
      ∙ take_at (drop passed bytes) rest (count - passed)
      (omega (arith, length-drop passed bytes, passes.length_is)) in
      let ready : new.held.ready ≡ [] = ap (λ (o : Holding). o.ready) is in
      let undecided : new.held.undecided ≡ drop passed read =
      ap (λ (o : Holding). o.undecided) is ∙ behind_those ∙ passes.others in
      record {
        came = read;
        consumed = consumed;
        front = λ behind.
            ap (λ (o : Holding). to_give old.gate o (read ++ behind)) none
            ∙ passes.front behind
            ∙ ap (λ (zs : List ℕ). take passed bytes ++ onward new.gate (zs ++ behind))
            (sym undecided)
            ∙ ap (λ (zs : List ℕ). take passed bytes
            ++ (zs ++ onward new.gate (new.held.undecided ++ behind))) (sym ready)
            ∙ ap (λ (zs : List ℕ). zs ++ to_give new.gate new.held behind)
            (sym (take-append-le passed bytes rest few));
      }

  -- bytes that were ready are given
  pub given_of : (old new : Over S) (room : List ℕ) (count : ℕ) → new.stream ≡ old.stream
      → new.gate ≡ old.gate → Gives old.held new.held room count
      → Gave remaining old new (take count room)
  given_of old new room count same gate its = record {
    came = [];
    consumed = none_consumed (remaining old.stream) (remaining new.stream)
        (subst (λ (s : S). Keeps (remaining old.stream) (remaining s)) (sym same)
        (Keeps-refl (remaining old.stream)));
    front = λ behind.
        let rest = onward old.gate (old.held.undecided ++ behind) in
        ap (λ (zs : List ℕ). zs ++ rest) (sym (take-append-drop count old.held.ready))
        ∙ append_assoc (take count old.held.ready) (drop count old.held.ready) rest
        ∙ ap (λ (zs : List ℕ). zs ++ (drop count old.held.ready ++ rest)) (sym its.given)
        ∙ ap (λ (g : Gate). take count room ++ (drop count old.held.ready
        ++ onward g (old.held.undecided ++ behind))) (sym gate)
        ∙ ap (λ (o : Holding). take count room ++ to_give new.gate o behind) (sym its.left);
  }

  -- bytes are given after others
  pub gave-then : (old mid new : Over S) (bytes more : List ℕ) → Gave remaining old mid bytes
      → Gave remaining mid new more → Gave remaining old new (bytes ++ more)
  gave-then old mid new bytes more first later = record {
    came = first.came ++ later.came;
    consumed = Consumes-trans (remaining old.stream) (remaining mid.stream) (remaining new.stream)
        first.came later.came first.consumed later.consumed;
    front = λ behind.
        ap (to_give old.gate old.held) (append_assoc first.came later.came behind)
        ∙ first.front (later.came ++ behind)
        ∙ ap (λ (zs : List ℕ). bytes ++ zs) (later.front behind)
        ∙ sym (append_assoc bytes more (to_give new.gate new.held behind));
  }

  -- so they are consumed, where what is left is known
  pub consumed-by : (old new : Over S) (r r' : Option (List ℕ)) (came bytes : List ℕ)
      → Consumes r r' came
      → ((behind : List ℕ)
      → to_give old.gate old.held (came ++ behind) ≡ bytes ++ to_give new.gate new.held behind)
      → Consumes (option_map (to_give old.gate old.held) r)
      (option_map (to_give new.gate new.held) r') bytes
  consumed-by old new None r' came bytes consumed front = tt
  consumed-by old new (Some xs) None came bytes consumed front = absurd consumed
  consumed-by old new (Some xs) (Some ys) came bytes consumed front =
      ap (to_give old.gate old.held) consumed ∙ front ys

  pub gave-consumes : (old new : Over S) (bytes : List ℕ) → Gave remaining old new bytes
      → Consumes (left_over remaining old) (left_over remaining new) bytes
  gave-consumes old new bytes its =
      consumed-by old new (remaining old.stream) (remaining new.stream) its.came bytes its.consumed
      its.front

-- At the end.

-- of no byte none is made
onward_none : (users : List (List ℕ)) (place : Place) → masked_from users place [] ≡ []
unfolding masked masked_within
onward_none users (Before zero) = refl
onward_none users (Before (suc n)) = refl
onward_none users Lost = refl

-- nothing is left
at_end : (gate : Gate) (held : Holding) (r : Option (List ℕ)) → held.ready ≡ []
    → held.undecided ≡ [] → IsAtEnd r → IsAtEnd (option_map (to_give gate held) r)
at_end gate held None none none' end = tt
at_end gate held (Some xs) none none' end =
    ap (λ (zs : List ℕ). zs ++ onward gate (held.undecided ++ xs)) none
    ∙ ap (λ (zs : List ℕ). onward gate (zs ++ xs)) none'
    ∙ ap (onward gate) end ∙ onward_none gate.users gate.place

-- nothing came, and the stream below is at its end
pub ends : (gate : Gate) (held : Holding) (r : Option (List ℕ)) (count : ℕ) (bytes : List ℕ)
    → held ≡ record { ready = []; undecided = take count bytes } → count ≡ 0 → IsAtEnd r
    → IsAtEnd (option_map (to_give gate held) r)
ends gate held r count bytes is none end =
    at_end gate held r (ap (λ (o : Holding). o.ready) is)
    (ap (λ (o : Holding). o.undecided) is ∙ ap (λ (n : ℕ). take n bytes) none) end
