-- What a crash leaves while a block is added to a file.
use Rattle.std.proofs.Common.{◌≡◌, ◌⊎◌, inl, inr, ⊎_elim, ℕ, ◌+◌, ◌<◌, ◌≤◌, ◌^◌, max}
use Rattle.std.proofs.Common.{List, [], ◌∷◌, ◌++◌, length, take, drop, get_or, sym, ap, subst, ◌∙◌}
use Rattle.std.proofs.Common.{append_assoc, arith, length-append, take-append-drop}
use Rattle.std.proofs.lemmas.List.{drop_at, length-take-le, take-take, take_at}
use Rattle.p9_log.specs.declared.crash.Crash.{Crash}
use Rattle.p9_log.specs.declared.crash.Crash.TheVariants.{Killed, Stopped}
use Rattle.p9_log.specs.Blocks.{number, content_in}
use Rattle.p9_log.specs.Device.{After, Holds, IsSameTo, IsWritten, LeavesOnly, Only, Passes}
use Rattle.p9_log.specs.Log.{IsAppended}
use Rattle.p9_log.specs.Rest.{block, staged, Begin, Parts, between, IsAtRest}
use Rattle.p9_log.proofs.Moments.{begins, goes_on}
use Rattle.p9_log.proofs.Readings.{length-number, shut}
use Rattle.p9_log.proofs.Rest.{runs-stop, parts-append, split-killed, split-stopped, is_split, at_rest}
use Rattle.p9_log.proofs.Splits.{blocks-long, front-long, front-stopped}
use Rattle.p9_log.proofs.Writes.{holds-front, held-gate, killed-gate, length-holds, same-to, torn-front, as-long}

-- how many bytes are written behind the gates of a block
pub length-staged : (bytes : List ℕ) → length (staged bytes) ≡ 10 + length bytes
length-staged bytes =
    omega (
      arith,
      length-append (number (length bytes) ++ bytes) (1 ∷ 0 ∷ []),
      length-append (number (length bytes)) bytes,
      length-number (length bytes),
    )

module _ (file : List ℕ) (kept end : ℕ) (r : IsAtRest file kept end) where
  abbrev gate : ℕ
  gate = get_or file kept 0

  abbrev blocks : List ℕ
  blocks = take kept file ++ gate ∷ between kept end file

  long : length blocks ≡ end
  long = blocks-long file kept end r.split

  is : file ≡ blocks ++ 1 ∷ 0 ∷ drop (end + 2) file
  is = r.split.whole ∙ ap (λ (bs : List ℕ). blocks ++ bs) r.next

  -- the gates of the next block are there
  pub reaches : end + 2 ≤ length file
  reaches = omega (arith, ap length is, length-append blocks (1 ∷ 0 ∷ drop (end + 2) file), long)

  gate-at : length (blocks ++ 1 ∷ []) ≡ end + 1
  gate-at = omega (arith, long, length-append blocks (1 ∷ []))

  taken : take (end + 2) file ≡ blocks ++ 1 ∷ 0 ∷ []
  taken =
      ap (take (end + 2)) (is ∙ sym (append_assoc blocks (1 ∷ 0 ∷ []) (drop (end + 2) file)))
      ∙ take_at (blocks ++ 1 ∷ 0 ∷ []) (drop (end + 2) file) (end + 2) (omega (arith, long, length-append blocks (1 ∷ 0 ∷ [])))

  -- a file that is the same up to the gates of the next block
  module _ (c : List ℕ) (same : take (end + 2) c ≡ take (end + 2) file) where
    parted : c ≡ blocks ++ 1 ∷ 0 ∷ drop (end + 2) c
    parted =
        sym (take-append-drop (end + 2) c) ∙ ap (λ (bs : List ℕ). bs ++ drop (end + 2) c) (same ∙ taken)
        ∙ append_assoc blocks (1 ∷ 0 ∷ []) (drop (end + 2) c)

    pub same-killed : content_in Killed c ≡ content_in Killed file
    same-killed =
        ap (content_in Killed) parted
        ∙ runs-stop Killed Stopped blocks (content_in Killed file) (1 ∷ 0 ∷ drop (end + 2) c) r.split.parts.written (shut Stopped 1 (drop (end + 2) c))

    pub same-front : take (kept + 1) c ≡ take (kept + 1) file
    same-front =
        let o = r.split.order in
        sym (take-take (kept + 1) (end + 2) c (omega arith)) ∙ ap (take (kept + 1)) same ∙ take-take (kept + 1) (end + 2) file (omega arith)

    pub same-stopped : content_in Stopped c ≡ content_in Stopped file
    same-stopped = front-stopped file kept end r.split c same-front

    pub same-rest : IsAtRest c kept end
    same-rest =
        let o = r.split.order in
        let kept_is = front-long file kept end r.split in
        let ends : end ≡ length (take kept file) + 1 + length (between kept end file) =
        omega (arith, long, length-append (take kept file) (gate ∷ between kept end file)) in
        let s = is_split gate (take kept file) (between kept end file) (1 ∷ 0 ∷ drop (end + 2) c) (content_in Stopped file) (content_in Killed file) r.split.parts r.split.gate (shut Stopped 1 (drop (end + 2) c))
        c kept end parted (sym kept_is) ends in
        at_rest c kept end (drop (end + 2) c) s.0 s.1

  -- a block is behind the gates, and those of the next are behind it
  module _ (bytes more : List ℕ) (small : length bytes < 2 ^ 64) (behind : drop (end + 2) file ≡ staged bytes ++ more) where
    abbrev sized : List ℕ
    sized = number (length bytes) ++ bytes

    -- all of the block is there
    abbrev inner : List ℕ
    inner = between kept end file ++ block 1 bytes

    at_gate : file ≡ (blocks ++ 1 ∷ []) ++ 0 ∷ (staged bytes ++ more)
    at_gate =
        is ∙ ap (λ (bs : List ℕ). blocks ++ 1 ∷ 0 ∷ bs) behind ∙ sym (append_assoc blocks (1 ∷ []) (0 ∷ (staged bytes ++ more)))

    staged-parts : staged bytes ++ more ≡ sized ++ 1 ∷ 0 ∷ more
    staged-parts = append_assoc sized (1 ∷ 0 ∷ []) more

    opened : (blocks ++ 1 ∷ []) ++ 1 ∷ (staged bytes ++ more) ≡ (take kept file ++ gate ∷ inner) ++ 1 ∷ 0 ∷ more
    opened =
        append_assoc blocks (1 ∷ []) (1 ∷ (staged bytes ++ more))
        ∙ ap (λ (bs : List ℕ). blocks ++ 1 ∷ 1 ∷ bs) staged-parts
        ∙ sym (append_assoc blocks (block 1 bytes) (1 ∷ 0 ∷ more))
        ∙ ap (λ (bs : List ℕ). bs ++ 1 ∷ 0 ∷ more) (append_assoc (take kept file) (gate ∷ between kept end file) (block 1 bytes))

    more-parts : Parts gate (take kept file) inner (content_in Stopped file) (content_in Killed file ++ bytes)
    more-parts = parts-append gate (take kept file) (between kept end file) (content_in Stopped file) (content_in Killed file) r.split.parts bytes small

    opened-killed : (c : List ℕ) → c ≡ (blocks ++ 1 ∷ []) ++ 1 ∷ (staged bytes ++ more) → content_in Killed c ≡ content_in Killed file ++ bytes
    opened-killed c e =
        ap (content_in Killed) (e ∙ opened)
        ∙ split-killed gate (take kept file) inner (1 ∷ 0 ∷ more) (content_in Stopped file) (content_in Killed file ++ bytes) more-parts r.split.gate (shut Stopped 1 more)

    -- a killed process leaves the write gate closed, or open
    pub opened-or-not : (c : List ℕ) → IsWritten Killed (end + 1) (1 ∷ []) file c
        → (content_in Killed c ≡ content_in Killed file) ⊎ (content_in Killed c ≡ content_in Killed file ++ bytes)
    opened-or-not c written =
        ⊎_elim (λ e. inl (ap (content_in Killed) (e ∙ sym at_gate))) (λ e. inr (opened-killed c e))
        (killed-gate (blocks ++ 1 ∷ []) (staged bytes ++ more) c 0 1 (end + 1) gate-at
        (subst (λ f. IsWritten Killed (end + 1) (1 ∷ []) f c) at_gate written))

    pub record IsOpened (new : List ℕ) : Type 0 where
      pub rest : IsAtRest new kept (end + (10 + length bytes))
      pub written : content_in Killed new ≡ content_in Killed file ++ bytes
      pub synced : content_in Stopped new ≡ content_in Stopped file

    pub is_opened : (new : List ℕ) → Holds file (end + 1) (1 ∷ []) new → IsOpened new
    is_opened new holds =
        let held : new ≡ (blocks ++ 1 ∷ []) ++ 1 ∷ (staged bytes ++ more) =
        held-gate (blocks ++ 1 ∷ []) (staged bytes ++ more) new 0 1 (end + 1) gate-at
        (subst (λ f. Holds f (end + 1) (1 ∷ []) new) at_gate holds) in
        let kept_is = front-long file kept end r.split in
        let ends : end + (10 + length bytes) ≡ length (take kept file) + 1 + length inner = omega (
          arith,
          long,
          length-append (take kept file) (gate ∷ between kept end file),
          length-append (between kept end file) (block 1 bytes),
          length-append (number (length bytes)) bytes,
          length-number (length bytes),
        ) in
        let s = is_split gate (take kept file) inner (1 ∷ 0 ∷ more) (content_in Stopped file) (content_in Killed file ++ bytes) more-parts r.split.gate (shut Stopped 1 more)
        new kept (end + (10 + length bytes)) (held ∙ opened) (sym kept_is) ends in
        record {
          rest = at_rest new kept (end + (10 + length bytes)) more s.0 s.1;
          written = opened-killed new held;
          synced = ap (content_in Stopped) (held ∙ opened)
              ∙ split-stopped gate (take kept file) inner (1 ∷ 0 ∷ more) (content_in Stopped file) (content_in Killed file ++ bytes) more-parts r.split.gate (shut Stopped 1 more);
        }

module _ {D : Type 0} (seen : D → List ℕ) (moment : D → ℕ) (may_leave : D → Crash → List ℕ → Type 0)
    (left_since : D → Crash → ℕ → List ℕ → Type 0)
    (alive : (file : D) → Only (seen file) (may_leave file Killed))
    (kept end : ℕ) (start : D) (r : IsAtRest (seen start) kept end)
    (begin : Begin (kept + 1) (seen start) (may_leave start Stopped)) (bytes : List ℕ) (one : D)
    (first : (how : Crash) → Passes moment may_leave left_since how (IsSameTo (length (seen start))) start one) where
  abbrev file : List ℕ
  file = seen start

  abbrev P : Crash → List ℕ → Type 0
  P how = IsAppended how file bytes

  before : kept + 1 ≤ end
  before = let o = r.split.order in omega arith

  enough : end + 2 ≤ length file
  enough = reaches file kept end r

  -- what is the same up to the gates, or up to the closed sync gate
  unchanged : (c : List ℕ) → take (end + 2) c ≡ take (end + 2) file → P Killed c
  unchanged c same = inl (same-killed file kept end r c same)

  front-unchanged : (c : List ℕ) → take (kept + 1) c ≡ take (kept + 1) file → P Stopped c
  front-unchanged c same = front-stopped file kept end r.split c same

  there : (c : List ℕ) → take (kept + 1) c ≡ take (kept + 1) file → kept + 1 ≤ length c
  there c same = as-long (kept + 1) file c (omega (arith, before, enough)) same

  -- room is made
  room-front : (c : List ℕ) → After (IsSameTo (length file)) (may_leave start Stopped) c → take (kept + 1) c ≡ take (kept + 1) file
  room-front c after =
      let same = begin after.0 after.1 in
      same-to (kept + 1) (length file) after.0 c (omega (arith, before, enough)) (there after.0 same) after.2 ∙ same

  room-crash : (how : Crash) (c : List ℕ) → After (IsSameTo (length file)) (may_leave start how) c → P how c
  room-crash Killed c after =
      unchanged c (same-to (end + 2) (length file) file c enough enough
      (subst (λ f. IsSameTo (length file) f c) (alive start after.0 after.1) after.2))
  room-crash Stopped c after = front-unchanged c (room-front c after)

  pub after-room : (how : Crash) → LeavesOnly moment left_since how (P how) start one
  after-room how =
      begins moment may_leave left_since how (P how) start one (IsSameTo (length file)) (first how) (room-crash how)

  module _ (same : IsSameTo (length file) file (seen one)) (two : D)
      (second : (how : Crash) → Passes moment may_leave left_since how (IsWritten how (end + 2) (staged bytes)) one two) where
    one-same : take (end + 2) (seen one) ≡ take (end + 2) file
    one-same = same-to (end + 2) (length file) file (seen one) enough enough same

    pub rest-one : IsAtRest (seen one) kept end
    rest-one = same-rest file kept end r (seen one) one-same

    pub room : end + 2 ≤ length (seen one)
    room = reaches (seen one) kept end rest-one

    -- the block is written behind the gates
    body-front : (c : List ℕ) → After (IsWritten Stopped (end + 2) (staged bytes)) (may_leave one Stopped) c → take (kept + 1) c ≡ take (kept + 1) file
    body-front c after =
        let so_far = room-front after.0 ((first Stopped).now after.0 after.1) in
        torn-front (kept + 1) (end + 2) (length (staged bytes)) after.0 c (omega (arith, before)) (there after.0 so_far) after.2 ∙ so_far

    body-crash : (how : Crash) (c : List ℕ) → After (IsWritten how (end + 2) (staged bytes)) (may_leave one how) c → P how c
    body-crash Killed c after =
        let n = after.2.0 in
        unchanged c (holds-front (seen one) (take n (staged bytes)) c (end + 2) room
        (subst (λ f. Holds f (end + 2) (take n (staged bytes)) c) (alive one after.0 after.1) after.2.1) ∙ one-same)
    body-crash Stopped c after = front-unchanged c (body-front c after)

    pub after-body : (how : Crash) → LeavesOnly moment left_since how (P how) start two
    after-body how =
        goes_on moment may_leave left_since how (P how) start one two (IsWritten how (end + 2) (staged bytes)) (after-room how) (second how) (body-crash how)

    module _ (small : length bytes < 2 ^ 64) (written : Holds (seen one) (end + 2) (staged bytes) (seen two)) (three : D)
        (third : (how : Crash) → Passes moment may_leave left_since how (IsWritten how (end + 1) (1 ∷ [])) two three) where
      two-same : take (end + 2) (seen two) ≡ take (end + 2) file
      two-same = holds-front (seen one) (staged bytes) (seen two) (end + 2) room written ∙ one-same

      pub rest-two : IsAtRest (seen two) kept end
      rest-two = same-rest file kept end r (seen two) two-same

      abbrev more : List ℕ
      more = drop (end + 2 + length (staged bytes)) (seen one)

      behind-two : drop (end + 2) (seen two) ≡ staged bytes ++ more
      behind-two =
          ap (drop (end + 2)) (written ∙ append_assoc (take (end + 2) (seen one)) (staged bytes) more)
          ∙ drop_at (take (end + 2) (seen one)) (staged bytes ++ more) (end + 2) (length-take-le (end + 2) (seen one) room)

      -- the write gate is opened
      gate-front : (c : List ℕ) → After (IsWritten Stopped (end + 1) (1 ∷ [])) (may_leave two Stopped) c → take (kept + 1) c ≡ take (kept + 1) file
      gate-front c after =
          let so_far = body-front after.0 ((second Stopped).now after.0 after.1) in
          torn-front (kept + 1) (end + 1) 1 after.0 c (omega (arith, before)) (there after.0 so_far) after.2 ∙ so_far

      killed-two : content_in Killed (seen two) ≡ content_in Killed file
      killed-two = same-killed file kept end r (seen two) two-same

      gate-crash : (how : Crash) (c : List ℕ) → After (IsWritten how (end + 1) (1 ∷ [])) (may_leave two how) c → P how c
      gate-crash Killed c after =
          ⊎_elim (λ e. inl (e ∙ killed-two)) (λ e. inr (e ∙ ap (λ (bs : List ℕ). bs ++ bytes) killed-two))
          (opened-or-not (seen two) kept end rest-two bytes more small behind-two c
          (subst (λ f. IsWritten Killed (end + 1) (1 ∷ []) f c) (alive two after.0 after.1) after.2))
      gate-crash Stopped c after = front-unchanged c (gate-front c after)

      pub after-gate : (how : Crash) → LeavesOnly moment left_since how (P how) start three
      after-gate how =
          goes_on moment may_leave left_since how (P how) start two three (IsWritten how (end + 1) (1 ∷ [])) (after-body how) (third how) (gate-crash how)

      pub record IsAdded : Type 0 where
        pub rest : IsAtRest (seen three) kept (end + (10 + length bytes))
        pub killed : content_in Killed (seen three) ≡ content_in Killed file ++ bytes
        pub stopped : content_in Stopped (seen three) ≡ content_in Stopped file
        pub front : Begin (kept + 1) (seen three) (may_leave three Stopped)
        pub size : length (seen three) ≡ max (length (seen one)) (end + (10 + length bytes) + 2)

      pub is_added : Holds (seen two) (end + 1) (1 ∷ []) (seen three) → IsAdded
      is_added holds =
          let o = is_opened (seen two) kept end rest-two bytes more small behind-two (seen three) holds in
          let last : take (kept + 1) (seen three) ≡ take (kept + 1) file =
          sym (take-take (kept + 1) (end + 1) (seen three) (omega (arith, before)))
          ∙ ap (take (kept + 1)) (holds-front (seen two) (1 ∷ []) (seen three) (end + 1) (omega (arith, reaches (seen two) kept end rest-two)) holds)
          ∙ take-take (kept + 1) (end + 1) (seen two) (omega (arith, before))
          ∙ same-front file kept end r (seen two) two-same in
          record {
            rest = o.rest;
            killed = o.written ∙ ap (λ (bs : List ℕ). bs ++ bytes) killed-two;
            stopped = o.synced ∙ same-stopped file kept end r (seen two) two-same;
            front = λ c now. gate-front c ((third Stopped).now c now) ∙ sym last;
            size = omega (
              arith,
              length-holds (seen two) (1 ∷ []) (seen three) (end + 1) (omega (arith, reaches (seen two) kept end rest-two)) holds,
              length-holds (seen one) (staged bytes) (seen two) (end + 2) room written,
              length-staged bytes,
              reaches (seen two) kept end rest-two,
            );
          }
