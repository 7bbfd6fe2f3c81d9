-- A write that is done in pieces.
use Rattle.std.proofs.Common.{◌≡◌, ⊎_elim, ℕ, ◌+◌, ◌-◌, ◌≤◌, ◌<◌, min, List, ◌∷◌, ◌++◌, length, take, drop, refl, sym, ap, subst, ◌∙◌, append_assoc, arith, length-append, length-drop, length-take, take-append-drop}
use Rattle.std.proofs.lemmas.Bool.{cases_lt}
use Rattle.std.proofs.lemmas.List.{take_all, take_at, take-take, drop_at, drop-drop, length-take-le}
use Rattle.std.proofs.Math.Seq.{take-append-add}
use Rattle.p9_log.specs.declared.crash.Crash.{Crash}
use Rattle.p9_log.specs.declared.crash.Crash.TheVariants.{Killed, Stopped}
use Rattle.p9_log.specs.Device.{After, Holds, IsSame, IsWritten, Torn}
use Rattle.p9_disk.specs.Events.{Event, drafted, faults, seen, wrote, write_failed}
use Rattle.p9_disk.specs.Crashes.{Goes, may_leave, step_of}
use Rattle.p9_disk.proofs.Moments.{goes_on}

-- a front, and a front of what is behind it
pub fronts : (k m : ℕ) (bytes : List ℕ) → k ≤ length bytes → take k bytes ++ take m (drop k bytes) ≡ take (k + m) bytes
fronts k m bytes le =
    let long : k ≡ length (take k bytes) = sym (length-take-le k bytes le) in
    sym (ap (take (k + m)) (sym (take-append-drop k bytes)) ∙ ap (λ (i : ℕ). take (i + m) (take k bytes ++ drop k bytes)) long ∙ take-append-add (take k bytes) (drop k bytes) m)

-- a front of a front
front_of : (m n : ℕ) (bytes : List ℕ) → take m (take n bytes) ≡ take (min m n) bytes
front_of m n bytes =
    ⊎_elim
    (λ (less : n < m).
    take_all m (take n bytes) (omega (arith, less, length-take n bytes)) ∙ ap (λ (k : ℕ). take k bytes) (omega (arith, less)))
    (λ (le : m ≤ n). take-take m n bytes le ∙ ap (λ (k : ℕ). take k bytes) (omega (arith, le)))
    (cases_lt n m)

-- a file that has a front of the bytes, and then more of them
pub more : (at k m : ℕ) (bytes old mid new : List ℕ) → at ≤ length old → k ≤ length bytes → Holds old at (take k bytes) mid
    → Holds mid (at + k) (take m (drop k bytes)) new → Holds old at (take (k + m) bytes) new
more at k m bytes old mid new le fits first then =
    let piece = take m (drop k bytes) in
    let front = take at old ++ take k bytes in
    let some : length (take k bytes) ≡ k = length-take-le k bytes fits in
    let long : length front ≡ at + k = omega (arith, length-append (take at old) (take k bytes), length-take-le at old le, some) in
    let all : take k bytes ++ piece ≡ take (k + m) bytes = fronts k m bytes fits in
    let size : k + length piece ≡ length (take (k + m) bytes) = omega (arith, ap length all, length-append (take k bytes) piece, some) in
    let head : take (at + k) mid ≡ front = ap (take (at + k)) first ∙ take_at front (drop (at + length (take k bytes)) old) (at + k) long in
    let rest : drop (at + k) mid ≡ drop (at + length (take k bytes)) old =
    ap (drop (at + k)) first ∙ drop_at front (drop (at + length (take k bytes)) old) (at + k) long in
    let tail : drop (at + k + length piece) mid ≡ drop (at + length (take (k + m) bytes)) old =
    sym (drop-drop (length piece) (at + k) mid) ∙ ap (drop (length piece)) rest ∙ drop-drop (length piece) (at + length (take k bytes)) old
    ∙ ap (λ (i : ℕ). drop i old) (omega (arith, size, some)) in
    let body : take (at + k) mid ++ piece ≡ take at old ++ take (k + m) bytes =
    ap (λ (bs : List ℕ). bs ++ piece) head ∙ append_assoc (take at old) (take k bytes) piece ∙ ap (λ (bs : List ℕ). take at old ++ bs) all in
    then ∙ ap (λ (bs : List ℕ). bs ++ drop (at + k + length piece) mid) body ∙ ap (λ (bs : List ℕ). take at old ++ take (k + m) bytes ++ bs) tail

-- a write in a range, and one within it
torn_again : (at k n m : ℕ) (old mid new : List ℕ) → k + m ≤ n → Torn at n old mid → Torn (at + k) m mid new → Torn at n old new
torn_again at k n m old mid new le first then =
    let least = min at (length old) in
    let front : take least new ≡ take at old =
    sym (take-take least (min (at + k) (length mid)) new (omega (arith, first.no_shorter)))
    ∙ ap (take least) then.before ∙ take-take least (at + k) mid (omega arith) ∙ first.before in
    let back : drop (at + n) new ≡ drop (at + n) old =
    ap (λ (i : ℕ). drop i new) (omega arith) ∙ sym (drop-drop (n - (k + m)) (at + k + m) new) ∙ ap (drop (n - (k + m))) then.after
    ∙ drop-drop (n - (k + m)) (at + k + m) mid ∙ ap (λ (i : ℕ). drop i mid) (omega arith) ∙ first.after in
    record {
      before = front;
      after = back;
      no_shorter = omega (arith, first.no_shorter, then.no_shorter);
      no_longer = omega (arith, first.no_longer, then.no_longer);
    }

-- what a crash within a piece leaves, one within the whole write leaves
pub within-piece : (how : Crash) (at k n : ℕ) (bytes : List ℕ) (old mid : List Event) → at ≤ length (seen old) → k + n ≤ length bytes
    → Holds (seen old) at (take k bytes) (seen mid) → Goes how (IsWritten how at bytes) old mid
    → (c : List ℕ) → After (IsWritten how (at + k) (take n (drop k bytes))) (may_leave how mid) c → After (IsWritten how at bytes) (may_leave how old) c
within-piece Killed at k n bytes old mid le fits holds goes c (d, is, (m, then)) =
    let front : Holds (seen mid) (at + k) (take (min m n) (drop k bytes)) c =
    subst (λ (bs : List ℕ). Holds (seen mid) (at + k) bs c) (front_of m n (drop k bytes))
    (subst (λ (file : List ℕ). Holds file (at + k) (take m (take n (drop k bytes))) c) is then) in
    (seen old, refl, (k + min m n, more at k (min m n) bytes (seen old) (seen mid) c le (omega (arith, fits)) holds front))
within-piece Stopped at k n bytes old mid le fits holds goes c (d, left, then) =
    let (d0, was, first) = goes.now d left in
    let long : length (take n (drop k bytes)) ≡ n = length-take-le n (drop k bytes) (omega (arith, fits, length-drop k bytes)) in
    (d0, was, torn_again at k (length bytes) (length (take n (drop k bytes))) d0 d c (omega (arith, fits, long)) first then)

module _ (at k : ℕ) (bytes : List ℕ) (old mid : List Event) (le : at ≤ length (seen old)) (holds : Holds (seen old) at (take k bytes) (seen mid))
    (goes : (how : Crash) → Goes how (IsWritten how at bytes) old mid) where
  -- a piece is written
  pub wrote-piece : (n : ℕ) (new : List Event) → k + n ≤ length bytes → new ≡ wrote (at + k) (take (k + n - k) (drop k bytes)) ∷ mid
      → Holds (seen old) at (take (k + n) bytes) (seen new) × ((how : Crash) → Goes how (IsWritten how at bytes) old new) × (faults new ≡ faults mid)
  wrote-piece n new fits is =
      let j = k + n - k in
      let same : k + j ≡ k + n = omega arith in
      let e = wrote (at + k) (take j (drop k bytes)) in (
        subst (λ (events : List Event). Holds (seen old) at (take (k + n) bytes) (seen events)) (sym is)
            (subst (λ (m : ℕ). Holds (seen old) at (take m bytes) (seen (e ∷ mid))) same
            (more at k j bytes (seen old) (seen mid) (seen (e ∷ mid)) le (omega (arith, fits)) holds refl)),
        λ how. subst (Goes how (IsWritten how at bytes) old) (sym is)
            (goes_on how (IsWritten how at bytes) old mid e (goes how) (within-piece how at k j bytes old mid le (omega (arith, fits, same)) holds (goes how))),
        ap faults is,
      )

  -- or isn't
  pub failed-piece : (n : ℕ) (new : List Event) → k + n ≤ length bytes → new ≡ write_failed (at + k) (take n (drop k bytes)) ∷ mid
      → (how : Crash) → Goes how (IsWritten how at bytes) old new
  failed-piece n new fits is how =
      subst (Goes how (IsWritten how at bytes) old) (sym is)
      (goes_on how (IsWritten how at bytes) old mid (write_failed (at + k) (take n (drop k bytes))) (goes how) (within-piece how at k n bytes old mid le fits holds (goes how)))

-- what changes nothing goes on so
pub same-again : (how : Crash) (old mid new : List Event) (e : Event) → Goes how IsSame old mid → new ≡ e ∷ mid
    → ((d c : List ℕ) → step_of how e (drafted mid) d c → c ≡ d) → Goes how IsSame old new
same-again how old mid new e goes is same =
    subst (Goes how IsSame old) (sym is)
    (goes_on how IsSame old mid e goes
    (λ c in_it. let (d, was, same_d) = goes.now in_it.0 in_it.1 in (d, was, same in_it.0 c in_it.2 ∙ same_d)))

-- a piece of a draft
pub drafted-piece : (before : List ℕ) (k n : ℕ) (bytes : List ℕ) → k ≤ length bytes
    → before ++ take k bytes ++ take (k + n - k) (drop k bytes) ≡ before ++ take (k + n) bytes
drafted-piece before k n bytes le =
    append_assoc before (take k bytes) (take (k + n - k) (drop k bytes)) ∙ ap (λ (bs : List ℕ). before ++ bs)
    (fronts k (k + n - k) bytes le ∙ ap (λ (m : ℕ). take m bytes) (omega arith))
