-- What writes make of a file.
use Rattle.std.proofs.Common.{◌≡◌, ◌⊎◌, inl, inr, ℕ, zero, suc, ◌+◌, ◌≤◌, min, List, [], ◌∷◌, ◌++◌}
use Rattle.std.proofs.Common.{length, get_or, take, drop, sym, ap, ◌∙◌, append_assoc, arith, subst}
use Rattle.std.proofs.Common.{take-append-drop, length-append, length-drop, max}
use Rattle.std.proofs.Math.Seq.{drop-append-add}
use Rattle.std.proofs.lemmas.List.{take_at, drop_more, take-take, length-take, length-take-le}
use Rattle.p9_log.specs.declared.crash.Crash.{Crash}
use Rattle.p9_log.specs.declared.crash.Crash.TheVariants.{Killed, Stopped}
use Rattle.p9_log.specs.Device.{After, Holds, IsSame, IsSameTo, IsWritten, Torn}

-- a write at the end of a front
pub holds-at : (pre post bytes new : List ℕ) (at : ℕ) → length pre ≡ at → Holds (pre ++ post) at bytes new
    → new ≡ pre ++ (bytes ++ drop (length bytes) post)
holds-at pre post bytes new at is holds =
    let rest : drop (at + length bytes) (pre ++ post) ≡ drop (length bytes) post =
    ap (λ (k : ℕ). drop (k + length bytes) (pre ++ post)) (sym is) ∙ drop-append-add pre post (length bytes) in
    holds ∙ (λ i. take_at pre post at is i ++ bytes ++ rest i) ∙ append_assoc pre bytes (drop (length bytes) post)

-- a write that is cut short by a kill, over a front
pub killed-at : (pre post bytes c : List ℕ) (at : ℕ) → length pre ≡ at
    → IsWritten Killed at bytes (pre ++ post) c
    → (n : ℕ) × (c ≡ pre ++ (take n bytes ++ drop (length (take n bytes)) post))
killed-at pre post bytes c at is written = (written.0, holds-at pre post (take written.0 bytes) c at is written.1)

-- one byte, with the one that was there
pub killed-gate : (pre post c : List ℕ) (gate next at : ℕ) → length pre ≡ at
    → IsWritten Killed at (next ∷ []) (pre ++ gate ∷ post) c
    → (c ≡ pre ++ gate ∷ post) ⊎ (c ≡ pre ++ next ∷ post)
killed-gate pre post c gate next at is written = go written.0 (holds-at pre (gate ∷ post) (take written.0 (next ∷ [])) c at is written.1)
  where
    go : (n : ℕ) → c ≡ pre ++ (take n (next ∷ []) ++ drop (length (take n (next ∷ []))) (gate ∷ post))
        → (c ≡ pre ++ gate ∷ post) ⊎ (c ≡ pre ++ next ∷ post)
    go zero e = inl e
    go (suc zero) e = inr e
    go (suc (suc n)) e = inr e

pub held-gate : (pre post c : List ℕ) (gate next at : ℕ) → length pre ≡ at
    → Holds (pre ++ gate ∷ post) at (next ∷ []) c → c ≡ pre ++ next ∷ post
held-gate pre post c gate next at is holds = holds-at pre (gate ∷ post) (next ∷ []) c at is holds

pub torn-gate : (pre post c : List ℕ) (gate at : ℕ) → length pre ≡ at → Torn at 1 (pre ++ gate ∷ post) c
    → (any : ℕ) × (c ≡ pre ++ any ∷ post)
torn-gate pre post c gate at is torn =
    let long = length-append pre (gate ∷ post) in
    let there : at + 1 ≤ length c = omega (arith, torn.no_shorter) in
    let whole_front : at ≡ min at (length (pre ++ gate ∷ post)) = omega arith in
    let back : drop (at + 1) (pre ++ gate ∷ post) ≡ post =
    ap (λ (k : ℕ). drop (k + 1) (pre ++ gate ∷ post)) (sym is) ∙ drop-append-add pre (gate ∷ post) 1 in
    let rest : drop at c ≡ get_or c at 0 ∷ post =
    drop_more c at 0 (omega arith) ∙ ap (λ (bs : List ℕ). get_or c at 0 ∷ bs) (torn.after ∙ back) in (
      get_or c at 0,
      sym (take-append-drop at c) ∙ ap (λ (bs : List ℕ). bs ++ drop at c) (ap (λ (k : ℕ). take k c) whole_front ∙ torn.before ∙ take_at pre (gate ∷ post) at is)
          ∙ ap (λ (bs : List ℕ). pre ++ bs) rest,
    )

-- a write behind a place changes nothing in front of it
pub torn-front : (k at n : ℕ) (old new : List ℕ) → k ≤ at → k ≤ length old → Torn at n old new
    → take k new ≡ take k old
torn-front k at n old new le there torn =
    sym (take-take k (min at (length old)) new (omega arith)) ∙ ap (take k) torn.before ∙ take-take k at old le

-- a front of so many bytes is in a file of so many
pub as-long : (k : ℕ) (file c : List ℕ) → k ≤ length file → take k c ≡ take k file → k ≤ length c
as-long k file c le same = omega (arith, length-take k c, length-take k file, ap length same)

-- what holds of each outcome holds of each after a step that changes nothing
pub after-same : (P outcomes : List ℕ → Type 0) → ((c : List ℕ) → outcomes c → P c) → (c : List ℕ)
    → After IsSame outcomes c → P c
after-same P outcomes here c after = subst P (sym after.2) (here after.0 after.1)

-- a step that keeps the front of a file, as far as it was there
pub same-to : (k n : ℕ) (old new : List ℕ) → k ≤ n → k ≤ length old → IsSameTo n old new → take k new ≡ take k old
same-to k n old new le there same =
    sym (take-take k (min n (length old)) new (omega arith)) ∙ ap (take k) same ∙ take-take k n old le

-- something is written from an offset on, or a front or any bytes of it
pub written-same : (how : Crash) (at : ℕ) (bytes old new : List ℕ) → IsWritten how at bytes old new → IsSameTo at old new
written-same Killed at bytes old new written =
    let front : List ℕ = take written.0 bytes in
    let rest : List ℕ = drop (at + length front) old in
    ap (take (min at (length old))) (written.1 ∙ append_assoc (take at old) front rest)
    ∙ take_at (take at old) (front ++ rest) (min at (length old)) (length-take at old)
written-same Stopped at bytes old new torn = torn.before

-- what is in front of a write
pub holds-front : (old bytes new : List ℕ) (at : ℕ) → at ≤ length old → Holds old at bytes new → take at new ≡ take at old
holds-front old bytes new at le holds =
    let rest : List ℕ = drop (at + length bytes) old in
    ap (take at) (holds ∙ append_assoc (take at old) bytes rest)
    ∙ take_at (take at old) (bytes ++ rest) at (length-take-le at old le)

-- how long a file is after a write
pub length-holds : (old bytes new : List ℕ) (at : ℕ) → at ≤ length old → Holds old at bytes new
    → length new ≡ max (length old) (at + length bytes)
length-holds old bytes new at le holds =
    omega (
      arith,
      ap length holds,
      length-append (take at old ++ bytes) (drop (at + length bytes) old),
      length-append (take at old) bytes,
      length-take-le at old le,
      length-drop (at + length bytes) old,
    )
