-- Records in a buffer.
use Rattle.std.proofs.Common.{◌≡◌, ℕ, ◌+◌, ◌-◌, ◌≤◌, List, ◌++◌, length, take, drop, sym, ap, ◌∙◌, arith}
use Rattle.std.proofs.lemmas.List.{drop-append-le, drop-take, length-take-le, take-take, take_at}
use Rattle.p9_log.specs.Rest.{held}
use Rattle.p9_wire.specs.Writing.{Puts}

held-is : (buffer : List ℕ) (end : ℕ) → 10 ≤ end → held buffer end ≡ drop 10 (take end buffer)
held-is buffer end from =
    let on : 10 + (end - 10) ≡ end = omega arith in
    sym (drop-take 10 (end - 10) buffer) ∙ ap (λ n. drop 10 (take n buffer)) on

-- what is written over all of a buffer is all of it
pub filled : (n : ℕ) (new old : List ℕ) → length new ≡ n → take n (new ++ drop (length new) old) ≡ new
filled n new old long = take_at new (drop (length new) old) n long

-- a buffer that is made longer has the same records
pub held-longer : (old new : List ℕ) (end : ℕ) → 10 ≤ end → end ≤ length old
    → take (length old) new ≡ old → held new end ≡ held old end
held-longer old new end from within front =
    held-is new end from
    ∙ ap (drop 10) (sym (take-take end (length old) new within) ∙ ap (take end) front)
    ∙ sym (held-is old end from)

-- a record that is put behind others
pub held-more : (record_bytes old new : List ℕ) (at next : ℕ) → 10 ≤ at → at ≤ length old
    → Puts record_bytes at next old new → held new next ≡ held old at ++ record_bytes
held-more record_bytes old new at next from within p =
    let past : 10 ≤ next = omega (arith, p.ends) in
    let long : 10 ≤ length (take at old) = omega (arith, length-take-le at old within) in
    held-is new next past ∙ ap (drop 10) p.front ∙ drop-append-le 10 (take at old) record_bytes long
    ∙ ap (λ (b : List ℕ). b ++ record_bytes) (sym (held-is old at from))
