-- Bytes put behind others.
use Rattle.std.proofs.Common.{◌≡◌, ℕ, ◌+◌, ◌-◌, ◌≤◌, List, ◌++◌, length, take, drop, refl, sym}
use Rattle.std.proofs.Common.{ap, subst, ◌∙◌, append_assoc, arith}
use Rattle.std.proofs.lemmas.List.{length-append, drop-drop, drop-take, take-take}
use Rattle.std.proofs.lemmas.List.{length-drop, length-take-le}
use Rattle.std.proofs.lemmas.Slice.{take-put_mid, drop-put_mid}
use borrow.Rule.Slice.PartMut.{put_mid}
use Rattle.std.proofs.lemmas.List.{take-append-drop, drop_at}
use Rattle.p9_wire.specs.Fields.{number, counted}
use Rattle.p9_wire.specs.Reply.{frame}
use Rattle.p9_wire.specs.Writing.{Puts, Writes}
use Rattle.p9_wire.proofs.Bytes.{length-number}

-- bytes copied to their place
pub puts_here : (bytes now old : List ℕ) (at len : ℕ) → now ≡ bytes → len ≡ length bytes
    → at + length bytes ≤ length old
    → Puts bytes at (at + length bytes) old (put_mid at len old now)
puts_here bytes now old at len same size room =
    let now_len : length now ≡ length bytes = ap length same in
    record {
      ends = refl;
      front =
          take-put_mid at len old now (at + length bytes) (omega arith) (omega arith)
          ∙ ap (λ (s : List ℕ). take at old ++ s) same;
      back =
          drop-put_mid at len old now (at + length bytes) (omega arith) (omega arith)
          (omega arith);
    }

-- what is put behind another is there as one
pub puts_then : {x y : List ℕ} {a n m : ℕ} {old mid new : List ℕ} → Puts x a n old mid
    → Puts y n m mid new → Puts (x ++ y) a m old new
puts_then {x} {y} {a} {n} {m} {old} {mid} {new} p q =
    let on : n + (m - n) ≡ m = let e = q.ends in omega arith in
    let behind : drop m mid ≡ drop m old =
    ap (λ (k : ℕ). drop k mid) (sym on) ∙ sym (drop-drop (m - n) n mid) ∙ ap (drop (m - n)) p.back
    ∙ drop-drop (m - n) n old ∙ ap (λ (k : ℕ). drop k old) on in
    record {
      ends = omega (arith, p.ends, q.ends, length-append x y);
      front = q.front ∙ ap (λ (s : List ℕ). s ++ y) p.front ∙ append_assoc (take a old) x y;
      back = q.back ∙ behind;
    }

-- the header put before a body
pub framed : (body : List ℕ) (end kind tag : ℕ) (old mid new : List ℕ) → 7 ≤ length old
    → Puts body 7 end old mid → Puts (number 4 end ++ number 1 kind ++ number 2 tag) 0 7 mid new
    → Writes (frame kind tag body) end old new
framed body end kind tag old mid new room p q =
    let front_len : length (take 7 old) ≡ 7 = length-take-le 7 old (omega arith) in
    let mid-is : mid ≡ take 7 old ++ (body ++ drop end old) =
    sym (take-append-drop end mid) ∙ ap (λ (s : List ℕ). s ++ drop end mid) p.front
    ∙ ap (λ (s : List ℕ). (take 7 old ++ body) ++ s) p.back
    ∙ append_assoc (take 7 old) body (drop end old) in
    let back-is : drop 7 new ≡ body ++ drop end old =
    q.back ∙ ap (drop 7) mid-is ∙ drop_at (take 7 old) (body ++ drop end old) 7 front_len in
    let head : List ℕ = number 4 end ++ number 1 kind ++ number 2 tag in
    let new-is : new ≡ head ++ (body ++ drop end old) =
    sym (take-append-drop 7 new) ∙ ap (λ (s : List ℕ). s ++ drop 7 new) q.front
    ∙ ap (λ (s : List ℕ). head ++ s) back-is in
    let grouped : head ++ (body ++ drop end old)
    ≡ (number 4 end ++ (number 1 kind ++ number 2 tag ++ body))
    ++ drop end old = simp append_assoc in
    record {
      ends = simp (length-append, length-number) (omega (arith, p.ends));
      bytes =
          new-is ∙ grouped
          ∙ ap (λ (n : ℕ). (number 4 n ++ (number 1 kind ++ number 2 tag ++ body)) ++ drop end old)
          p.ends;
    }

-- a value behind its length
pub puts_sized : {A : Type 0} (f : A → List ℕ) (x : A) (size : ℕ) {a b c : ℕ} {old mid new : List ℕ}
    → size ≡ length (f x)
    → Puts (number 2 size) a b old mid → Puts (f x) b c mid new
    → Puts (number 2 (length (f x)) ++ f x) a c old new
puts_sized f x size {a} {b} {c} {old} {mid} {new} e p q =
    puts_then (subst (λ (n : ℕ). Puts (number 2 n) a b old mid) e p) q

-- what follows bytes may be counted to them
pub puts_kept : (x : List ℕ) (a n k : ℕ) (old new : List ℕ) → n + k ≤ length old
    → length new ≡ length old → Puts x a n old new
    → Puts (x ++ take k (drop n old)) a (n + k) old new
puts_kept x a n k old new room size p =
    let kept : drop n (take (n + k) new) ≡ take k (drop n old) =
    drop-take n k new ∙ ap (take k) p.back in
    let front_is : take n (take (n + k) new) ≡ take n new = take-take n (n + k) new (omega arith) in
    let behind : drop (n + k) new ≡ drop (n + k) old =
    sym (drop-drop k n new) ∙ ap (drop k) p.back ∙ drop-drop k n old in
    let len : length (take k (drop n old)) ≡ k =
    length-take-le k (drop n old) (omega (arith, length-drop n old)) in
    record {
      ends = omega (arith, p.ends, len, length-append x (take k (drop n old)));
      front =
          sym (take-append-drop n (take (n + k) new))
          ∙ ap (λ (s : List ℕ). s ++ drop n (take (n + k) new)) (front_is ∙ p.front)
          ∙ ap (λ (s : List ℕ). (take a old ++ x) ++ s) kept
          ∙ append_assoc (take a old) x (take k (drop n old));
      back = behind;
    }

-- so may data behind its count
pub puts_counted : (a k : ℕ) (old new : List ℕ) → a + 4 + k ≤ length old → length new ≡ length old
    → Puts (number 4 k) a (a + 4) old new
    → Puts (counted (take k (drop (a + 4) old))) a (a + 4 + k) old new
puts_counted a k old new room size p =
    let len : length (take k (drop (a + 4) old)) ≡ k =
    length-take-le k (drop (a + 4) old) (omega (arith, length-drop (a + 4) old)) in
    subst (λ (n : ℕ). Puts (number 4 n ++ take k (drop (a + 4) old)) a (a + 4 + k) old new)
    (sym len) (puts_kept (number 4 k) a (a + 4) k old new room size p)
