-- Reading one after the other, as a loop does.
use Rattle.std.proofs.Common.{◌≡◌, ℕ, suc, ◌-◌, ◌+◌, ◌≤◌, ◌<◌, List, [], ◌∷◌, ◌++◌, Option, Some}
use Rattle.std.proofs.Common.{None, refl, sym, ap, ◌∙◌, append_assoc, arith}
use Rattle.std.proofs.lemmas.List.{append-nil}
use Rattle.p9_fields.specs.FieldReading.{◌and_then◌, Reader, times}

module _ {A : Type 0} (r : Reader A) where
  -- what was read before, and what is still read
  abbrev pub with_front : List A → Option (List A × List ℕ) → Option (List A × List ℕ)
  with_front front read = read and_then λ x. Some (front ++ x.0, x.1)

  -- one more in front
  regroup : (front : List A) (n : A) (read : Option (List A × List ℕ))
      → with_front front (read and_then λ x. Some (n ∷ x.0, x.1))
      ≡ with_front (front ++ n ∷ []) read
  regroup front n (Some x) = ap (λ (ns : List A). Some (ns, x.1)) (simp append_assoc)
  regroup front n None = refl

  -- where one more is read, what is still read is one fewer
  pub goes_on : (front : List A) (count i : ℕ) (bytes : List ℕ) (x : A) (after : List ℕ)
      (total : Option (List A × List ℕ)) → i < count → r bytes ≡ Some (x, after)
      → with_front front (times r (count - i) bytes) ≡ total
      → with_front (front ++ x ∷ []) (times r (count - (i + 1)) after) ≡ total
  unfolding times
  goes_on front count i bytes x after total lt h so_far =
      let k : count - i ≡ suc (count - (i + 1)) = omega arith in
      let one : with_front front (times r (count - i) bytes)
      ≡ with_front (front ++ x ∷ []) (times r (count - (i + 1)) after) = rw (k, h)
      (regroup front x (times r (count - (i + 1)) after)) in
      sym one ∙ so_far

  -- where one is not read, all are not
  pub ends : (front : List A) (count i : ℕ) (bytes : List ℕ) (total : Option (List A × List ℕ))
      → i < count → r bytes ≡ None
      → with_front front (times r (count - i) bytes) ≡ total → total ≡ None
  unfolding times
  ends front count i bytes total lt h so_far =
      let k : count - i ≡ suc (count - (i + 1)) = omega arith in
      let one : with_front front (times r (count - i) bytes) ≡ None = rw (k, h) refl in
      sym so_far ∙ one

  -- at the end all are read
  pub is_done : (front : List A) (count i : ℕ) (bytes : List ℕ) (total : Option (List A × List ℕ))
      → count ≤ i → with_front front (times r (count - i) bytes) ≡ total
      → total ≡ Some (front, bytes)
  unfolding times
  is_done front count i bytes total le so_far =
      let k : count - i ≡ 0 = omega arith in
      let one : with_front front (times r (count - i) bytes) ≡ Some (front, bytes) =
      rw k (ap (λ (ns : List A). Some (ns, bytes)) (append-nil front)) in
      sym so_far ∙ one
