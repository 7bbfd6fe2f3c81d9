-- What a test finds among nodes by rising number.
use Rattle.std.proofs.Common.{◌≡◌, ℕ, ◌<◌, ◌≤◌, Bool, true, false, cond, List, [], ◌∷◌}
use Rattle.std.proofs.Common.{Some, None, refl, subst, arith, AllPairs}
use Rattle.std.specs.List.{find}
use Rattle.std.specs.Option.{option_map}
use Rattle.std.proofs.lemmas.Bool.Decides.{nat_tests}
use Rattle.p9_tree.specs.Node.{Node}
use Rattle.p9_tree.specs.Server.{node_at}
use Rattle.p9_tree.proofs.Lookups.{All-node_at, number-node_at, node_at-found}
use Rattle.p9_tree.proofs.Lookups.{rising_head, rising_tail}

-- where a node passes the test, the one that is found has no greater number
pub found_upto : (p : Node → Bool) (k : ℕ) (xs : List Node) (n : Node)
    → AllPairs (λ m n. m.number < n.number) xs → node_at k xs ≡ Some n → p n ≡ true
    → (m : Node) × (find p xs ≡ Some m) × (m.number ≤ k)
found_upto p k [] n rising at passes = absurd (cc)
found_upto p k (x ∷ xs) n rising at passes =
    let later : node_at k xs ≡ Some n → x.number < k = λ e.
    omega (
      arith,
      All-node_at (λ m. x.number < m.number) k xs n (rising_head x xs rising) e,
      number-node_at k xs n e,
    ) in
    let near : x.number ≤ k = grind (arith, nat_tests, later) in
    elim (p x) as (λ b. p x ≡ b → (m : Node) × (cond b (Some x) (find p xs) ≡ Some m) × (m.number ≤ k)) [
      | true ↦ λ here. (x, refl, near)
      | false ↦ λ other.
          let behind : node_at k xs ≡ Some n = grind (arith, nat_tests) in
          found_upto p k xs n (rising_tail x xs rising) behind passes
    ] refl

-- a node that is found by any test is found by its number
pub number-found : (p : Node → Bool) (xs : List Node) (k : ℕ)
    → AllPairs (λ m n. m.number < n.number) xs → option_map (λ n. n.number) (find p xs) ≡ Some k
    → node_at k xs ≡ find p xs
number-found p xs k rising e =
    elim (find p xs) as (λ o. find p xs ≡ o → option_map (λ n. n.number) o ≡ Some k → node_at k xs ≡ o) [
      | None ↦ λ at none. absurd (cc)
      | Some n ↦ λ at some.
          let same : n.number ≡ k = cc in
          subst (λ j. node_at j xs ≡ Some n) same (node_at-found p xs n rising at)
    ] refl e
