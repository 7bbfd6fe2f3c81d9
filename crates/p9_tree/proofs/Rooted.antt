-- A new server, of a root alone, is well-formed.
use Rattle.std.proofs.Common.{◌≡◌, ℕ, [], ◌∷◌, Some, refl, subst, arith}
use Rattle.std.proofs.lemmas.Bool.Decides.{nat_tests}
use Rattle.p9_tree.specs.Node.{Node}
use Rattle.p9_tree.specs.Server.{IsSound, WellFormed, node_at, root_node, rooted}
use Rattle.p9_tree.proofs.TextLemmas.{is_user-sys}

sound-root : IsSound root_node
sound-root = record {
  small = omega arith;
  empty_dir = λ d. refl;
  valid_name = λ p e. absurd (cc);
  root_name = λ e. refl;
  tellable = ((is_user-sys, is_user-sys, is_user-sys), (omega arith, omega arith, omega arith));
}

only : (k : ℕ) (n : Node) → node_at k (root_node ∷ []) ≡ Some n → root_node ≡ n
only k n e = grind (arith, nat_tests)

zero_only : (k : ℕ) (n : Node) → node_at k (root_node ∷ []) ≡ Some n → k ≡ 0
zero_only k n e = grind (arith, nat_tests)

pub WellFormed-rooted : WellFormed rooted
WellFormed-rooted = record {
  few = omega arith;
  rising = λ i j d lt in_range. omega arith;
  below = λ i d in_range. grind arith;
  sound = λ k n e. subst IsSound (only k n e) sound-root;
  root = refl;
  only_root = λ k n e none. zero_only k n e;
  parent_below = λ k p n e in_p. let same : root_node ≡ n = only k n e in absurd (cc);
  parent_dir = λ k p n e in_p. let same : root_node ≡ n = only k n e in absurd (cc);
  siblings =
      λ j k p m n e1 e2 in_m in_n names. let same : root_node ≡ m = only j m e1 in absurd (cc);
}
