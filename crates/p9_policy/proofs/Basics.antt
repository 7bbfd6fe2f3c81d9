-- Small facts.
use Rattle.std.proofs.Common.{◌≡◌, ℕ, Bool, true, false, List, [], ◌∷◌}
use Rattle.std.proofs.Common.{Some, None, sym, ◌∙◌, arith}
use Rattle.std.specs.Prelude.{◌==◌}
use Rattle.std.specs.List.{AllByRecursion}
use Rattle.std.proofs.lemmas.Bool.{and_parts}
use Rattle.std.proofs.lemmas.Bool.Decides.{nat_tests}
use Rattle.p9_base.specs.declared.node_ref.NodeRef.{NodeRef}
use Rattle.p9_base.specs.NodeRef.{same_node}

-- a test does not both pass and fail
pub clash : {X : Type 0} (b : Bool) → b ≡ true → b ≡ false → X
clash b t f = let no : true ≡ false = sym t ∙ f in absurd (cc)

pub some_same : {X : Type 0} (x y : X) → Some x ≡ Some y → x ≡ y
some_same x y e = cc

pub not_some : {X Y : Type 0} (x : X) → None ≡ Some x → Y
not_some x e = absurd (cc)

pub eq_of : (a b : ℕ) → (a == b) ≡ true → a ≡ b
eq_of a b e = grind (arith, nat_tests)

-- nodes that pass the test are one
pub same_ref : (a b : NodeRef) → same_node a b ≡ true → a ≡ b
same_ref a b e =
    let parts = and_parts (a.server == b.server) (a.number == b.number) e in
    let s : a.server ≡ b.server = eq_of a.server b.server parts.0 in
    let n : a.number ≡ b.number = eq_of a.number b.number parts.1 in
    λ i. record { server = s i; number = n i }

pub same_self : (r : NodeRef) → same_node r r ≡ true
same_self r = grind (arith, nat_tests)

pub each_weaker : {X : Type 0} (P Q : X → Type 0) → ((x : X) → P x → Q x) → (xs : List X)
    → AllByRecursion P xs → AllByRecursion Q xs
each_weaker P Q h [] all = tt
each_weaker P Q h (x ∷ xs) all = (h x all.0, each_weaker P Q h xs all.1)
