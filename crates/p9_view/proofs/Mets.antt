-- What was met, when nodes more are.
use Rattle.std.proofs.Common.{◌≡◌, ◌≢◌, Bool, true, false, List, [], ◌∷◌}
use Rattle.std.proofs.Common.{◌⊎◌, inl, inr, refl, sym, ap, ◌∙◌, arith}
use Rattle.std.specs.BTreeMap.{is_at}
use Rattle.std.specs.Ordering.{eq_by_cmp, ordering_then}
use Rattle.std.specs.Cmp.Lexicographic.{slice_cmp}
use Rattle.std.specs.FinMap.{IsAntisymmetric, slice_cmp-IsAntisymmetric}
use Rattle.std.specs.Map.{AreApart, IsKeyTest, KeepsOthers, lookup}
use Rattle.std.specs.declared.cmp.Ordering.{Ordering}
use Rattle.std.specs.declared.cmp.Ordering.TheVariants.{Equal, Greater, Less}
use Rattle.std.proofs.lemmas.Bool.Decides.{nat_tests}
use Rattle.p9_base.specs.declared.node_ref.NodeRef.{NodeRef}
use Rattle.p9_base.specs.NodeRef.{same_node}
use Rattle.p9_policy.proofs.Basics.{clash, same_ref, same_self}
use Rattle.p9_view.specs.Met.{node_cmp}

-- an ordering is that of equals
is_same : Ordering → Bool
is_same o = is_at (λ (x : Ordering). x) o

at-equal : (o : Ordering) → is_at (λ (x : Ordering). x) o ≡ true → o ≡ Equal
at-equal Less e = let no : false ≡ true = e in absurd (cc)
at-equal Equal e = refl
at-equal Greater e = let no : false ≡ true = e in absurd (cc)

node-at : (a b : NodeRef) → is_at (node_cmp a) b ≡ same_node a b
node-at a b = grind (arith, nat_tests)

node-IsAntisymmetric : IsAntisymmetric node_cmp
node-IsAntisymmetric a b e =
    same_ref a b (sym (node-at a b) ∙ ap (λ o. is_at (λ (x : Ordering). x) o) e)

-- lists of nodes tie where they are the same
pub nodes-same : (xs ys : List NodeRef) → is_at (slice_cmp node_cmp xs) ys ≡ true → xs ≡ ys
nodes-same xs ys e =
    slice_cmp-IsAntisymmetric node-IsAntisymmetric xs ys
    (at-equal (slice_cmp node_cmp xs ys) e)

node-self : (a : NodeRef) → node_cmp a a ≡ Equal
node-self a = at-equal (node_cmp a a) (node-at a a ∙ same_self a)

nodes-self : (xs : List NodeRef) → slice_cmp node_cmp xs xs ≡ Equal
nodes-self [] = refl
nodes-self (x ∷ xs) =
    ap (λ o. ordering_then o (slice_cmp node_cmp xs xs)) (node-self x) ∙ nodes-self xs

pub nodes-cases : (xs ys : List NodeRef) → (xs ≡ ys) ⊎ (xs ≢ ys)
nodes-cases xs ys = go (is_at (slice_cmp node_cmp xs) ys) refl
  where
    go : (b : Bool) → is_at (slice_cmp node_cmp xs) ys ≡ b → (xs ≡ ys) ⊎ (xs ≢ ys)
    go true e = inl (nodes-same xs ys e)
    go false e =
        inr (λ same. clash (is_at (slice_cmp node_cmp xs) ys)
        (ap (λ zs. is_at (slice_cmp node_cmp xs) zs) (sym same)
        ∙ ap (λ o. is_at (λ (x : Ordering). x) o) (nodes-self xs)) e)

module _ {K : Type 0} (items : K → List NodeRef) where
  -- other nodes are found as before
  pub others-kept : {X : Type 0} (nodes others : List NodeRef) (old new : List (K × X))
      → KeepsOthers (eq_by_cmp (λ x y. slice_cmp node_cmp (items x) (items y)))
      (is_at (λ k. slice_cmp node_cmp nodes (items k))) old new
      → others ≢ nodes
      → lookup (is_at (λ k. slice_cmp node_cmp others (items k))) new
      ≡ lookup (is_at (λ k. slice_cmp node_cmp others (items k))) old
  unfolding KeepsOthers
  others-kept nodes others old new kept apart =
      kept (is_at (λ k. slice_cmp node_cmp others (items k))) tests separate
    where
      tests : IsKeyTest (eq_by_cmp (λ x y. slice_cmp node_cmp (items x) (items y)))
          (is_at (λ k. slice_cmp node_cmp others (items k)))
      tests x y e =
          ap (λ ns. is_at (slice_cmp node_cmp ns) (items y)) (nodes-same others (items x) e)

      separate : AreApart (is_at (λ k. slice_cmp node_cmp nodes (items k)))
          (is_at (λ k. slice_cmp node_cmp others (items k)))
      separate k e = go (is_at (slice_cmp node_cmp others) (items k)) refl
        where
          go : (b : Bool) → is_at (slice_cmp node_cmp others) (items k) ≡ b → b ≡ false
          go false f = refl
          go true f =
              absurd (apart (nodes-same others (items k) f ∙ sym (nodes-same nodes (items k) e)))
