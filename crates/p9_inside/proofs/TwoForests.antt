-- Two forests that are the same without what is inside.
use Rattle.std.proofs.Common.{◌≡◌, ℕ, Bool, true, false, List, Option, Some, None, refl, sym, ap}
use Rattle.std.proofs.Common.{◌∙◌, is_some}
use Rattle.std.specs.Prelude.{if◌then◌else◌}
use Rattle.p9_base.specs.declared.node_ref.NodeRef.{NodeRef}
use Rattle.p9_tree.specs.Node.{Node}
use Rattle.p9_tree.specs.Server.{Server}
use Rattle.p9_tree.specs.Forest.{next_of, node_of, server_at}
use Rattle.p9_tree.specs.Inside.{hidden_on, is_inside, outer}
use Rattle.p9_inside.specs.TwoForests.{InsideInBoth, IsInBoth, NextInBoth, SeenInBoth}
use Rattle.p9_inside.proofs.Facts.{clash, not_some}
use Rattle.p9_inside.proofs.Forests.{keeps_next, keeps_node, server_at-outer}
use Rattle.p9_inside.proofs.Looks.{Ordered, inside_none, ordered_forest}
use Rattle.p9_inside.proofs.Outer.{split_ordered}

-- the node of a number without what is inside
outer_split : (h : List NodeRef) (g : List Server) → Ordered g → (r : NodeRef)
    → node_of r (outer h g) ≡ (if is_inside r h g then None else node_of r g)
unfolding is_inside
outer_split h g o r =
    rw server_at-outer
    (split_ordered (hidden_on r.server h) (server_at r.server g).nodes r.number
    (o.nodes r.server)).others

-- a node that is seen in one is seen in the other
pub seen : (h : List NodeRef) (f g : List Server) → Ordered g → outer h g ≡ outer h f
    → (r : NodeRef)
    (x : Node) → node_of r f ≡ Some x → is_inside r h f ≡ false
    → (node_of r g ≡ Some x) × (is_inside r h g ≡ false)
seen h f g o same r x e out = go (is_inside r h g) refl
  where
    there : node_of r (outer h g) ≡ Some x
    there = ap (node_of r) same ∙ keeps_node h f r out ∙ e

    is : (if is_inside r h g then None else node_of r g) ≡ Some x
    is = sym (outer_split h g o r) ∙ there

    go : (b : Bool) → is_inside r h g ≡ b → (node_of r g ≡ Some x) × (is_inside r h g ≡ false)
    go true t = let b : None ≡ Some x = rw t at is in not_some x b
    go false t = (rw t at is, t)

-- a number that has a node in both or in neither is inside in both or in neither, and the other way
-- round
module _ (h : List NodeRef) (f g : List Server) (of : Ordered f) (og : Ordered g)
    (same : outer h g ≡ outer h f) (r : NodeRef) where
  pub node_same : is_inside r h g ≡ false → is_inside r h f ≡ false → node_of r g ≡ node_of r f
  node_same a b = sym (keeps_node h g r a) ∙ ap (node_of r) same ∙ keeps_node h f r b

  there : (k : List Server) → is_inside r h k ≡ true → (x : Node) × (node_of r k ≡ Some x)
  there k i = go (node_of r k) refl
    where
      go : (o : Option Node) → node_of r k ≡ o → (x : Node) × (node_of r k ≡ Some x)
      go None e = clash (is_inside r h k) i (inside_none h k r e)
      go (Some x) e = (x, e)

  exists : (k : List Server) → is_some (node_of r k) ≡ true → (x : Node) × (node_of r k ≡ Some x)
  exists k s = go (node_of r k) refl s
    where
      go : (o : Option Node) → node_of r k ≡ o → is_some o ≡ true → (x : Node)
          × (node_of r k ≡ Some x)
      go None e t = let b : false ≡ true = t in cc
      go (Some x) e t = (x, e)

  pub inside_alike : IsInBoth f g r → is_inside r h g ≡ is_inside r h f
  inside_alike both = go (is_inside r h f) (is_inside r h g) refl refl
    where
      go : (a b : Bool) → is_inside r h f ≡ a → is_inside r h g ≡ b → is_inside r h g
          ≡ is_inside r h f
      go true true p q = q ∙ sym p
      go false false p q = q ∙ sym p
      go true false p q =
          let x = there f p in
          let y = exists g (both ∙ ap is_some x.1) in
          clash (is_inside r h f) p (seen h g f of (sym same) r y.0 y.1 q).1
      go false true p q =
          let y = there g q in
          let x = exists f (sym both ∙ ap is_some y.1) in
          clash (is_inside r h g) q (seen h f g og same r x.0 x.1 p).1

  pub in_both : is_inside r h g ≡ is_inside r h f → IsInBoth f g r
  in_both i = go (is_inside r h f) refl
    where
      go : (a : Bool) → is_inside r h f ≡ a → IsInBoth f g r
      go false p = ap is_some (node_same (i ∙ p) p)
      go true p =
          let x = there f p in
          let y = there g (i ∙ p) in ap is_some y.1 ∙ sym (ap is_some x.1)

-- the next numbers are the same
pub next_same : (h : List NodeRef) (f g : List Server) → outer h g ≡ outer h f → (s : ℕ)
    → next_of s g ≡ next_of s f
next_same h f g same s = sym (keeps_next h g s) ∙ ap (λ z. next_of s z) same ∙ keeps_next h f s

pub seen_in_both : SeenInBoth
seen_in_both hidden f g sound same r n there outside =
    seen hidden f g (ordered_forest g sound) same r n there outside

pub inside_in_both : InsideInBoth
inside_in_both hidden f g sound_f sound_g same r = (
  inside_alike hidden f g (ordered_forest f sound_f) (ordered_forest g sound_g) same r,
  in_both hidden f g (ordered_forest f sound_f) (ordered_forest g sound_g) same r,
)

pub next_in_both : NextInBoth
next_in_both hidden f g same server = next_same hidden f g same server
