-- What look-ups find, and what is barred, in forests whose nodes are ordered.
use Rattle.std.proofs.Common.{◌≡◌, ℕ, ◌<◌, Bool, true, false, eqb, ◌||◌, List, Option, Some}
use Rattle.std.proofs.Common.{None, refl, sym, ap, ◌∙◌, arith, All}
use Rattle.std.specs.Prelude.{find, option_and_then}
use Rattle.std.specs.Option.{option_map_or}
use Rattle.p9_base.specs.declared.node_ref.NodeRef.{NodeRef}
use Rattle.p9_base.specs.NodeRef.{beside}
use Rattle.p9_tree.specs.Node.{Node, is_in}
use Rattle.p9_tree.specs.Server.{Server}
use Rattle.p9_tree.specs.Forest.{IsForest, next_of, node_of, server_at}
use Rattle.p9_tree.specs.Inside.{is_barred, is_hidden, is_inside, hidden_on}
use Rattle.p9_tree.proofs.Lookups.{All-node_at, node_at-found, number-node_at}
use Rattle.p9_inside.proofs.Pass.{IsOrdered, barred-is_among}
use Rattle.p9_inside.proofs.Forests.{inside_by_barred_parent, server_below, server_ordered}
use Rattle.p9_inside.proofs.Facts.{clash, eq_of, not_true}

-- numbers rise, parents come before their children, and all lie below the next number
pub record Ordered (f : List Server) : Type 0 where
  pub nodes : (s : ℕ) → IsOrdered (server_at s f).nodes
  pub below : (s : ℕ) → All (λ n. n.number < (server_at s f).next) (server_at s f).nodes

pub ordered_forest : (f : List Server) → IsForest f → Ordered f
ordered_forest f sound = record { nodes = server_ordered f sound; below = server_below f sound }

pub node_number : (f : List Server) (r : NodeRef) (x : Node) → node_of r f ≡ Some x
    → x.number ≡ r.number
node_number f r x e = number-node_at r.number (server_at r.server f).nodes x e

pub node_below : (f : List Server) → Ordered f → (r : NodeRef) (x : Node) → node_of r f ≡ Some x
    → r.number < next_of r.server f
node_below f o r x e =
    let low : x.number < next_of r.server f =
    All-node_at (λ n. n.number < next_of r.server f) r.number (server_at r.server f).nodes x
    (o.below r.server) e in
    let same : x.number ≡ r.number = node_number f r x e in omega arith

pub parent_below : (f : List Server) → Ordered f → (r : NodeRef) (x : Node) (p : ℕ)
    → node_of r f ≡ Some x → x.parent ≡ Some p → p < r.number
parent_below f o r x p e q = (o.nodes r.server).parents r.number p x e q

-- a node that any look-up finds is the node of its number
pub found_node : (f : List Server) → Ordered f → (s : ℕ) (test : Node → Bool) (x : Node)
    → find test (server_at s f).nodes ≡ Some x
    → node_of (record { server = s; number = x.number }) f ≡ Some x
found_node f o s test x e = node_at-found test (server_at s f).nodes x (o.nodes s).rising e

-- a node is in the directory that is its parent
pub in-parent : (k : ℕ) (m : Node) → is_in k m ≡ true → m.parent ≡ Some k
in-parent k m e = go m.parent refl e
  where
    go : (o : Option ℕ) → m.parent ≡ o → option_map_or (λ parent. eqb parent k) o false ≡ true
        → m.parent ≡ Some k
    go None is t = let no : false ≡ true = t in absurd (cc)
    go (Some p) is t = is ∙ ap Some (eq_of p k t)

-- Inside.

pub inside_at : (h : List NodeRef) (f : List Server) (r : NodeRef) (x : Node) (p : ℕ)
    → node_of r f ≡ Some x → x.parent ≡ Some p → is_inside r h f ≡ is_barred (beside r p) h f
inside_at h f r x p e q =
    inside_by_barred_parent h f r
    ∙ ap (λ o. option_map_or (λ parent. is_barred (beside r parent) h f) o false)
    (ap (option_and_then (λ n. n.parent)) e ∙ q)

pub inside_none : (h : List NodeRef) (f : List Server) (r : NodeRef) → node_of r f ≡ None
    → is_inside r h f ≡ false
inside_none h f r e =
    inside_by_barred_parent h f r
    ∙ ap (λ o. option_map_or (λ parent. is_barred (beside r parent) h f)
    (option_and_then (λ n. n.parent) o) false) e

pub inside_root : (h : List NodeRef) (f : List Server) (r : NodeRef) (x : Node)
    → node_of r f ≡ Some x → x.parent ≡ None → is_inside r h f ≡ false
inside_root h f r x e q =
    inside_by_barred_parent h f r
    ∙ ap (λ o. option_map_or (λ parent. is_barred (beside r parent) h f) o false)
    (ap (option_and_then (λ n. n.parent)) e ∙ q)

-- the root place is not inside
pub root_outside : (h : List NodeRef) (f : List Server) → Ordered f
    → is_inside (record { server = 0; number = 0 }) h f ≡ false
root_outside h f o = go (node_of root f) refl
  where
    root : NodeRef
    root = record { server = 0; number = 0 }

    up : (x : Node) → node_of root f ≡ Some x → (p : Option ℕ) → x.parent ≡ p
        → is_inside root h f ≡ false
    up x e None q = inside_root h f root x e q
    up x e (Some p) q =
        absurd (let l : p < 0 = (o.nodes 0).parents 0 p x e q in omega arith)

    go : (n : Option Node) → node_of root f ≡ n → is_inside root h f ≡ false
    go None e = inside_none h f root e
    go (Some x) e = up x e x.parent refl

pub barred_is : (h : List NodeRef) (f : List Server) → Ordered f → (r : NodeRef)
    → is_barred r h f ≡ (is_hidden r h || is_inside r h f)
unfolding is_barred is_hidden is_inside
barred_is h f o r =
    barred-is_among (hidden_on r.server h) (server_at r.server f).nodes r.number (o.nodes r.server)

module _ (h : List NodeRef) (f : List Server) (o : Ordered f) (r : NodeRef) where
  pub not_barred : is_hidden r h ≡ false → is_inside r h f ≡ false → is_barred r h f ≡ false
  not_barred a b = barred_is h f o r ∙ rw (a, b) refl

  pub not_hidden : is_barred r h f ≡ false → is_hidden r h ≡ false
  not_hidden b =
      not_true (is_hidden r h) (λ t. clash (is_barred r h f) (barred_is h f o r ∙ rw t refl) b)

  pub not_inside : is_barred r h f ≡ false → is_inside r h f ≡ false
  not_inside b =
      not_true (is_inside r h f)
      (λ t.
      clash (is_barred r h f)
      (barred_is h f o r
      ∙ (let s : (is_hidden r h || is_inside r h f) ≡ true =
      rw t (right (is_hidden r h)) in s)) b)
    where
      right : (a : Bool) → (a || true) ≡ true
      right true = refl
      right false = refl

pub parent_not_barred : (h : List NodeRef) (f : List Server) (r : NodeRef) (x : Node) (p : ℕ)
    → node_of r f ≡ Some x → x.parent ≡ Some p → is_inside r h f ≡ false
    → is_barred (beside r p) h f ≡ false
parent_not_barred h f r x p e q out = sym (inside_at h f r x p e q) ∙ out
