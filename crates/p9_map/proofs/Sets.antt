-- Sets of nodes that are made one after another.
use Rattle.std.proofs.Common.{◌≡◌, ℕ, ◌+◌, ◌<◌, ◌≤◌, ◌||◌, Bool, true, false, cond, List, length, take, get_or}
use Rattle.std.proofs.Common.{refl, sym, ap, ◌∙◌}
use Rattle.std.specs.BTreeMap.{is_at}
use Rattle.std.specs.List.{list_any}
use Rattle.std.proofs.lemmas.List.{take_all}
use Rattle.std.proofs.lemmas.List.Folds.{list_any_more}
use Rattle.p9_base.specs.declared.node_ref.NodeRef.{NodeRef}
use Rattle.p9_base.specs.NodeRef.{same_node}
use Rattle.p9_cert.specs.Rows.{is_row}
use Rattle.p9_judge.proofs.Keys.{node_cmp, row-inserted}
use Rattle.p9_map.specs.Scene.{AreJoinedBy, AreThose}

or_assoc : (a b c : Bool) → ((a || b) || c) ≡ (a || (b || c))
or_assoc true b c = refl
or_assoc false b c = refl

-- a set is joined by those of one list item after another
module _ {X : Type 0} (test : NodeRef → X → Bool) (xs : List X) (i : ℕ) (old keys new : List NodeRef) where
  pub joined-one : (x d : X) → i < length xs → x ≡ get_or xs i d
      → AreJoinedBy keys new (λ at. test at x)
      → AreJoinedBy old keys (λ at. list_any (test at) (take i xs))
      → AreJoinedBy old new (λ at. list_any (test at) (take (i + 1) xs))
  joined-one x d l is one so_far at =
      one at ∙ ap (λ b. b || test at x) (so_far at)
      ∙ or_assoc (is_row old at) (list_any (test at) (take i xs)) (test at x)
      ∙ ap (λ y. is_row old at || (list_any (test at) (take i xs) || test at y)) is
      ∙ ap (λ b. is_row old at || b) (sym (list_any_more (test at) xs i d l))

  pub joined-all : length xs ≤ i → AreJoinedBy old keys (λ at. list_any (test at) (take i xs))
      → AreJoinedBy old keys (λ at. list_any (test at) xs)
  joined-all l so_far at =
      so_far at ∙ ap (λ ys. is_row old at || list_any (test at) ys) (take_all i xs l)

-- a set is joined by a node
pub joined-node : (old new : List NodeRef) (node : NodeRef)
    → ((q : NodeRef) → list_any (is_at (node_cmp q)) new
    ≡ cond (is_at (node_cmp node) q) true (list_any (is_at (node_cmp q)) old))
    → AreJoinedBy old new (same_node node)
joined-node old new node h at = row-inserted old new node h at

-- a set of the nodes of a list has one more
pub set-more : (nodes keys new : List NodeRef) (i : ℕ) (node d : NodeRef) → i < length nodes
    → node ≡ get_or nodes i d → AreJoinedBy keys new (same_node node)
    → AreThose keys (is_row (take i nodes)) → AreThose new (is_row (take (i + 1) nodes))
set-more nodes keys new i node d l is one so_far at =
    one at ∙ ap (λ b. b || same_node node at) (so_far at)
    ∙ ap (λ n. is_row (take i nodes) at || same_node n at) is
    ∙ sym (list_any_more (λ row. same_node row at) nodes i d l)

-- and then by others
pub joined-twice : (old mid new : List NodeRef) (f g : NodeRef → Bool) → AreJoinedBy old mid f
    → AreJoinedBy mid new g → AreJoinedBy old new (λ at. f at || g at)
joined-twice old mid new f g first second at =
    second at ∙ ap (λ b. b || g at) (first at) ∙ or_assoc (is_row old at) (f at) (g at)
