-- Places that exist.
use Rattle.std.proofs.Common.{◌≡◌, ℕ, ◌<◌, ◌^◌, ◌&&◌, Bool, true, false, cond, List, [], ◌∷◌}
use Rattle.std.proofs.Common.{Option, Some, None, refl, subst, arith, All}
use Rattle.std.specs.Prelude.{find, slice_get}
use Rattle.std.proofs.lemmas.List.Elements.{All-head, All-tail}
use Rattle.p9_base.specs.declared.node_ref.NodeRef.{NodeRef}
use Rattle.p9_tree.specs.Node.{Node, is_above, is_in}
use Rattle.p9_tree.specs.Server.{Server, child_after, node_at}
use Rattle.p9_tree.specs.Forest.{IsForest, child_in_after, node_of}
use Rattle.p9_tree.proofs.Lookups.{All-node_at, number-node_at}

-- what holds of all holds of what is found
All-find : {X : Type 0} (P : X → Type 0) (p : X → Bool) (xs : List X) (x : X) → All P xs
    → find p xs ≡ Some x → P x
All-find P p [] x all e = absurd (cc)
All-find P p (y ∷ ys) x all e =
    let here : P y = All-head P y ys all in
    elim (p y) as (λ b. cond b (Some y) (find p ys) ≡ Some x → P x) [
      | true ↦ λ same. let e' : y ≡ x = cc in subst P e' here
      | false ↦ λ later. All-find P p ys x (All-tail P y ys all) later
    ] e

-- the number of a node that exists is below 2^48
pub node_of-below : (forest : List Server) (at : NodeRef) (n : Node) → IsForest forest
    → node_of at forest ≡ Some n → at.number < 2 ^ 48
node_of-below forest at n sound found = go (slice_get forest at.server) refl
  where
    go : (o : Option Server) → slice_get forest at.server ≡ o → at.number < 2 ^ 48
    go None e = let none : None ≡ Some n = rw e at found in cc
    go (Some s) e =
        let here : node_at at.number s.nodes ≡ Some n = rw e at found in
        let well = sound.servers at.server s e in
        let below : n.number < s.next =
        All-node_at (λ m. m.number < s.next) at.number s.nodes n well.below here in
        let same : n.number ≡ at.number = number-node_at at.number s.nodes n here in
        let few = well.few in
        omega arith

-- the number of a node that is in a directory is below 2^48
pub child_in_after-below : (forest : List Server) (dir : NodeRef) (floor : Option ℕ) (n : Node)
    → IsForest forest → child_in_after dir floor forest ≡ Some n → n.number < 2 ^ 48
child_in_after-below forest dir floor n sound found = go (slice_get forest dir.server) refl
  where
    go : (o : Option Server) → slice_get forest dir.server ≡ o → n.number < 2 ^ 48
    go None e = let none : None ≡ Some n = rw e at found in cc
    go (Some s) e =
        let here : child_after dir.number floor s.nodes ≡ Some n = rw e at found in
        let well = sound.servers dir.server s e in
        let below : n.number < s.next =
        All-find (λ m. m.number < s.next) (λ m. is_in dir.number m && is_above floor m) s.nodes
        n well.below here in
        let few = well.few in
        omega arith
