-- What no change of the forest undoes: numbers are not given again, and a directory stays one.
use Rattle.std.proofs.Common.{◌≡◌, ℕ, zero, suc, ◌<◌, ◌≤◌, List, [], ◌∷◌, ◌⊎◌, inl, inr, Option}
use Rattle.std.proofs.Common.{Some, None, refl, sym, ap, ◌∙◌, subst, arith}
use Rattle.std.specs.Prelude.{slice_get, slice_set}
use Rattle.p9_base.specs.declared.node_ref.NodeRef.{NodeRef}
use Rattle.p9_tree.specs.Node.{Node, has_number, is_dir}
use Rattle.p9_tree.specs.Server.{Server, WellFormed, node_at}
use Rattle.p9_tree.specs.Forest.{IsForest, next_of, no_server, node_of, server_at, tree_changed_at}
use Rattle.p9_tree.proofs.Lookups.{number-node_at}
use Rattle.p9_step.proofs.Members.{IsMember, found-member, member-node_at, no_member}

-- a node of an old number was there, of the same kind
pub record Evolved (s t : Server) : Type 0 where
  pub next : s.next ≤ t.next
  pub was : (n : Node) → IsMember n t.nodes → n.number < s.next
      → (m : Node) × IsMember m s.nodes × (m.number ≡ n.number) × (is_dir m ≡ is_dir n)

-- the same of each server
pub record Evolves (f g : List Server) : Type 0 where
  pub server : (k : ℕ) → Evolved (server_at k f) (server_at k g)

pub evolved-same : (s : Server) → Evolved s s
evolved-same s = record { next = omega arith; was = λ n there below. (n, there, refl, refl) }

-- a forest evolves to itself
pub evolves-same : (f : List Server) → Evolves f f
evolves-same f = record { server = λ k. evolved-same (server_at k f) }

evolved-twice : (s t u : Server) → Evolved s t → Evolved t u → Evolved s u
evolved-twice s t u first second = record {
  next = (let a = first.next in let b = second.next in omega arith);
  was = λ n there below.
      let a = first.next in
      let middle = second.was n there (omega arith) in
      let old = first.was middle.0 middle.1 (subst (λ k. k < s.next) (sym middle.2) below) in
      (old.0, old.1, old.2 ∙ middle.2, old.3 ∙ middle.3);
}

-- one evolution after another is one
pub evolves-twice : (f g h : List Server) → Evolves f g → Evolves g h → Evolves f h
evolves-twice f g h first second = record {
  server =
      λ k. evolved-twice (server_at k f) (server_at k g) (server_at k h) (first.server k)
      (second.server k);
}

-- a server after one is written over
server_at-set : (k server : ℕ) (forest : List Server) (t : Server)
    → (server_at k (slice_set forest server t) ≡ server_at k forest)
    ⊎ ((k ≡ server) × (server_at k (slice_set forest server t) ≡ t))
server_at-set k server [] t = inl refl
server_at-set zero zero (s ∷ ss) t = inr (refl, refl)
server_at-set zero (suc server) (s ∷ ss) t = inl refl
server_at-set (suc k) zero (s ∷ ss) t = inl refl
server_at-set (suc k) (suc server) (s ∷ ss) t =
    elim (server_at-set k server ss t) [ inl same ↦ inl same | inr new ↦ inr (ap suc new.0, new.1) ]

-- where one server evolves, the forest does
pub evolves-tree : (forest : List Server) (server : ℕ) (change : Server → Server)
    → Evolved (server_at server forest) (change (server_at server forest))
    → Evolves forest (tree_changed_at server change forest)
evolves-tree forest server change evolved = record {
  server = λ k. elim (server_at-set k server forest (change (server_at server forest))) [
    | inl same ↦ subst (λ t. Evolved (server_at k forest) t) (sym same)
        (evolved-same (server_at k forest))
    | inr new ↦ rw (new.1, new.0) evolved
  ];
}

-- Look-ups in a forest that evolved.

-- a server that has a node is well-formed
pub server_well : (forest : List Server) (k : ℕ) (n : Node) → IsForest forest
    → IsMember n (server_at k forest).nodes → WellFormed (server_at k forest)
server_well forest k n sound there = go (slice_get forest k) refl
  where
    go : (o : Option Server) → slice_get forest k ≡ o → WellFormed (server_at k forest)
    go None e = let none : IsMember n no_server.nodes = rw e at there in absurd (no_member n none)
    go (Some s) e = rw e (sound.servers k s e)

-- what is found under an old number was found there, of the same kind
pub found-evolved : (f g : List Server) (at : NodeRef) (n : Node) → IsForest f → Evolves f g
    → at.number < next_of at.server f → node_of at g ≡ Some n
    → (m : Node) × (node_of at f ≡ Some m) × (is_dir m ≡ is_dir n)
found-evolved f g at n sound evolves below found =
    let there =
    (found-member (λ m. has_number at.number m) (server_at at.server g).nodes n found).0 in
    let number : n.number ≡ at.number =
    number-node_at at.number (server_at at.server g).nodes n found in
    let was =
    (evolves.server at.server).was n there
    (subst (λ k. k < next_of at.server f) (sym number) below) in
    let well = server_well f at.server was.0 sound was.1 in
    let old : node_at was.0.number (server_at at.server f).nodes ≡ Some was.0 =
    member-node_at was.0 (server_at at.server f).nodes well.rising was.1 in (
      was.0,
      subst (λ k. node_at k (server_at at.server f).nodes ≡ Some was.0) (was.2 ∙ number) old,
      was.3,
    )
