-- A node in a forest, and in one that is the same apart from times of last access.
use Rattle.std.proofs.Common.{◌≡◌, ◌∙◌, ℕ, List, Option, Some, None, refl, sym, ap, map}
use Rattle.std.specs.Prelude.{option_map, slice_get, unwrap_or}
use Rattle.std.proofs.lemmas.Option.{slice_get-map}
use Rattle.p9_base.proofs.Views.{find-map}
use Rattle.p9_base.specs.declared.node_ref.NodeRef.{NodeRef}
use Rattle.p9_tree.specs.Forest.{no_server, node_of, server_at}
use Rattle.p9_tree.specs.Node.{Node, has_number, touched}
use Rattle.p9_tree.specs.Server.{Server, node_at}
use Rattle.p9_tree.specs.Unread.{all_unread, unread}
use Rattle.p9_inside.proofs.Facts.{not_some, some_same}

server-unwrapped : (o : Option Server)
    → unwrap_or (option_map unread o) no_server ≡ unread (unwrap_or o no_server)
unfolding unread
server-unwrapped (Some s) = refl
server-unwrapped None = refl

-- the nodes of a server
pub nodes-unread : (k : ℕ) (forest : List Server)
    → (server_at k (all_unread forest)).nodes ≡ map (touched 0) (server_at k forest).nodes
unfolding unread
nodes-unread k forest =
    ap (λ s. s.nodes)
    (ap (λ o. unwrap_or o no_server) (slice_get-map unread forest k)
    ∙ server-unwrapped (slice_get forest k))

-- a node
pub node_of-unread : (at : NodeRef) (forest : List Server)
    → node_of at (all_unread forest) ≡ option_map (touched 0) (node_of at forest)
node_of-unread at forest =
    ap (node_at at.number) (nodes-unread at.server forest)
    ∙ sym (find-map (touched 0) (has_number at.number) (server_at at.server forest).nodes)

-- they differ in the time of last access alone
abbrev pub AreUnread : Node → Node → Type 0
AreUnread m n = touched 0 m ≡ touched 0 n

module _ (f g : List Server) (same : all_unread f ≡ all_unread g) where
  -- a look-up in one of them and in the other
  pub both-unread : (at : NodeRef)
      → option_map (touched 0) (node_of at f) ≡ option_map (touched 0) (node_of at g)
  both-unread at =
      sym (node_of-unread at f) ∙ ap (λ forest. node_of at forest) same ∙ node_of-unread at g

  -- a node of the one is there in the other
  pub node_there : (at : NodeRef) (n : Node) → node_of at f ≡ Some n
      → (m : Node) × (node_of at g ≡ Some m) × AreUnread m n
  node_there at n found = go (node_of at g) refl
    where
      both : option_map (touched 0) (node_of at g) ≡ Some (touched 0 n)
      both = sym (both-unread at) ∙ ap (option_map (touched 0)) found

      go : (o : Option Node) → node_of at g ≡ o
          → (m : Node) × (node_of at g ≡ Some m) × AreUnread m n
      go None e = not_some (touched 0 n) (rw e at both)
      go (Some m) e = (m, e, some_same (touched 0 m) (touched 0 n) (rw e at both))
