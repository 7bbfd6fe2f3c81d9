-- The children of a directory, as nodes of their server.
use Rattle.std.proofs.Common.{◌≡◌, ℕ, ◌<◌, true, false, List, Option, Some, None}
use Rattle.std.proofs.Common.{refl, sym, ap, ◌∙◌, arith}
use Rattle.std.specs.Prelude.{find, slice_get, unwrap_or}
use Rattle.std.specs.Option.{option_map_or}
use Rattle.std.specs.Str.{bytes_eq}
use Rattle.std.proofs.lemmas.Bool.{and_from, and_parts}
use Rattle.std.proofs.lemmas.List.Elements.{recursion_from_All}
use Rattle.std.proofs.lemmas.Slice.Eq.{bytes_eq-Decides}
use Rattle.p9_base.specs.declared.node_ref.NodeRef.{NodeRef}
use Rattle.p9_base.specs.Name.{is_name}
use Rattle.p9_base.specs.NodeRef.{beside}
use Rattle.p9_tree.specs.Node.{Node, has_number, is_child, is_in}
use Rattle.p9_tree.specs.Server.{Server, WellFormed, next_max, node_at}
use Rattle.p9_tree.specs.Forest.{IsForest, child_in, children_of, is_dir_of, next_of, no_server}
use Rattle.p9_tree.specs.Forest.{node_of, server_at}
use Rattle.p9_tree.proofs.Lookups.{each_found, node_at-found}
use Rattle.p9_inside.proofs.Forests.{server_ordered}
use Rattle.p9_inside.proofs.Looks.{in-parent, node_below, ordered_forest}
use Rattle.p9_policy.proofs.Basics.{clash, each_weaker, not_some}
use Rattle.p9_cert.proofs.Gaps.{all_filter, is-in}
use Rattle.p9_judge.proofs.Lists.{all_at, found_kept, found_passes, none_passes}

module _ (f : List Server) (sound : IsForest f) where
  -- a server that has a node is well-formed
  pub well_formed_at : (server k : ℕ) (n : Node) → node_at k (server_at server f).nodes ≡ Some n
      → WellFormed (server_at server f)
  well_formed_at server k n e = go (slice_get f server) refl e
    where
      go : (o : Option Server) → slice_get f server ≡ o
          → node_at k (unwrap_or o no_server).nodes ≡ Some n → WellFormed (unwrap_or o no_server)
      go None w t = not_some n t
      go (Some s) w t = sound.servers server s w

  -- the number of a directory is one that a server may give
  pub dir-small : (at : NodeRef) → is_dir_of at f ≡ true → at.number < next_max
  dir-small at d = go (node_of at f) refl d
    where
      go : (o : Option Node) → node_of at f ≡ o
          → option_map_or Rattle.p9_tree.specs.Node.is_dir o false ≡ true
          → at.number < next_max
      go None w t = let no : false ≡ true = t in absurd (cc)
      go (Some n) w t =
          let low : at.number < next_of at.server f =
          node_below f (ordered_forest f sound) at n w in
          let few = (well_formed_at at.server at.number n w).few in omega arith

  module _ (dir : NodeRef) where
    -- what is at a position among the children is a node that is in the directory
    pub child_at : (j : ℕ) (n : Node) → slice_get (children_of dir f) j ≡ Some n
        → (node_of (beside dir n.number) f ≡ Some n) × (n.parent ≡ Some dir.number)
    child_at j n e =
        all_at (λ m. (node_of (beside dir m.number) f ≡ Some m) × (m.parent ≡ Some dir.number))
        (children_of dir f) j n
        (all_filter
        (λ m. (node_of (beside dir m.number) f ≡ Some m) × (m.parent ≡ Some dir.number))
        (is_in dir.number) (server_at dir.server f).nodes
        (each_weaker (λ m. node_at m.number (server_at dir.server f).nodes ≡ Some m)
        (λ m. is_in dir.number m ≡ true
        → (node_of (beside dir m.number) f ≡ Some m) × (m.parent ≡ Some dir.number))
        (λ m found t. (found, in-parent dir.number m t)) (server_at dir.server f).nodes
        (recursion_from_All (λ m. node_at m.number (server_at dir.server f).nodes ≡ Some m)
        (server_at dir.server f).nodes
        (each_found (server_at dir.server f).nodes (server_ordered f sound dir.server).rising))))
        e

    -- and each such node is at some position
    pub at_child : (k : ℕ) (n : Node) → node_of (beside dir k) f ≡ Some n
        → n.parent ≡ Some dir.number → (j : ℕ) × (slice_get (children_of dir f) j ≡ Some n)
    at_child k n there parent =
        found_kept (has_number k) (is_in dir.number) (server_at dir.server f).nodes n there
        (is-in n dir.number parent)

    -- it has a name
    pub child-name : (n : Node) → node_of (beside dir n.number) f ≡ Some n
        → n.parent ≡ Some dir.number → is_name n.name ≡ true
    child-name n there parent =
        ((well_formed_at dir.server n.number n there).sound n.number n there).valid_name dir.number
        parent

    -- and is the child of that name
    pub named_child : (n : Node) → node_of (beside dir n.number) f ≡ Some n
        → n.parent ≡ Some dir.number → child_in dir n.name f ≡ Some n
    named_child n there parent = go (find (is_child dir.number n.name) nodes) refl
      where
        nodes : List Node
        nodes = (server_at dir.server f).nodes

        go : (o : Option Node)
            → find (is_child dir.number n.name) (server_at dir.server f).nodes ≡ o
            → find (is_child dir.number n.name) (server_at dir.server f).nodes ≡ Some n
        go None e =
            clash (is_child dir.number n.name n)
            (and_from (is_in dir.number n) (bytes_eq n.name n.name) (is-in n dir.number parent)
            ((bytes_eq-Decides n.name n.name).1 refl))
            (none_passes (is_child dir.number n.name) (has_number n.number)
            (server_at dir.server f).nodes n e there)
        go (Some m) e =
            let passes =
            found_passes (is_child dir.number n.name) (server_at dir.server f).nodes m e in
            let parts = and_parts (is_in dir.number m) (bytes_eq m.name n.name) passes in
            let found : node_at m.number (server_at dir.server f).nodes ≡ Some m =
            node_at-found (is_child dir.number n.name) (server_at dir.server f).nodes m
            (server_ordered f sound dir.server).rising e in
            let one : m.number ≡ n.number =
            (well_formed_at dir.server n.number n there).siblings m.number n.number dir.number m n
            found there (in-parent dir.number m parts.0) parent
            ((bytes_eq-Decides m.name n.name).0 parts.1) in
            e ∙ sym found ∙ ap (λ k. node_at k (server_at dir.server f).nodes) one ∙ there
