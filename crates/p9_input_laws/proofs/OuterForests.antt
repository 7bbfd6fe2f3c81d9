-- A forest without what is inside hidden directories is well-formed, and nothing is inside.
use Rattle.std.proofs.Common.{◌≡◌, ℕ, ◌≤◌, Bool, true, false, List, Option, Some, None, length}
use Rattle.std.proofs.Common.{slice_get, refl, sym, ◌∙◌, subst}
use Rattle.std.specs.Prelude.{if◌then◌else◌, unwrap_or}
use Rattle.std.specs.List.{enumerate_from}
use Rattle.std.specs.Option.{option_map}
use Rattle.std.proofs.lemmas.List.{length-map}
use Rattle.std.proofs.lemmas.List.FromFn.{length-enumerate_from}
use Rattle.p9_base.specs.declared.node_ref.NodeRef.{NodeRef}
use Rattle.p9_base.specs.NodeRef.{servers_max}
use Rattle.p9_tree.specs.Node.{Node}
use Rattle.p9_tree.specs.Server.{Server, WellFormed}
use Rattle.p9_tree.specs.Forest.{IsForest, no_server, node_of}
use Rattle.p9_tree.specs.Inside.{each_server, hidden_on, inner, inner_nodes, is_inside}
use Rattle.p9_tree.specs.Inside.{is_inside_at, outer, outer_server}
use Rattle.p9_inside.proofs.EachServer.{slice_get-each_server}
use Rattle.p9_inside.proofs.Facts.{not_some}
use Rattle.p9_inside.proofs.Forests.{insides_are_split, server_at-outer}
use Rattle.p9_input_laws.proofs.OuterServers.{WellFormed-outer, none_inside}

length-each_server : {X : Type 0} (f : ℕ → Server → X) (forest : List Server)
    → length (each_server f forest) ≡ length forest
length-each_server f forest =
    length-map (enumerate_from 0 forest) (λ s. f s.0 s.1) ∙ length-enumerate_from 0 forest

-- as many servers, without their insides and in their insides
pub length-outer : (hidden : List NodeRef) (forest : List Server)
    → length (outer hidden forest) ≡ length forest
unfolding outer
length-outer hidden forest =
    length-each_server (λ server s. outer_server (hidden_on server hidden) s) forest

pub length-inner : (hidden : List NodeRef) (forest : List Server)
    → length (inner hidden forest) ≡ length forest
unfolding inner
length-inner hidden forest =
    length-each_server (λ server s. inner_nodes (hidden_on server hidden) s.nodes) forest

module _ (hidden : List NodeRef) (forest : List Server) (w : IsForest forest) where
  server-outer : (k : ℕ) (s : Server) (o : Option Server) → slice_get forest k ≡ o
      → option_map (outer_server (hidden_on k hidden)) o ≡ Some s → WellFormed s
  server-outer k s None e at = not_some s at
  server-outer k s (Some before) e at =
      let same : outer_server (hidden_on k hidden) before ≡ s = cc in
      subst WellFormed same (WellFormed-outer (hidden_on k hidden) before (w.servers k before e))

  servers-outer : (k : ℕ) (s : Server) → slice_get (outer hidden forest) k ≡ Some s → WellFormed s
  unfolding outer
  servers-outer k s at =
      server-outer k s (slice_get forest k) refl
      (sym (slice_get-each_server (λ server s. outer_server (hidden_on server hidden) s) k forest)
      ∙ at)

  pub forest-outer : IsForest (outer hidden forest)
  forest-outer = record {
    few = subst (λ n. n ≤ servers_max) (sym (length-outer hidden forest)) w.few;
    servers = servers-outer;
  }

  pub none-inside : (at : NodeRef) → is_inside at hidden (outer hidden forest) ≡ false
  unfolding is_inside
  none-inside at = rw server_at-outer (go (slice_get forest at.server) refl)
    where
      there : List ℕ
      there = hidden_on at.server hidden

      go : (o : Option Server) → slice_get forest at.server ≡ o
          → is_inside_at at.number there (outer_server there (unwrap_or o no_server)).nodes ≡ false
      go None e = refl
      go (Some s) e = none_inside there s (w.servers at.server s e) at.number

  -- a node that is left was there, and is not inside
  pub was-there : (at : NodeRef) (n : Node) → node_of at (outer hidden forest) ≡ Some n
      → (is_inside at hidden forest ≡ false) × (node_of at forest ≡ Some n)
  was-there at n e = go (is_inside at hidden forest) refl
    where
      is : (if is_inside at hidden forest then None else node_of at forest) ≡ Some n
      is = sym (insides_are_split hidden forest at w).others ∙ e

      go : (b : Bool) → is_inside at hidden forest ≡ b
          → (is_inside at hidden forest ≡ false) × (node_of at forest ≡ Some n)
      go true t = let no : None ≡ Some n = rw t at is in not_some n no
      go false t = (t, rw t at is)
