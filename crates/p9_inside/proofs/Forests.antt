-- Forests without what is inside, server by server.
use Rattle.std.proofs.Common.{◌≡◌, ◌<◌, ℕ, List, [], Option, Some, None, slice_get, refl, ap, ◌∙◌}
use Rattle.std.proofs.Common.{arith, All}
use Rattle.std.specs.Prelude.{false, option_and_then, option_map, unwrap_or}
use Rattle.std.specs.Option.{option_map_or}
use Rattle.p9_base.specs.declared.node_ref.NodeRef.{NodeRef}
use Rattle.p9_tree.specs.Server.{Server, with_nodes}
use Rattle.p9_base.specs.NodeRef.{beside}
use Rattle.p9_tree.specs.Node.{Node}
use Rattle.p9_tree.specs.Forest.{server_at, IsForest, no_server, node_of}
use Rattle.p9_tree.specs.Inside.{hidden_on, is_hidden, is_barred, is_inside, outer_server, outer}
use Rattle.p9_tree.specs.Inside.{barred_from, inner_nodes, inner, is_barred_at, is_inner}
use Rattle.p9_inside.specs.Lookups.{KeepsNode, KeepsDirTest, KeepsBytes, KeepsChild}
use Rattle.p9_inside.specs.Lookups.{KeepsChildAfter, KeepsChildren, KeepsNext}
use Rattle.p9_inside.specs.Meaning.{InsideByParent, InsidesAreSplit, PassIsChain}
use Rattle.p9_inside.specs.Meaning.{BarredIsHiddenOrInside, OnlyNodesHide, SameAtServer}
use Rattle.p9_inside.specs.Meaning.{is_hidden_or_inside}
use Rattle.p9_inside.proofs.EachServer.{each_server-agree, slice_get-each_server}
use Rattle.p9_inside.proofs.Pass.{IsOrdered, barred-is_among}
use Rattle.p9_inside.proofs.Chain.{ordered, inside_chain, server_only_nodes_hide}
use Rattle.p9_inside.proofs.Outer.{split_ordered, server_keeps_node, server_keeps_dir_test}
use Rattle.p9_inside.proofs.Outer.{server_keeps_bytes, server_keeps_child, server_keeps_child_after}
use Rattle.p9_inside.proofs.Outer.{server_keeps_children}

-- a server of the forest without what is inside
pub server_at-outer : (server : ℕ) (hidden : List NodeRef) (forest : List Server)
    → server_at server (outer hidden forest)
    ≡ outer_server (hidden_on server hidden) (server_at server forest)
unfolding outer
server_at-outer server hidden forest =
    ap (λ o. unwrap_or o no_server)
    (slice_get-each_server (λ k s. outer_server (hidden_on k hidden) s) server forest)
    ∙ go (slice_get forest server)
  where
    go : (o : Option Server)
        → unwrap_or (option_map (outer_server (hidden_on server hidden)) o) no_server
        ≡ outer_server (hidden_on server hidden) (unwrap_or o no_server)
    go None = refl
    go (Some s) = refl

pub keeps_node : KeepsNode
unfolding is_inside
keeps_node hidden forest r out =
    rw server_at-outer
    (server_keeps_node (hidden_on r.server hidden) (server_at r.server forest) r.number out)

pub keeps_dir_test : KeepsDirTest
unfolding is_inside
keeps_dir_test hidden forest r out =
    rw server_at-outer
    (server_keeps_dir_test (hidden_on r.server hidden) (server_at r.server forest) r.number out)

pub keeps_bytes : KeepsBytes
unfolding is_inside
keeps_bytes hidden forest r out =
    rw server_at-outer
    (server_keeps_bytes (hidden_on r.server hidden) (server_at r.server forest) r.number out)

pub keeps_child : KeepsChild
unfolding is_barred
keeps_child hidden forest dir name out =
    rw server_at-outer
    (server_keeps_child (hidden_on dir.server hidden) (server_at dir.server forest) dir.number
    name out)

pub keeps_child_after : KeepsChildAfter
unfolding is_barred
keeps_child_after hidden forest dir floor out =
    rw server_at-outer
    (server_keeps_child_after (hidden_on dir.server hidden) (server_at dir.server forest)
    dir.number floor out)

pub keeps_children : KeepsChildren
unfolding is_barred
keeps_children hidden forest dir out =
    rw server_at-outer
    (server_keeps_children (hidden_on dir.server hidden) (server_at dir.server forest)
    dir.number out)

pub keeps_next : KeepsNext
keeps_next hidden forest server = ap (λ s. s.next) (server_at-outer server hidden forest)

-- each server's nodes are ordered, also those of a server that isn't there
pub server_ordered : (forest : List Server) → IsForest forest → (server : ℕ)
    → IsOrdered (server_at server forest).nodes
server_ordered forest w server = go (slice_get forest server) refl
  where
    go : (o : Option Server) → slice_get forest server ≡ o → IsOrdered (unwrap_or o no_server).nodes
    go None e =
        record {
          rising = λ i j d lt in_range. absurd (omega arith);
          parents = λ k p n e. absurd (cc);
        }
    go (Some s) e = ordered s (w.servers server s e)

-- its numbers lie below the next
pub server_below : (forest : List Server) → IsForest forest → (server : ℕ)
    → All (λ n. n.number < (server_at server forest).next) (server_at server forest).nodes
server_below forest w server = go (slice_get forest server) refl
  where
    go : (o : Option Server) → slice_get forest server ≡ o
        → All (λ n. n.number < (unwrap_or o no_server).next) (unwrap_or o no_server).nodes
    go None e = λ k d in_range. absurd (omega arith)
    go (Some s) e = (w.servers server s e).below

pub pass_is_chain : PassIsChain
unfolding is_inside is_hidden
pass_is_chain hidden forest r w =
    inside_chain (hidden_on r.server hidden) (server_at r.server forest).nodes
    (server_ordered forest w r.server) r.number

pub barred_is_hidden_or_inside : BarredIsHiddenOrInside
unfolding is_inside is_hidden is_barred
barred_is_hidden_or_inside hidden forest r w =
    barred-is_among (hidden_on r.server hidden) (server_at r.server forest).nodes r.number
    (server_ordered forest w r.server)

-- the parent of a number's node, if it has one
abbrev pub parent_of : NodeRef → List Server → Option ℕ
parent_of r forest = option_and_then (λ n. n.parent) (node_of r forest)

-- the pass takes a node to be inside where its parent is barred
pub inside_by_barred_parent : (hidden : List NodeRef) (forest : List Server) (r : NodeRef)
    → is_inside r hidden forest
    ≡ option_map_or (λ parent. is_barred (beside r parent) hidden forest) (parent_of r forest) false
unfolding is_inside is_barred
inside_by_barred_parent hidden forest r = go (node_of r forest)
  where
    hidden_there : List ℕ
    hidden_there = hidden_on r.server hidden

    nodes : List Node
    nodes = (server_at r.server forest).nodes

    go : (o : Option Node) → option_map_or (is_inner (barred_from hidden_there nodes)) o false
        ≡ option_map_or (λ parent. is_barred_at parent hidden_there nodes)
        (option_and_then (λ n. n.parent) o) false
    go None = refl
    go (Some n) = refl

pub inside_by_parent : InsideByParent
inside_by_parent hidden forest r w =
    inside_by_barred_parent hidden forest r ∙ go (parent_of r forest)
  where
    go : (o : Option ℕ)
        → option_map_or (λ parent. is_barred (beside r parent) hidden forest) o false
        ≡ option_map_or (λ parent. is_hidden_or_inside hidden forest (beside r parent)) o false
    go None = refl
    go (Some parent) = barred_is_hidden_or_inside hidden forest (beside r parent) w

-- the insides of one server
nodes_of-inner : (server : ℕ) (hidden : List NodeRef) (forest : List Server)
    → unwrap_or (slice_get (inner hidden forest) server) []
    ≡ inner_nodes (hidden_on server hidden) (server_at server forest).nodes
unfolding inner
nodes_of-inner server hidden forest =
    ap (λ o. unwrap_or o [])
    (slice_get-each_server (λ k s. inner_nodes (hidden_on k hidden) s.nodes) server forest)
    ∙ go (slice_get forest server)
  where
    go : (o : Option Server)
        → unwrap_or (option_map (λ s. inner_nodes (hidden_on server hidden) s.nodes) o) []
        ≡ inner_nodes (hidden_on server hidden) (unwrap_or o no_server).nodes
    go None = refl
    go (Some s) = refl

pub insides_are_split : InsidesAreSplit
unfolding is_inside
insides_are_split hidden forest r w =
    rw (server_at-outer, nodes_of-inner)
    (split_ordered (hidden_on r.server hidden) (server_at r.server forest).nodes r.number
    (server_ordered forest w r.server))

pub only_nodes_hide : OnlyNodesHide
unfolding inner outer is_hidden
only_nodes_hide hidden other forest w agree = record {
  insides = each_server-agree _ _ forest (λ server s found. (one server s found).insides);
  others =
      each_server-agree _ _ forest
      (λ server s found. ap (with_nodes s) (one server s found).others);
}
  where
    one : (server : ℕ) (s : Server) → slice_get forest server ≡ Some s
        → SameAtServer (hidden_on server hidden) (hidden_on server other) s
    one server s found =
        server_only_nodes_hide (hidden_on server hidden) (hidden_on server other) s
        (w.servers server s found)
        (λ k there. agree (record { server = server; number = k })
        (λ none. there (rw found at none)))
