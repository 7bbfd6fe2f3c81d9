-- Look-ups in a forest don't depend on its times of last access.
use Rattle.std.proofs.Common.{◌≡◌, ◌∙◌, ℕ, ◌+◌, List, [], ◌∷◌, Option, Some, None, Bool}
use Rattle.std.proofs.Common.{true, false, cond, refl, sym, ap, map}
use Rattle.std.specs.Prelude.{filter, option_map, slice_get, unwrap_or}
use Rattle.std.specs.Option.{option_map_or}
use Rattle.std.specs.List.{enumerate_from}
use Rattle.std.proofs.lemmas.Option.{slice_get-map}
use Rattle.p9_base.proofs.Views.{find-map}
use Rattle.p9_base.specs.declared.node_ref.NodeRef.{NodeRef}
use Rattle.p9_tree.specs.Forest.{children_of, is_dir_of, next_of, no_server, node_of, server_at}
use Rattle.p9_tree.specs.Inside.{barred_from, grown_by, hidden_on, inner, inner_nodes, is_inner}
use Rattle.p9_tree.specs.Inside.{is_inside, is_inside_at}
use Rattle.p9_tree.specs.Node.{Node, has_number, is_dir, is_in, touched}
use Rattle.p9_tree.specs.Server.{Server, node_at}
use Rattle.p9_tree.specs.Unread.{all_unread, unread}

server-unwrapped : (o : Option Server)
    → unwrap_or (option_map unread o) no_server ≡ unread (unwrap_or o no_server)
unfolding unread
server-unwrapped (Some s) = refl
server-unwrapped None = refl

-- the server of a number
server_at-unread : (k : ℕ) (fs : List Server) → server_at k (all_unread fs) ≡ unread (server_at k fs)
server_at-unread k fs =
    ap (λ o. unwrap_or o no_server) (slice_get-map unread fs k) ∙ server-unwrapped (slice_get fs k)

nodes-unread : (k : ℕ) (fs : List Server)
    → (server_at k (all_unread fs)).nodes ≡ map (touched 0) (server_at k fs).nodes
unfolding unread
nodes-unread k fs = ap (λ s. s.nodes) (server_at-unread k fs)

-- the next number
pub next_of-unread : (k : ℕ) (fs : List Server) → next_of k (all_unread fs) ≡ next_of k fs
unfolding unread
next_of-unread k fs = ap (λ s. s.next) (server_at-unread k fs)

node_at-unread : (k : ℕ) (ns : List Node)
    → node_at k (map (touched 0) ns) ≡ option_map (touched 0) (node_at k ns)
node_at-unread k ns = sym (find-map (touched 0) (has_number k) ns)

-- a node
pub node_of-unread : (at : NodeRef) (fs : List Server)
    → node_of at (all_unread fs) ≡ option_map (touched 0) (node_of at fs)
node_of-unread at fs =
    ap (node_at at.number) (nodes-unread at.server fs)
    ∙ node_at-unread at.number (server_at at.server fs).nodes

-- what is asked of a node that may be there
pub asked-unread : {X : Type 0} (f : Node → X) (d : X) → ((n : Node) → f (touched 0 n) ≡ f n)
    → (o : Option Node) → option_map_or f (option_map (touched 0) o) d ≡ option_map_or f o d
asked-unread f d blind (Some n) = blind n
asked-unread f d blind None = refl

-- whether it is a directory
pub is_dir_of-unread : (at : NodeRef) (fs : List Server)
    → is_dir_of at (all_unread fs) ≡ is_dir_of at fs
is_dir_of-unread at fs =
    ap (λ o. option_map_or is_dir o false) (node_of-unread at fs)
    ∙ asked-unread is_dir false (λ n. refl) (node_of at fs)

-- the nodes that pass a test
filter-unread : (test : Node → Bool) → ((n : Node) → test (touched 0 n) ≡ test n) → (ns : List Node)
    → filter test (map (touched 0) ns) ≡ map (touched 0) (filter test ns)
filter-unread test blind [] = refl
filter-unread test blind (n ∷ ns) =
    ap (λ t. cond t (touched 0 n ∷ filter test (map (touched 0) ns)) (filter test (map (touched 0) ns)))
    (blind n)
    ∙ go (test n) (filter-unread test blind ns)
  where
    go : (t : Bool) → filter test (map (touched 0) ns) ≡ map (touched 0) (filter test ns)
        → cond t (touched 0 n ∷ filter test (map (touched 0) ns)) (filter test (map (touched 0) ns))
        ≡ map (touched 0) (cond t (n ∷ filter test ns) (filter test ns))
    go true rest = ap (λ ms. touched 0 n ∷ ms) rest
    go false rest = rest

-- the nodes of a directory
pub children_of-unread : (dir : NodeRef) (fs : List Server)
    → children_of dir (all_unread fs) ≡ map (touched 0) (children_of dir fs)
children_of-unread dir fs =
    ap (filter (is_in dir.number)) (nodes-unread dir.server fs)
    ∙ filter-unread (is_in dir.number) (λ n. refl) (server_at dir.server fs).nodes

-- the numbers inside hidden directories
barred-unread : (barred : List ℕ) (ns : List Node)
    → barred_from barred (map (touched 0) ns) ≡ barred_from barred ns
barred-unread barred [] = refl
barred-unread barred (n ∷ ns) = barred-unread (grown_by barred n) ns

inside_at-unread : (number : ℕ) (hidden : List ℕ) (ns : List Node)
    → is_inside_at number hidden (map (touched 0) ns) ≡ is_inside_at number hidden ns
inside_at-unread number hidden ns =
    ap (λ barred. option_map_or (is_inner barred) (node_at number (map (touched 0) ns)) false)
    (barred-unread hidden ns)
    ∙ ap (λ o. option_map_or (is_inner (barred_from hidden ns)) o false) (node_at-unread number ns)
    ∙ asked-unread (is_inner (barred_from hidden ns)) false (λ n. refl) (node_at number ns)

-- whether a node is inside
pub is_inside-unread : (at : NodeRef) (hidden : List NodeRef) (fs : List Server)
    → is_inside at hidden (all_unread fs) ≡ is_inside at hidden fs
unfolding is_inside
is_inside-unread at hidden fs =
    ap (is_inside_at at.number (hidden_on at.server hidden)) (nodes-unread at.server fs)
    ∙ inside_at-unread at.number (hidden_on at.server hidden) (server_at at.server fs).nodes

inner_nodes-unread : (hidden : List ℕ) (ns : List Node)
    → inner_nodes hidden (map (touched 0) ns) ≡ map (touched 0) (inner_nodes hidden ns)
inner_nodes-unread hidden ns =
    ap (λ barred. filter (is_inner barred) (map (touched 0) ns)) (barred-unread hidden ns)
    ∙ filter-unread (is_inner (barred_from hidden ns)) (λ n. refl) ns

-- what is inside, of the servers from a number on
abbrev inner_from : List NodeRef → ℕ → List Server → List (List Node)
inner_from hidden k fs =
    map (λ s. inner_nodes (hidden_on s.0 hidden) s.1.nodes) (enumerate_from k fs)

inner_from-unread : (hidden : List NodeRef) (k : ℕ) (fs : List Server)
    → inner_from hidden k (all_unread fs) ≡ map (map (touched 0)) (inner_from hidden k fs)
unfolding unread
inner_from-unread hidden k [] = refl
inner_from-unread hidden k (f ∷ fs) =
    ap (λ ns. ns ∷ inner_from hidden (k + 1) (all_unread fs))
    (inner_nodes-unread (hidden_on k hidden) f.nodes)
    ∙ ap (λ rest. map (touched 0) (inner_nodes (hidden_on k hidden) f.nodes) ∷ rest)
    (inner_from-unread hidden (k + 1) fs)

-- what is inside hidden directories
pub inner-unread : (hidden : List NodeRef) (fs : List Server)
    → inner hidden (all_unread fs) ≡ map (map (touched 0)) (inner hidden fs)
unfolding inner
inner-unread hidden fs = inner_from-unread hidden 0 fs
