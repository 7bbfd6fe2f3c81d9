-- What is found after a change of the forest or of a fid.
use Rattle.std.proofs.Common.{◌≡◌, ℕ, zero, suc, Bool, true, false, List, [], ◌∷◌, Option, Some}
use Rattle.std.proofs.Common.{None, IsTrue, refl, ap, ◌∙◌, set, arith}
use Rattle.std.specs.Prelude.{slice_get}
use Rattle.std.specs.Option.{option_map_or}
use Rattle.std.specs.Map.{lookup, set_value}
use Rattle.std.specs.BTreeMap.{is_at}
use Rattle.std.specs.Ordering.{nat_cmp}
use Rattle.std.proofs.lemmas.List.Folds.{find-append}
use Rattle.std.proofs.lemmas.Bool.Decides.{nat_tests}
use Rattle.p9_base.specs.declared.node_ref.NodeRef.{NodeRef}
use Rattle.p9_tree.specs.Node.{Node, has_number}
use Rattle.p9_tree.specs.Server.{Server, added, node_at, with_changed}
use Rattle.p9_tree.specs.Forest.{forest_changed_at, is_dir_of}
use Rattle.p9_tree.specs.Forest.{node_of, server_at, tree_changed_at}
use Rattle.p9_tree.proofs.Changed.{KeepsPlace, node_at-changed_at}
use Rattle.p9_fids.specs.Fid.{Fid, FidRow, changed_fid, fid_at}

-- a server that is there can be replaced
server_at-set : (server : ℕ) (forest : List Server) (s new : Server)
    → slice_get forest server ≡ Some s → server_at server (set forest server new) ≡ new
server_at-set server [] s new e = absurd (cc)
server_at-set zero (t ∷ ts) s new e = refl
server_at-set (suc server) (t ∷ ts) s new e = server_at-set server ts s new e

-- a server with a node is there
server_there : (at : NodeRef) (forest : List Server) (n : Node) → node_of at forest ≡ Some n
    → (s : Server) × (slice_get forest at.server ≡ Some s)
server_there at forest n found = go (slice_get forest at.server) refl
  where
    go : (o : Option Server) → slice_get forest at.server ≡ o
        → (s : Server) × (slice_get forest at.server ≡ Some s)
    go None e = let none : None ≡ Some n = rw e at found in absurd (cc)
    go (Some s) e = (s, e)

-- the server of a node after a change of it
pub server_at-tree_changed_at : (at : NodeRef) (change : Server → Server) (forest : List Server)
    (n : Node) → node_of at forest ≡ Some n
    → server_at at.server (tree_changed_at at.server change forest)
    ≡ change (server_at at.server forest)
server_at-tree_changed_at at change forest n found =
    let there = server_there at forest n found in
    server_at-set at.server forest there.0 (change (server_at at.server forest)) there.1

node_at-changed_same : (k : ℕ) (f : Node → Node) (keeps : KeepsPlace f) (s : Server) (n : Node)
    → node_at k s.nodes ≡ Some n → node_at k (with_changed k f s).nodes ≡ Some (f n)
node_at-changed_same k f keeps s n found =
    let e = node_at-changed_at k f keeps.in_dir k s.nodes in
    grind (arith, nat_tests, e)

-- a look-up of a node after its change finds the changed node
pub node_of-changed : (at : NodeRef) (f : Node → Node) (forest : List Server) (n : Node)
    → KeepsPlace f → node_of at forest ≡ Some n
    → node_of at (forest_changed_at at f forest) ≡ Some (f n)
node_of-changed at f forest n keeps found =
    ap (λ (s : Server). node_at at.number s.nodes)
    (server_at-tree_changed_at at (with_changed at.number f) forest n found)
    ∙ node_at-changed_same at.number f keeps (server_at at.server forest) n found

-- a look-up of the number of a node that was just added finds it
pub node_at-added : (s : Server) (n : Node) → node_at s.next s.nodes ≡ None → n.number ≡ s.next
    → node_at s.next (added s n).nodes ≡ Some n
node_at-added s n free same =
    grind (arith, nat_tests, find-append (has_number s.next) s.nodes (n ∷ []))

-- a directory that exists is found
dir_there : (target : NodeRef) (forest : List Server) → IsTrue (is_dir_of target forest)
    → (dir : Node) × (node_of target forest ≡ Some dir)
dir_there target forest into = go (node_of target forest) refl
  where
    go : (o : Option Node) → node_of target forest ≡ o
        → (dir : Node) × (node_of target forest ≡ Some dir)
    go None e = let no : false ≡ true = rw e at into in absurd (cc)
    go (Some dir) e = (dir, e)

module _ {X : Type 0} (test : ℕ → Bool) where
  lookup-set_value : (rows : List (ℕ × X)) (v w : X) → lookup test rows ≡ Some v
      → lookup test (set_value test rows w) ≡ Some w
  lookup-set_value [] v w found = let none : None ≡ Some v = found in cc
  lookup-set_value (row ∷ rows) v w found = go (test row.0) refl (lookup-set_value rows v w)
    where
      go : (b : Bool) → test row.0 ≡ b
          → (lookup test rows ≡ Some v → lookup test (set_value test rows w) ≡ Some w)
          → lookup test (set_value test (row ∷ rows) w) ≡ Some w
      go true e later = rw (e, e)
      go false e later =
          let further : lookup test rows ≡ Some v = rw e at found in rw (e, e) (later further)

-- a fid after a change of it
fid_at-changed : (fid : ℕ) (f : Fid → Fid) (fids : List FidRow) (v : Fid) → fid_at fid fids ≡ Some v
    → fid_at fid (changed_fid fid f fids) ≡ Some (f v)
fid_at-changed fid f fids v found =
    ap (λ o. fid_at fid (option_map_or (λ w. set_value (is_at (nat_cmp fid)) fids (f w)) o fids))
    found
    ∙ lookup-set_value (is_at (nat_cmp fid)) fids v (f v) found
