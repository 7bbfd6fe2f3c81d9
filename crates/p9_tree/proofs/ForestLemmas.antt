-- What holds of each tree, and a change of one, seen in the list of the servers.
use Rattle.std.proofs.Common.{◌≡◌, ℕ, zero, suc, ◌<◌, ◌≤◌, List, [], ◌∷◌, length, get_or, set, map}
use Rattle.std.proofs.Common.{Some, false, true, refl}
use Rattle.std.proofs.Common.{slice_get, sym, ap, ◌∙◌, subst, arith, IsTrue}
use Rattle.std.proofs.lemmas.Grind.{common_steps}
use Rattle.p9_base.specs.NodeRef.{servers_max}
use Rattle.p9_tree.specs.Server.{Server, WellFormed, is_dir_at}
use Rattle.p9_tree.specs.Forest.{IsForest, server_at, tree_changed_at}

-- where each tree is well-formed, each server is
each-map : {T : Type 0} (f : T → Server) → ((t : T) → WellFormed (f t))
    → (ts : List T) (k : ℕ) (s : Server) → slice_get (map f ts) k ≡ Some s → WellFormed s
each-map f law [] k s e = absurd (cc)
each-map f law (t ∷ ts) zero s e = let same : f t ≡ s = cc in subst WellFormed same (law t)
each-map f law (t ∷ ts) (suc k) s e = each-map f law ts k s e

pub IsForest-map : {T : Type 0} (f : T → Server) → ((t : T) → WellFormed (f t)) → (ts : List T)
    → length (map f ts) ≤ servers_max → IsForest (map f ts)
IsForest-map f law ts few = record {
  few = few;
  servers = each-map f law ts;
}

-- a write over one tree, of one whose state is a change of the old one's, changes that server
pub map-tree_changed_at : {T : Type 0} (f : T → Server) (change : Server → Server) (ts : List T)
    (i : ℕ) (t u : T) → i < length ts → t ≡ get_or ts i t → f u ≡ change (f t)
    → map f (set ts i u) ≡ tree_changed_at i change (map f ts)
map-tree_changed_at f change [] i t u lt read e = absurd (omega arith)
map-tree_changed_at f change (v ∷ ts) zero t u lt read e =
    ap (λ s. s ∷ map f ts) (e ∙ ap (λ w. change (f w)) read)
map-tree_changed_at f change (v ∷ ts) (suc i) t u lt read e =
    grind (arith, common_steps, map-tree_changed_at f change ts i t u)

-- and where its state is the old one's, the servers are the same
pub map-set_same : {T : Type 0} (f : T → Server) (ts : List T) (i : ℕ) (t u : T) → i < length ts
    → t ≡ get_or ts i t → f u ≡ f t → map f (set ts i u) ≡ map f ts
map-set_same f [] i t u lt read e = absurd (omega arith)
map-set_same f (v ∷ ts) zero t u lt read e = ap (λ s. s ∷ map f ts) (e ∙ ap f read)
map-set_same f (v ∷ ts) (suc i) t u lt read e = grind (arith, common_steps, map-set_same f ts i t u)

-- a change of a server that isn't there changes nothing
pub map-tree_absent : {T : Type 0} (f : T → Server) (change : Server → Server) (ts : List T)
    (i : ℕ) → (i < length ts → false ≡ true) → map f ts ≡ tree_changed_at i change (map f ts)
map-tree_absent f change [] i absent = refl
map-tree_absent f change (t ∷ ts) zero absent = absurd (let lie = absent (omega arith) in cc)
map-tree_absent f change (t ∷ ts) (suc i) absent =
    ap (λ rest. f t ∷ rest) (map-tree_absent f change ts i (λ lt. absent (omega (arith, lt))))

-- a server with a directory is there
pub server_within : {T : Type 0} (f : T → Server) (ts : List T) (i dir : ℕ)
    → IsTrue (is_dir_at dir (server_at i (map f ts)).nodes) → i < length ts
server_within f [] i dir e = absurd (cc)
server_within f (t ∷ ts) zero dir e = omega arith
server_within f (t ∷ ts) (suc i) dir e = grind (arith, common_steps, server_within f ts i dir)

-- the server of a tree that is there
pub server_at-map : {T : Type 0} (f : T → Server) (ts : List T) (i : ℕ) (t : T) → i < length ts
    → t ≡ get_or ts i t → server_at i (map f ts) ≡ f t
server_at-map f [] i t lt read = absurd (omega arith)
server_at-map f (v ∷ ts) zero t lt read = ap f (sym read)
server_at-map f (v ∷ ts) (suc i) t lt read = grind (arith, common_steps, server_at-map f ts i t)
