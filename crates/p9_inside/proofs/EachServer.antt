-- What is made of each server of a forest and its number.
use Rattle.std.proofs.Common.{◌≡◌, ℕ, zero, suc, ◌+◌, List, [], ◌∷◌, Some, slice_get, set, refl, ap}
use Rattle.std.proofs.Common.{map, arith}
use Rattle.std.specs.Option.{option_map}
use Rattle.std.specs.List.{enumerate_from}
use Rattle.p9_tree.specs.Server.{Server}
use Rattle.p9_tree.specs.Forest.{server_at}
use Rattle.p9_tree.specs.Inside.{each_server}

module _ {X : Type 0} (f : ℕ → Server → X) where
  -- of the servers whose numbers begin with this one
  abbrev each_from : ℕ → List Server → List X
  each_from from ss = map (λ s. f s.0 s.1) (enumerate_from from ss)

  slice_get-each_from : (from k at : ℕ) (ss : List Server) → at ≡ from + k
      → slice_get (each_from from ss) k ≡ option_map (f at) (slice_get ss k)
  slice_get-each_from from k at [] e = refl
  slice_get-each_from from zero at (s ∷ ss) e = let same : at ≡ from = omega arith in rw same refl
  slice_get-each_from from (suc k) at (s ∷ ss) e =
      slice_get-each_from (from + 1) k at ss (omega arith)

  -- what is made of one server
  pub slice_get-each_server : (server : ℕ) (forest : List Server)
      → slice_get (each_server f forest) server ≡ option_map (f server) (slice_get forest server)
  slice_get-each_server server forest = slice_get-each_from 0 server server forest (omega arith)

  each_from-set : (from k at : ℕ) (ss : List Server) (new : Server) → at ≡ from + k
      → each_from from (set ss k new) ≡ set (each_from from ss) k (f at new)
  each_from-set from k at [] new e = refl
  each_from-set from zero at (s ∷ ss) new e =
      let same : at ≡ from = omega arith in rw same refl
  each_from-set from (suc k) at (s ∷ ss) new e =
      ap (λ rest. f from s ∷ rest) (each_from-set (from + 1) k at ss new (omega arith))

  -- of a server that is put in place of another
  pub each_server-set : (server : ℕ) (forest : List Server) (new : Server)
      → each_server f (set forest server new) ≡ set (each_server f forest) server (f server new)
  each_server-set server forest new = each_from-set 0 server server forest new (omega arith)

  each_from-kept : (from k at : ℕ) (ss : List Server) (new : Server) → at ≡ from + k
      → f at new ≡ f at (server_at k ss) → each_from from (set ss k new) ≡ each_from from ss
  each_from-kept from k at [] new e same = refl
  each_from-kept from zero at (s ∷ ss) new e same =
      let here : at ≡ from = omega arith in
      ap (λ first. first ∷ each_from (from + 1) ss) (rw here at same)
  each_from-kept from (suc k) at (s ∷ ss) new e same =
      ap (λ rest. f from s ∷ rest) (each_from-kept (from + 1) k at ss new (omega arith) same)

  -- of a server of which the same is made
  pub each_server-kept : (server : ℕ) (forest : List Server) (new : Server)
      → f server new ≡ f server (server_at server forest)
      → each_server f (set forest server new) ≡ each_server f forest
  each_server-kept server forest new same =
      each_from-kept 0 server server forest new (omega arith) same

module _ {X : Type 0} (f g : ℕ → Server → X) where
  each_from-agree : (from : ℕ) (ss : List Server)
      → ((k at : ℕ) (s : Server) → at ≡ from + k → slice_get ss k ≡ Some s → f at s ≡ g at s)
      → each_from f from ss ≡ each_from g from ss
  each_from-agree from [] h = refl
  each_from-agree from (s ∷ ss) h =
      rw (
        h 0 from s (omega arith) refl,
        each_from-agree (from + 1) ss (λ k at t e found. h (suc k) at t (omega arith) found),
      ) refl

  -- two functions that agree at each server
  pub each_server-agree : (forest : List Server)
      → ((server : ℕ) (s : Server) → slice_get forest server ≡ Some s → f server s ≡ g server s)
      → each_server f forest ≡ each_server g forest
  each_server-agree forest h =
      each_from-agree 0 forest
      (λ k at s e found. let same : at ≡ k = omega arith in rw same (h k s found))
