-- The order of all nodes: each directory, and then what is in it.
use Rattle.std.specs.Prelude.{◌≡◌, ℕ, zero, suc, ◌+◌, ◌-◌, ◌^◌, ◌==◌, List, [], ◌∷◌, Option, Some, None, min}
use Rattle.std.specs.Prelude.{if◌then◌else◌, option_and_then, option_map}
use Rattle.std.specs.Option.{option_or}
use Rattle.p9_base.specs.declared.node_ref.NodeRef.{NodeRef}
use Rattle.p9_base.specs.NodeRef.{beside}
use Rattle.p9_tree.specs.Forest.{child_in_after, node_of}
use Rattle.p9_tree.specs.Server.{Server}
use Rattle.p9_map.specs.declared.order.Spot.{Spot}

-- one directory deeper, as far as a number of 64 bits goes
abbrev pub deeper : ℕ → ℕ
deeper depth = min (depth + 1) (2 ^ 64 - 1)

module _ (forest : List Server) where
  -- the child of least number above the floor, which is in so many directories
  abbrev pub child_spot : NodeRef → Option ℕ → (depth : ℕ) → Option Spot
  child_spot dir floor depth =
      option_map (λ n. record { node = beside dir n.number; depth = depth })
      (child_in_after dir floor forest)

  -- the root of a server
  abbrev pub root_spot : ℕ → Option Spot
  root_spot server =
      let root : NodeRef = record { server = server; number = 0 } in
      option_map (λ n. record { node = root; depth = 0 }) (node_of root forest)

  -- the directory that a node is in
  abbrev pub dir_of : NodeRef → Option NodeRef
  dir_of at = option_map (beside at) (option_and_then (λ n. n.parent) (node_of at forest))

  -- the next node beside this one, or beside the nearest of so many directories above it
  unfoldable pub next_beside : ℕ → Spot → Option Spot
  next_beside zero s = None
  next_beside (suc left) s =
      option_and_then
      (λ dir. option_or (child_spot dir (Some s.node.number) s.depth)
      (next_beside left (record { node = dir; depth = s.depth - 1 })))
      (dir_of s.node)

  -- the root of the next server
  abbrev pub next_root : ℕ → Option Spot
  next_root server = if server == 2 ^ 16 - 1 then None else root_spot (server + 1)

  -- what comes after a node: the first that is in it, or else the next beside it or beside a directory
  -- above it, or else the next root. A directory has a smaller number than what is in it, so there
  -- are no more above a node than its number says
  unfoldable pub next_spot : Spot → Option Spot
  next_spot s =
      option_or (child_spot s.node None (deeper s.depth))
      (option_or (next_beside s.node.number s) (next_root s.node.server))

  -- the nodes from one on, each followed by what comes after it; and what comes after the last
  abbrev pub Leads : Option Spot → List Spot → Option Spot → Type 0
  Leads first [] next = first ≡ next
  Leads first (s ∷ ss) next = (first ≡ Some s) × Leads (next_spot s) ss next

  -- all nodes, from the root of the first server on
  abbrev pub AreAll : List Spot → Type 0
  AreAll spots = Leads (root_spot 0) spots None
