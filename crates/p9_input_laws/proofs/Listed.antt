-- The directories of a closed set as a list: a certificate without a gap.
use Rattle.std.proofs.Common.{◌≡◌, ℕ, zero, suc, ◌+◌, ◌<◌, ◌≤◌, Bool, true, false, List, [], ◌∷◌}
use Rattle.std.proofs.Common.{◌++◌, Some, None, All, AllPairs, get_or, length, slice_get}
use Rattle.std.proofs.Common.{refl, sym, ap, ◌∙◌, subst, arith}
use Rattle.std.specs.Prelude.{◌&&◌, ◌||◌, ◌==◌, filter, map, nat_lt, if◌then◌else◌}
use Rattle.std.proofs.lemmas.Bool.{and_from, and_parts, or_left, or_right}
use Rattle.std.proofs.lemmas.Bool.Decides.{nat_tests}
use Rattle.std.proofs.lemmas.List.Elements.{All-append, All-filter, All-head, All-map, All-nil}
use Rattle.std.proofs.lemmas.List.Elements.{All-tail, All-weaker}
use Rattle.std.proofs.lemmas.List.Folds.{list_any-append}
use Rattle.std.proofs.lemmas.List.Kept.{AllPairs-cons, AllPairs-filter}
use Rattle.p9_base.specs.declared.node_ref.NodeRef.{NodeRef}
use Rattle.p9_base.specs.NodeRef.{same_node, servers_max}
use Rattle.p9_tree.specs.Node.{Node}
use Rattle.p9_tree.specs.Server.{Server, WellFormed, node_at}
use Rattle.p9_tree.specs.Forest.{IsForest, node_of, server_at}
use Rattle.p9_inside.proofs.Facts.{lt_test}
use Rattle.p9_tree.proofs.Lookups.{rising_head, rising_tail}
use Rattle.p9_space.specs.Place.{root_place}
use Rattle.p9_space.specs.Table.{MountRow, members_of}
use Rattle.p9_table.specs.declared.row.Member.{Member}
use Rattle.p9_cert.specs.Closed.{IsClosed}
use Rattle.p9_cert.specs.Gap.{first_gap}
use Rattle.p9_cert.specs.Policy.{Policy}
use Rattle.p9_cert.specs.Rows.{IsCertificate, IsRow, is_below, is_row}
use Rattle.p9_cert.specs.Safe.{IsSafe, IsSafeMember, Set}
use Rattle.p9_policy.proofs.Basics.{not_some, same_ref}
use Rattle.p9_cert.proofs.Gaps.{no_gap_is_closed}
use Rattle.p9_guard_laws.proofs.Basics.{each_weaker}
use Rattle.p9_guard_laws.proofs.Stays.{dir_there}

-- The nodes of a forest.

abbrev nodes_on : ℕ → List Node → List NodeRef
nodes_on server nodes = map (λ (n : Node). record { server = server; number = n.number }) nodes

-- of servers whose numbers begin with this one
abbrev nodes_from : ℕ → List Server → List NodeRef
nodes_from from [] = []
nodes_from from (s ∷ ss) = nodes_on from s.nodes ++ nodes_from (from + 1) ss

-- those that are in the set
abbrev pub rows_of : List Server → Set → List NodeRef
rows_of forest certified = filter certified (nodes_from 0 forest)

on-server : (server number : ℕ) (nodes : List Node) (x : Node) → node_at number nodes ≡ Some x
    → is_row (nodes_on server nodes) (record { server = server; number = number }) ≡ true
on-server server number [] x e = not_some x e
on-server server number (n ∷ nodes) x e =
    go (n.number == number) refl e (on-server server number nodes x)
  where
    rest : Bool
    rest = is_row (nodes_on server nodes) (record { server = server; number = number })

    self : (server == server) ≡ true
    self = grind (arith, nat_tests)

    go : (b : Bool) → (n.number == number) ≡ b
        → (if b then Some n else node_at number nodes) ≡ Some x
        → (node_at number nodes ≡ Some x → rest ≡ true)
        → (((server == server) && (n.number == number)) || rest) ≡ true
    go true t found later = or_left _ rest (and_from (server == server) (n.number == number) self t)
    go false t found later = or_right _ rest (later found)

in-forest : (from k at : ℕ) (ss : List Server) (number : ℕ) (x : Node) → at ≡ from + k
    → node_at number (server_at k ss).nodes ≡ Some x
    → is_row (nodes_from from ss) (record { server = at; number = number }) ≡ true
in-forest from k at [] number x same e = not_some x e
in-forest from zero at (s ∷ ss) number x same e =
    let here : from ≡ at = omega arith in
    list_any-append _ (nodes_on from s.nodes) (nodes_from (from + 1) ss)
    ∙ or_left _ _
    (subst (λ (server : ℕ).
    is_row (nodes_on from s.nodes) (record { server = server; number = number }) ≡ true) here
    (on-server from number s.nodes x e))
in-forest from (suc k) at (s ∷ ss) number x same e =
    list_any-append _ (nodes_on from s.nodes) (nodes_from (from + 1) ss)
    ∙ or_right _ _ (in-forest (from + 1) k at ss number x (omega arith) e)

-- each node of a forest is among its nodes
among-nodes : (forest : List Server) (at : NodeRef) (x : Node) → node_of at forest ≡ Some x
    → is_row (nodes_from 0 forest) at ≡ true
among-nodes forest at x e = in-forest 0 at.server at.server forest at.number x (omega arith) e

-- what is kept of a list
row-kept : (certified : Set) (rows : List NodeRef) (at : NodeRef)
    → is_row (filter certified rows) at ≡ (certified at && is_row rows at)
row-kept certified [] at = go (certified at)
  where
    go : (b : Bool) → false ≡ (b && false)
    go true = refl
    go false = refl
row-kept certified (row ∷ rows) at =
    go (certified row) refl (same_node row at) refl (row-kept certified rows at)
  where
    go : (c : Bool) → certified row ≡ c → (s : Bool) → same_node row at ≡ s
        → is_row (filter certified rows) at ≡ (certified at && is_row rows at)
        → is_row (if c then row ∷ filter certified rows else filter certified rows) at
        ≡ (certified at && (s || is_row rows at))
    go c e true t later = same c (sym (ap certified (same_ref row at t)) ∙ e)
      where
        same : (c : Bool) → certified at ≡ c
            → is_row (if c then row ∷ filter certified rows else filter certified rows) at
            ≡ (certified at && (true || is_row rows at))
        same true here = rw (t, here) refl
        same false here = later ∙ rw here refl
    go true e false t later = rw t later
    go false e false t later = later

-- Rows rise, and each is a node's.

abbrev Before : NodeRef → NodeRef → Type 0
Before a b = is_below a b ≡ true

rising-on : (server : ℕ) (nodes : List Node) → AllPairs (λ m n. m.number < n.number) nodes
    → AllPairs Before (nodes_on server nodes)
rising-on server [] rising = λ i j d lt within. absurd (omega arith)
rising-on server (n ∷ nodes) rising =
    AllPairs-cons Before first (nodes_on server nodes)
    (All-map (Before first) (λ (m : Node). record { server = server; number = m.number }) nodes
    (All-weaker (λ (m : Node). n.number < m.number)
    (λ (m : Node). Before first (record { server = server; number = m.number })) below nodes
    (rising_head n nodes rising)))
    (rising-on server nodes (rising_tail n nodes rising))
  where
    first : NodeRef
    first = record { server = server; number = n.number }

    self : (server == server) ≡ true
    self = grind (arith, nat_tests)

    below : (m : Node) → n.number < m.number
        → Before first (record { server = server; number = m.number })
    below m lt =
        or_right (nat_lt server server) _
        (and_from (server == server) (nat_lt n.number m.number) self
        (lt_test n.number m.number lt))

rising-append : (xs ys : List NodeRef) → AllPairs Before xs → AllPairs Before ys
    → All (λ x. All (Before x) ys) xs → AllPairs Before (xs ++ ys)
rising-append [] ys rising later across = later
rising-append (x ∷ xs) ys rising later across =
    AllPairs-cons Before x (xs ++ ys)
    (All-append (Before x) xs ys (λ j d within. rising 0 (suc j) d (omega arith) (omega arith))
    (All-head (λ x. All (Before x) ys) x xs across))
    (rising-append xs ys
    (λ i j d lt within. rising (suc i) (suc j) d (omega arith) (omega arith)) later
    (All-tail (λ x. All (Before x) ys) x xs across))

-- the servers of nodes have numbers from this one on
later-from : (from : ℕ) (ss : List Server) → All (λ at. from ≤ at.server) (nodes_from from ss)
later-from from [] = All-nil _
later-from from (s ∷ ss) =
    All-append (λ (at : NodeRef). from ≤ at.server) (nodes_on from s.nodes)
    (nodes_from (from + 1) ss)
    (All-map (λ (at : NodeRef). from ≤ at.server)
    (λ (n : Node). record { server = from; number = n.number }) s.nodes
    (λ j d within. omega arith))
    (All-weaker (λ (at : NodeRef). from + 1 ≤ at.server) (λ (at : NodeRef). from ≤ at.server)
    (λ at le. omega arith) (nodes_from (from + 1) ss) (later-from (from + 1) ss))

rising-from : (from : ℕ) (ss : List Server)
    → ((k : ℕ) (s : Server) → slice_get ss k ≡ Some s → WellFormed s)
    → AllPairs Before (nodes_from from ss)
rising-from from [] each = λ i j d lt within. absurd (omega arith)
rising-from from (s ∷ ss) each =
    rising-append (nodes_on from s.nodes) (nodes_from (from + 1) ss)
    (rising-on from s.nodes (each 0 s refl).rising)
    (rising-from (from + 1) ss (λ k t at. each (suc k) t at))
    (All-map (λ (at : NodeRef). All (Before at) (nodes_from (from + 1) ss))
    (λ (n : Node). record { server = from; number = n.number }) s.nodes
    (λ j d within. across (get_or s.nodes j d)))
  where
    across : (n : Node)
        → All (Before (record { server = from; number = n.number })) (nodes_from (from + 1) ss)
    across n =
        All-weaker (λ (at : NodeRef). from + 1 ≤ at.server)
        (Before (record { server = from; number = n.number }))
        (λ at le. or_left (nat_lt from at.server) _ (lt_test from at.server (omega arith)))
        (nodes_from (from + 1) ss) (later-from (from + 1) ss)

sound-from : (from : ℕ) (ss : List Server)
    → ((k : ℕ) (s : Server) → slice_get ss k ≡ Some s → WellFormed s)
    → from + length ss ≤ servers_max → All IsRow (nodes_from from ss)
sound-from from [] each few = All-nil IsRow
sound-from from (s ∷ ss) each few =
    All-append IsRow (nodes_on from s.nodes) (nodes_from (from + 1) ss)
    (All-map IsRow (λ (n : Node). record { server = from; number = n.number }) s.nodes
    (All-weaker (λ (n : Node). n.number < s.next)
    (λ (n : Node). IsRow (record { server = from; number = n.number }))
    (λ n lt. let top = (each 0 s refl).few in (omega arith, omega arith)) s.nodes
    (each 0 s refl).below))
    (sound-from (from + 1) ss (λ k t at. each (suc k) t at) (omega arith))

pub certificate-listed : (forest : List Server) → IsForest forest → (certified : Set)
    → IsCertificate (rows_of forest certified)
certificate-listed forest w certified = record {
  rising =
      AllPairs-filter Before certified (nodes_from 0 forest) (rising-from 0 forest w.servers);
  sound =
      All-filter certified IsRow (nodes_from 0 forest)
      (sound-from 0 forest w.servers (let few = w.few in omega arith));
}

-- They are closed where the set is.

module _ (policy : Policy) (forest : List Server) (table : List MountRow) (certified : Set)
    (closed : IsClosed policy forest table certified) where
  to : (at : NodeRef) → certified at ≡ true → is_row (rows_of forest certified) at ≡ true
  to at t =
      let there = dir_there forest at (closed.rows at t).dir in
      row-kept certified (nodes_from 0 forest) at
      ∙ and_from (certified at) (is_row (nodes_from 0 forest) at) t
      (among-nodes forest at there.0 there.1)

  back : (at : NodeRef) → is_row (rows_of forest certified) at ≡ true → certified at ≡ true
  back at t =
      (and_parts (certified at) (is_row (nodes_from 0 forest) at)
      (sym (row-kept certified (nodes_from 0 forest) at) ∙ t)).0

  safe-listed : (place : NodeRef) → IsSafe policy forest table certified place
      → IsSafe policy forest table (is_row (rows_of forest certified)) place
  safe-listed place =
      each_weaker (λ (m : Member). IsSafeMember policy forest certified m.node)
      (λ (m : Member). IsSafeMember policy forest (is_row (rows_of forest certified)) m.node)
      (λ (m : Member) s. record {
        outside = s.outside;
        shut = s.shut;
        guarded = s.guarded;
        covered = λ n e pass. to m.node (s.covered n e pass);
      }) (members_of place table)

  closed-listed : IsClosed policy forest table (is_row (rows_of forest certified))
  closed-listed = record {
    given = closed.given;
    rows = λ at row. closed.rows at (back at row);
    root = safe-listed root_place closed.root;
    children = λ at k n row e in_at. safe-listed _ (closed.children at k n (back at row) e in_at);
  }

  pub no-gap-listed : IsForest forest
      → first_gap policy forest table (rows_of forest certified) ≡ None
  no-gap-listed w =
      (no_gap_is_closed policy forest table (rows_of forest certified) w).1 closed-listed
