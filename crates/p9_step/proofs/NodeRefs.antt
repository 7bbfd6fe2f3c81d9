-- References to nodes, whose numbers were given or are still to be given.
use Rattle.std.proofs.Common.{Bool, List, None, Option, Some, [], ap, arith, false, length, refl}
use Rattle.std.proofs.Common.{subst, sym, true, ℕ, ◌++◌, ◌-◌, ◌<◌, ◌∙◌, ◌∷◌, ◌≡◌}
use Rattle.std.proofs.Math.Seq.{get_or-append_seam}
use Rattle.std.proofs.lemmas.Bool.{and_parts}
use Rattle.std.proofs.lemmas.Bool.Decides.{nat_tests}
use Rattle.std.proofs.lemmas.List.{length-append}
use Rattle.std.specs.List.{list_all}
use Rattle.std.specs.Prelude.{slice_get, unwrap_or, ◌==◌}
use Rattle.p9_base.specs.NodeRef.{same_node}
use Rattle.p9_base.specs.declared.node_ref.NodeRef.{NodeRef}
use Rattle.p9_tree.specs.Forest.{IsForest, next_of, no_server, node_of, server_at}
use Rattle.p9_tree.specs.Node.{Node}
use Rattle.p9_tree.specs.Server.{Server, node_at}
use Rattle.p9_tree.proofs.Lookups.{All-node_at, number-node_at}
use Rattle.p9_space.specs.Given.{is_given, is_row_given, is_table_given}
use Rattle.p9_space.specs.Place.{file_ref}
use Rattle.p9_space.specs.Table.{MountRow, row_of}
use Rattle.p9_space.specs.Trail.{here}
use Rattle.p9_step.proofs.Evolves.{server_well}
use Rattle.p9_step.proofs.Members.{IsMember, member-node_at}

-- the number of a node that exists was given
pub node_of-given : (forest : List Server) (at : NodeRef) (n : Node) → IsForest forest
    → node_of at forest ≡ Some n → at.number < next_of at.server forest
node_of-given forest at n sound found = go (slice_get forest at.server) refl
  where
    go : (o : Option Server) → slice_get forest at.server ≡ o → at.number < next_of at.server forest
    go None e = let none : None ≡ Some n = rw e at found in absurd (cc)
    go (Some s) e =
        let here : node_at at.number s.nodes ≡ Some n = rw e at found in
        let below : n.number < s.next =
        All-node_at (λ m. m.number < s.next) at.number s.nodes n
        (sound.servers at.server s e).below here in
        let same : n.number ≡ at.number = number-node_at at.number s.nodes n here in
        subst (λ p. at.number < (unwrap_or p no_server).next) (sym e)
        (subst (λ k. k < s.next) same below)

-- so was that of any member
pub member-given : (forest : List Server) (k : ℕ) (n : Node) → IsForest forest
    → IsMember n (server_at k forest).nodes → n.number < next_of k forest
member-given forest k n sound there =
    let well = server_well forest k n sound there in
    let found = member-node_at n (server_at k forest).nodes well.rising there in
    All-node_at (λ m. m.number < (server_at k forest).next) n.number (server_at k forest).nodes n
    well.below found

-- two references to one node are one
pub same-is : (a b : NodeRef) → same_node a b ≡ true → a ≡ b
same-is a b e =
    let parts = and_parts (a.server == b.server) (a.number == b.number) e in
    let servers : a.server ≡ b.server = grind (arith, nat_tests) in
    let numbers : a.number ≡ b.number = grind (arith, nat_tests) in
    ap (λ s. record { server = s; number = a.number }) servers ∙ ap (λ k. record {
      server = b.server;
      number = k;
    }) numbers

-- a number that is still to be given is no key
pub no-row : (forest : List Server) (table : List MountRow) (at : NodeRef)
    → is_table_given forest table ≡ true → at.number ≡ next_of at.server forest
    → row_of at table ≡ None
no-row forest [] at below new = refl
no-row forest (row ∷ rows) at below new =
    let parts = and_parts (is_row_given forest row) (is_table_given forest rows) below in
    let here =
    and_parts (is_given forest row.0) (list_all (λ m. is_given forest m.node) row.1) parts.0 in
    go (same_node at row.0) refl here.0 (no-row forest rows at parts.1 new)
  where
    go : (b : Bool) → same_node at row.0 ≡ b → is_given forest row.0 ≡ true → row_of at rows ≡ None
        → row_of at (row ∷ rows) ≡ None
    go true e given later =
        let its : is_given forest at
        ≡ true = subst (λ r. is_given forest r ≡ true) (sym (same-is at row.0 e)) given in
        absurd (grind (arith, nat_tests))
    go false e given later = rw e later

-- so it is its own file
pub new-file : (forest : List Server) (table : List MountRow) (at : NodeRef)
    → is_table_given forest table ≡ true → at.number ≡ next_of at.server forest
    → file_ref at table ≡ at
new-file forest table at below new = rw (no-row forest table at below new) refl

-- a trail ends at the place that was pushed
pub here-pushed : (trail : List NodeRef) (at : NodeRef) → here (trail ++ at ∷ []) ≡ at
here-pushed trail at =
    let last : length (trail ++ at ∷ []) - 1 ≡ length trail = omega (arith, length-append trail) in
    rw last (get_or-append_seam trail at [] (record { server = 0; number = 0 }))
