-- A text that is no valid name belongs to no node.
use Rattle.std.proofs.Common.{◌≡◌, ℕ, ◌<◌, ◌==◌, ◌&&◌, Bool, true, false, IsTrue, cond, List}
use Rattle.std.proofs.Common.{[], ◌∷◌, Option, Some, None, slice_get, unwrap_or, refl, sym, subst}
use Rattle.std.proofs.Common.{true≢false, arith, All, AllPairs}
use Rattle.std.specs.Option.{option_map_or, option_or}
use Rattle.std.specs.Str.{bytes_eq}
use Rattle.std.proofs.lemmas.Bool.Decides.{nat_tests}
use Rattle.std.proofs.lemmas.Slice.Eq.{bytes_eq-Decides}
use Rattle.std.proofs.lemmas.List.Elements.{All-head, All-tail, All-weaker}
use Rattle.p9_base.specs.Name.{is_name}
use Rattle.p9_base.specs.declared.node_ref.NodeRef.{NodeRef}
use Rattle.p9_tree.specs.Node.{Node, is_child}
use Rattle.p9_tree.specs.Server.{Server, IsSound, node_at, child_of}
use Rattle.p9_tree.specs.Forest.{IsForest, no_server, child_in}
use Rattle.p9_tree.proofs.Lookups.{each_found}
use Rattle.p9_table.specs.Rights.{Who}
use Rattle.p9_table.specs.declared.row.Member.{Member}
use Rattle.p9_space.specs.Walk.{is_searched, child_ref, child_among}

-- where each node that a look-up finds is sound, each node is
All-sound : (xs : List Node) → AllPairs (λ m n. m.number < n.number) xs
    → ((k : ℕ) (n : Node) → node_at k xs ≡ Some n → IsSound n) → All IsSound xs
All-sound xs rising sound =
    All-weaker (λ n. node_at n.number xs ≡ Some n) IsSound (λ n e. sound n.number n e) xs
    (each_found xs rising)

-- a child's name is valid
child-valid : (dir : ℕ) (name : List ℕ) (n : Node) → IsSound n → is_child dir name n ≡ true
    → IsTrue (is_name name)
child-valid dir name n sound child = by n.parent refl child
  where
    by : (p : Option ℕ) → n.parent ≡ p
        → (option_map_or (λ parent. parent == dir) p false && bytes_eq n.name name) ≡ true
        → IsTrue (is_name name)
    by None e h = absurd (true≢false (sym h))
    by (Some p) e h =
        let same : bytes_eq n.name name ≡ true = grind (arith, nat_tests) in
        subst (λ s. IsTrue (is_name s)) ((bytes_eq-Decides n.name name).0 same)
        (sound.valid_name p e)

-- no child has a name that isn't valid
child_of-invalid : (dir : ℕ) (name : List ℕ) → (IsTrue (is_name name) → ⊥) → (xs : List Node)
    → All IsSound xs → child_of dir name xs ≡ None
child_of-invalid dir name bad [] sound = refl
child_of-invalid dir name bad (x ∷ xs) sound =
    by (is_child dir name x) refl (child_of-invalid dir name bad xs (All-tail IsSound x xs sound))
  where
    by : (b : Bool) → is_child dir name x ≡ b → child_of dir name xs ≡ None
        → cond b (Some x) (child_of dir name xs) ≡ None
    by true e rest = absurd (bad (child-valid dir name x (All-head IsSound x xs sound) e))
    by false e rest = rest

child_in-invalid : (forest : List Server) → IsForest forest → (dir : NodeRef) (name : List ℕ)
    → (IsTrue (is_name name) → ⊥) → child_in dir name forest ≡ None
child_in-invalid forest sound dir name bad = by (slice_get forest dir.server) refl
  where
    by : (s : Option Server) → slice_get forest dir.server ≡ s
        → child_of dir.number name (unwrap_or s no_server).nodes ≡ None
    by None e = refl
    by (Some s) e =
        let whole = sound.servers dir.server s e in
        child_of-invalid dir.number name bad s.nodes (All-sound s.nodes whole.rising whole.sound)

-- so no member of a place has such a child
pub child_among-invalid : (forest : List Server) (who : Option Who) (name : List ℕ)
    → IsForest forest → (IsTrue (is_name name) → ⊥) → (ms : List Member)
    → child_among forest who name ms ≡ None
child_among-invalid forest who name sound bad [] = refl
child_among-invalid forest who name sound bad (m ∷ ms) =
    by (is_searched forest who m) (child_in-invalid forest sound m.node name bad)
    (child_among-invalid forest who name sound bad ms)
  where
    by : (b : Bool) → child_in m.node name forest ≡ None → child_among forest who name ms ≡ None
        → option_or (cond b (child_ref forest m.node name) None) (child_among forest who name ms)
        ≡ None
    by true none rest = rw (none, rest)
    by false none rest = rest
