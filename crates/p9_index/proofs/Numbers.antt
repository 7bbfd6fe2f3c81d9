-- What the maps of a tree say of the look-ups in the list of its nodes.
use Rattle.std.proofs.Common.{◌≡◌, ℕ, ◌<◌, Bool, true, false, ◌&&◌, List, Option}
use Rattle.std.proofs.Common.{Some, None, refl, sym, ap, ◌∙◌, subst, arith, AllPairs}
use Rattle.std.specs.List.{find}
use Rattle.std.specs.Map.{values_of}
use Rattle.std.specs.Option.{option_map, option_map_or}
use Rattle.std.proofs.lemmas.Bool.{and_parts}
use Rattle.p9_index.specs.declared.entries.Entries.{Entries}
use Rattle.p9_index.specs.Entries.{IsLeast, IsNoneAbove, child_at, exceeds, is_listed, number_at}
use Rattle.p9_index.specs.Tree.{IsIndex}
use Rattle.p9_index.proofs.Finds.{found_upto}
use Rattle.p9_tree.specs.declared.node.Entry.{Entry}
use Rattle.p9_tree.specs.Node.{Node, is_above, is_child, is_in}
use Rattle.p9_tree.specs.Server.{child_after, child_of, node_at}
use Rattle.p9_tree.proofs.Lookups.{node_at-found, number-node_at, passes-found}

module _ {Z : Type 0} (es : List (ℕ × Node)) (s : Entries Z)
    (index : IsIndex es (is_listed s) (number_at s))
    (rising : AllPairs (λ m n. m.number < n.number) (values_of es)) where
  -- the number of an entry is that of the node that is there
  pub number_at-child : (e : Entry)
      → number_at s e ≡ option_map (λ n. n.number) (child_of e.parent e.name (values_of es))
  number_at-child e =
      elim (child_of e.parent e.name (values_of es)) as
      (λ o. child_of e.parent e.name (values_of es) ≡ o
      → number_at s e ≡ option_map (λ (n : Node). n.number) o) [
        | Some n ↦ λ found.
            (index.named e n.number).1
            (ap (λ o. option_map_or (is_child e.parent e.name) o false)
            (node_at-found (is_child e.parent e.name) (values_of es) n rising found)
            ∙ passes-found (is_child e.parent e.name) (values_of es) n found)
        | None ↦ λ none. unnamed none (number_at s e) refl
      ] refl
    where
      stands : (k : ℕ) (o : Option Node) → node_at k (values_of es) ≡ o
          → option_map_or (is_child e.parent e.name) o false ≡ true
          → child_of e.parent e.name (values_of es) ≡ None → ⊥
      stands k None at is none = cc
      stands k (Some n) at is none =
          let m = found_upto (is_child e.parent e.name) k (values_of es) n rising at is in
          let found : child_of e.parent e.name (values_of es) ≡ Some m.0 = m.1 in cc

      unnamed : child_of e.parent e.name (values_of es) ≡ None → (o : Option ℕ) → number_at s e ≡ o
          → o ≡ None
      unnamed none None is = refl
      unnamed none (Some k) is =
          absurd (stands k (node_at k (values_of es)) refl ((index.named e k).0 is) none)

  module _ (dir : ℕ) (floor : Option ℕ) where
    abbrev passes : Node → Bool
    passes n = is_in dir n && is_above floor n

    -- a child that is listed is found by its number, and is in the directory
    there : (k : ℕ) → is_listed s (child_at dir k) ≡ true
        → (n : Node) × (node_at k (values_of es) ≡ Some n) × (is_in dir n ≡ true) × (n.number ≡ k)
    there k is =
        elim (node_at k (values_of es)) as
        (λ o. node_at k (values_of es) ≡ o → option_map_or (is_in dir) o false ≡ true
        → (n : Node) × (node_at k (values_of es) ≡ Some n) × (is_in dir n ≡ true) × (n.number ≡ k)) [
          | None ↦ λ at none. absurd (cc)
          | Some n ↦ λ at in_dir. (n, at, in_dir, number-node_at k (values_of es) n at)
        ] refl (sym (index.listed (child_at dir k)) ∙ is)

    -- the node that is found is listed
    found_listed : (n : Node) → find passes (values_of es) ≡ Some n
        → (is_listed s (child_at dir n.number) ≡ true) × (exceeds floor n.number ≡ true)
    found_listed n found =
        let both = and_parts _ _ (passes-found passes (values_of es) n found) in (
          index.listed (child_at dir n.number)
              ∙ ap (λ o. option_map_or (is_in dir) o false)
              (node_at-found passes (values_of es) n rising found) ∙ both.0,
          both.1,
        )

    -- the least number that is listed above the floor is that of the node to be found
    pub least_child : (k : ℕ) → IsLeast dir floor k s
        → Some k ≡ option_map (λ n. n.number) (child_after dir floor (values_of es))
    least_child k l =
        let n = there k l.listed in
        let pass : passes n.0 ≡ true =
        rw n.2 (subst (λ j. exceeds floor j ≡ true) (sym n.3) l.above) in
        let m = found_upto passes k (values_of es) n.0 rising n.1 pass in
        let first = found_listed m.0 m.1 in
        let same : k ≡ m.0.number = omega (arith, m.2, l.least m.0.number first.0 first.1) in
        ap Some same ∙ sym (ap (option_map (λ (n : Node). n.number)) m.1)

    -- and where none is listed, none is found
    pub no_child : IsNoneAbove dir floor s
        → None ≡ option_map (λ n. n.number) (child_after dir floor (values_of es))
    no_child none =
        elim (find passes (values_of es)) as
        (λ o. find passes (values_of es) ≡ o → None ≡ option_map (λ (n : Node). n.number) o) [
          | None ↦ λ at. refl
          | Some n ↦ λ at.
              let first = found_listed n at in
              let absent = none n.number first.1 in absurd (cc)
        ] refl
