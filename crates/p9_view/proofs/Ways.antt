-- The ways that lead on from a place, member by member.
use Rattle.std.proofs.Common.{◌≡◌, ℕ, ◌+◌, ◌≤◌, Bool, cond, List, []}
use Rattle.std.proofs.Common.{◌∷◌, ◌++◌, Option, Some, None, length, map, take, drop, refl, sym, ap, ◌∙◌}
use Rattle.std.proofs.Common.{append_assoc, append-nil, is_some}
use Rattle.std.specs.Prelude.{filter}
use Rattle.std.specs.Option.{option_or}
use Rattle.std.proofs.lemmas.List.{drop_all}
use Rattle.p9_base.specs.declared.node_ref.NodeRef.{NodeRef}
use Rattle.p9_tree.specs.Node.{Node}
use Rattle.p9_tree.specs.Server.{Server}
use Rattle.p9_tree.specs.Forest.{children_of}
use Rattle.p9_table.specs.declared.row.Member.{Member}
use Rattle.p9_space.specs.Rights.{Who}
use Rattle.p9_space.specs.Table.{MountRow}
use Rattle.p9_space.specs.Walk.{child_among, child_ref, is_searched, named_child}
use Rattle.p9_view.specs.declared.way.Way.{Way}
use Rattle.p9_view.specs.Passing.{is_passed}
use Rattle.p9_view.specs.Way.{access_by, arrives, way_by, ways_among, ways_into, ways_through}
use Rattle.p9_view.proofs.Finds.{or-none}

-- tests of names that agree make the same ways
module _ (p q : List ℕ → Bool) (same : (name : List ℕ) → p name ≡ q name) (searched : Bool)
    (dir : NodeRef) where
  ways-agree : (ns : List Node) → map (way_by p searched dir) ns ≡ map (way_by q searched dir) ns
  ways-agree [] = refl
  ways-agree (n ∷ ns) =
      ap (λ b. (record {
        name = n.name;
        place = record { server = dir.server; number = n.number };
        access = access_by b searched;
      }) ∷ map (way_by p searched dir) ns) (same n.name)
      ∙ ap (λ ws. way_by q searched dir n ∷ ws) (ways-agree ns)

  pub ways_into-agree : (forest : List Server) (table : List MountRow)
      → ways_into forest table p searched dir ≡ ways_into forest table q searched dir
  ways_into-agree forest table =
      ap (filter (arrives forest table)) (ways-agree (children_of dir forest))

or-or : {X : Type 0} (a b c : Option X) → option_or (option_or a b) c ≡ option_or a (option_or b c)
or-or None b c = refl
or-or (Some x) b c = refl

-- a member more
pub child_among-more : (forest : List Server) (who : Option Who) (name : List ℕ)
    (ms : List Member) (m : Member)
    → option_or (child_among forest who name ms) (named_child forest who (Some name) m)
    ≡ child_among forest who name (ms ++ m ∷ [])
child_among-more forest who name [] m =
    sym (or-none (named_child forest who (Some name) m))
child_among-more forest who name (x ∷ xs) m =
    or-or (cond (is_searched forest who x) (child_ref forest x.node name) None)
    (child_among forest who name xs) (named_child forest who (Some name) m)
    ∙ ap (λ o. option_or (cond (is_searched forest who x) (child_ref forest x.node name) None) o)
    (child_among-more forest who name xs m)

module _ (forest : List Server) (table : List MountRow) (who : Option Who) where
  -- the ways through the next member
  pub through-agree : (behind : List ℕ → Bool) (earlier : List Member) (m : Member)
      → ((name : List ℕ) → behind name ≡ is_some (child_among forest who name earlier))
      → cond (is_passed forest who m)
      (ways_into forest table behind (is_searched forest who m) m.node) []
      ≡ ways_through forest table who earlier m
  through-agree behind earlier m same =
      ap (λ ws. cond (is_passed forest who m) ws [])
      (ways_into-agree behind (λ name. is_some (child_among forest who name earlier)) same
      (is_searched forest who m) m.node forest table)

  module _ (ms : List Member) (i : ℕ) (m : Member) (behind : List ℕ → Bool) (old new all : List Way)
      (at : drop i ms ≡ m ∷ drop (i + 1) ms) (took : take (i + 1) ms ≡ take i ms ++ m ∷ [])
      (same : (name : List ℕ) → behind name ≡ is_some (child_among forest who name (take i ms)))
      (is : new ≡ old ++ cond (is_passed forest who m)
      (ways_into forest table behind (is_searched forest who m) m.node) [])
      (kept : old ++ ways_among forest table who (take i ms) (drop i ms) ≡ all) where
    pub among-more : new ++ ways_among forest table who (take (i + 1) ms) (drop (i + 1) ms) ≡ all
    among-more =
        let rest = ways_among forest table who (take i ms ++ m ∷ []) (drop (i + 1) ms) in
        ap (λ xs. new ++ ways_among forest table who xs (drop (i + 1) ms)) took
        ∙ ap (λ ws. ws ++ rest)
        (is ∙ ap (λ ws. old ++ ws) (through-agree behind (take i ms) m same))
        ∙ append_assoc old (ways_through forest table who (take i ms) m) rest
        ∙ ap (λ xs. old ++ ways_among forest table who (take i ms) xs) (sym at)
        ∙ kept

  pub among-end : (ms : List Member) (i : ℕ) (old all : List Way) → length ms ≤ i
      → old ++ ways_among forest table who (take i ms) (drop i ms) ≡ all → old ≡ all
  among-end ms i old all past kept =
      sym (append-nil old)
      ∙ ap (λ xs. old ++ ways_among forest table who (take i ms) xs) (sym (drop_all i ms past))
      ∙ kept
