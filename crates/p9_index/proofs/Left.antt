-- A node that leaves a tree.
use Rattle.std.proofs.Common.{◌≡◌, ◌≢◌, ℕ, true, false, cond, eqb, List, Option, Some, None}
use Rattle.std.proofs.Common.{IsFalse, refl, sym, ap, ◌∙◌, subst, arith}
use Rattle.std.specs.Prelude.{◌↔◌}
use Rattle.std.specs.BTreeMap.{is_at}
use Rattle.std.specs.List.{position}
use Rattle.std.specs.Map.{lookup, remove_entry, values_of}
use Rattle.std.specs.Option.{option_map_or}
use Rattle.std.specs.Ordering.{nat_cmp}
use Rattle.std.proofs.lemmas.Bool.Decides.{nat_tests}
use Rattle.p9_index.specs.declared.entries.Child.{Child}
use Rattle.p9_index.specs.declared.entries.Entries.{Entries}
use Rattle.p9_index.specs.Entries.{Lists, Names, child_at, entry_cmp, is_listed}
use Rattle.p9_index.specs.Entries.{number_at}
use Rattle.p9_index.specs.Tree.{IsIndex, server_of, stands_at, stands_in}
use Rattle.p9_index.proofs.Joined.{child-is_at}
use Rattle.p9_index.proofs.Nodes.{IsKeyed, keyed-remove_entry, node_at-values_of}
use Rattle.p9_index.proofs.Nodes.{values-remove_entry}
use Rattle.p9_index.proofs.Orders.{at_itself, entries_total, equal_by_test, exact_entries}
use Rattle.p9_index.proofs.Orders.{is_child-is_at}
use Rattle.p9_tree.specs.declared.node.Entry.{Entry}
use Rattle.p9_tree.specs.Node.{Node, has_number, is_child}
use Rattle.p9_tree.specs.Server.{WellFormed, dropped_at, has_children, node_at, with_dropped}
use Rattle.p9_tree.specs.Server.{with_nodes}
use Rattle.p9_tree.proofs.Dropped.{WellFormed-dropped, node_at-dropped_at}
use Rattle.p9_tree.proofs.Lookups.{absent-dropped_at}

module _ (es fs : List (ℕ × Node)) (next k : ℕ) (keyed : IsKeyed es)
    (taken : fs ≡ remove_entry (is_at (nat_cmp k)) es) where
  values-left : values_of fs ≡ dropped_at k (values_of es)
  values-left = ap values_of taken ∙ values-remove_entry k es keyed

  pub state-left : server_of fs next ≡ with_dropped k (server_of es next)
  state-left = ap (with_nodes (server_of es next)) values-left

module _ {Z : Type 0} (es fs : List (ℕ × Node)) (next k : ℕ) (s : Entries Z) (n : Node)
    (index : IsIndex es (is_listed s) (number_at s)) (well : WellFormed (server_of es next))
    (found : Some n ≡ lookup (is_at (nat_cmp k)) es)
    (taken : fs ≡ remove_entry (is_at (nat_cmp k)) es) where
  pub at_number : node_at k (values_of es) ≡ Some n
  at_number = node_at-values_of k es index.keyed ∙ sym found

  place : (i : ℕ) × (position (has_number k) (values_of es) ≡ Some i)
  place = go (position (has_number k) (values_of es)) refl
    where
      go : (o : Option ℕ) → position (has_number k) (values_of es) ≡ o
          → (i : ℕ) × (position (has_number k) (values_of es) ≡ Some i)
      go (Some i) is = (i, is)
      go None is =
          let gone : node_at k (values_of es) ≡ node_at k (dropped_at k (values_of es)) =
          ap (node_at k) (absent-dropped_at k (values_of es) is) in
          absurd
          (grind (arith, nat_tests, gone, at_number, node_at-dropped_at k k (values_of es) well.rising))

  pub well-left : k ≢ 0 → IsFalse (has_children k (values_of es)) → WellFormed (server_of fs next)
  well-left not_root empty =
      subst WellFormed (sym (state-left es fs next k index.keyed taken))
      (WellFormed-dropped (server_of es next) k place.0 well place.1 not_root empty)

  -- what is found by a number then
  found-left : (j : ℕ) → node_at j (values_of fs) ≡ cond (eqb j k) None (node_at j (values_of es))
  found-left j =
      ap (node_at j) (values-left es fs next k index.keyed taken) ∙ node_at-dropped_at k j (values_of es) well.rising

  module _ (t : Entries Z) (e : Entry) (parent : n.parent ≡ Some e.parent) (name : n.name ≡ e.name)
      (lists : Lists false (child_at e.parent k) s t) (names : Names None e s t) where
    listed : (c : Child) → is_listed t c ≡ stands_in c.dir c.number (values_of fs)
    listed c =
        let test = child-is_at (child_at e.parent k) c n parent in
        grind (arith, nat_tests, lists c, test, found-left c.number, index.listed c, at_number)

    -- the entry had the number
    had : number_at s e ≡ Some k
    had =
        (index.named e k).1
        (ap (λ o. option_map_or (is_child e.parent e.name) o false) at_number
        ∙ is_child-is_at e e n parent name ∙ at_itself entry_cmp entries_total e)

    named : (q : Entry) (j : ℕ)
        → (number_at t q ≡ Some j) ↔ (stands_at q j (values_of fs) ≡ true)
    named q j =
        let test = is_child-is_at e q n parent name in
        let before = index.named q j in
        elim (is_at (entry_cmp e) q) as
        (λ b. is_at (entry_cmp e) q ≡ b
        → (number_at t q ≡ Some j) ↔ (stands_at q j (values_of fs) ≡ true)) [
          | true ↦ λ at.
              let same : e ≡ q = equal_by_test entry_cmp exact_entries e q at in
              let was : number_at s q ≡ Some k = ap (number_at s) (sym same) ∙ had in
              let none : number_at t q ≡ None = names q ∙ rw at refl in (
                (λ is. absurd (cc)),
                (λ is. absurd (grind (arith, nat_tests, found-left j, before.1))),
              )
          | false ↦ λ other.
              let kept : number_at t q ≡ number_at s q = names q ∙ rw other refl in (
                (λ is. grind
                    (arith, nat_tests, test, found-left j, before.0 (sym kept ∙ is), at_number)),
                (λ is. kept ∙ before.1 (grind (arith, nat_tests, found-left j))),
              )
        ] refl

    pub IsIndex-left : IsIndex fs (is_listed t) (number_at t)
    IsIndex-left = record {
      keyed = subst IsKeyed (sym taken) (keyed-remove_entry k es index.keyed);
      listed = listed;
      named = named;
    }
