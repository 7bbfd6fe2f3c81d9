-- One node of a tree is changed, and gets another name.
use Rattle.std.proofs.Common.{◌≡◌, ℕ, true, false, eqb, List, Option, Some, None, refl}
use Rattle.std.proofs.Common.{sym, ap, ◌∙◌, subst, arith}
use Rattle.std.specs.Prelude.{◌↔◌, if◌then◌else◌, unwrap_or}
use Rattle.std.specs.BTreeMap.{is_at}
use Rattle.std.specs.Map.{lookup, set_value, values_of}
use Rattle.std.specs.Option.{option_map, option_map_or}
use Rattle.std.specs.Ordering.{nat_cmp}
use Rattle.std.proofs.lemmas.Bool.{and_parts}
use Rattle.std.proofs.lemmas.Bool.Decides.{nat_tests}
use Rattle.std.proofs.lemmas.Slice.Eq.{bytes_eq-Decides}
use Rattle.p9_index.specs.declared.entries.Entries.{Entries}
use Rattle.p9_index.specs.Entries.{ListsSame, Names, entry_cmp, is_listed, number_at}
use Rattle.p9_index.specs.Tree.{IsIndex, Renames, server_of, stands_at}
use Rattle.p9_index.proofs.Changed.{at_number, found-changed, keyed-changed, listed-changed}
use Rattle.p9_index.proofs.Changed.{own_number}
use Rattle.p9_index.proofs.Numbers.{number_at-child}
use Rattle.p9_index.proofs.Orders.{at_itself, entries_total, equal_by_test, exact_entries}
use Rattle.p9_index.proofs.Orders.{is_child-is_at}
use Rattle.p9_tree.specs.declared.change.Change.{Change}
use Rattle.p9_tree.specs.declared.node.Entry.{Entry}
use Rattle.p9_tree.specs.Change.{CanChangeNode, changed}
use Rattle.p9_tree.specs.Node.{Node, is_child}
use Rattle.p9_tree.specs.Server.{WellFormed, child_of, node_at}
use Rattle.p9_tree.proofs.Lookups.{node_at-found, passes-found}
use Rattle.p9_tree.proofs.Renewed.{keeps-changed}

module _ {Z : Type 0} (es : List (ℕ × Node)) (next k : ℕ) (s : Entries Z) (n : Node)
    (from to : Entry) (c : Change) (index : IsIndex es (is_listed s) (number_at s))
    (well : WellFormed (server_of es next)) (at : node_at k (values_of es) ≡ Some n)
    (own : n.number ≡ k) (it : Renames from to c n) where
  -- the name that the node gets is free
  pub free-name : CanChangeNode (server_of es next) n c → number_at s to ≡ None
  free-name can =
      number_at-child es s index well.rising to
      ∙ ap (option_map (λ (m : Node). m.number)) (go (child_of to.parent to.name (values_of es)) refl)
    where
      go : (o : Option Node) → child_of to.parent to.name (values_of es) ≡ o
          → child_of to.parent to.name (values_of es) ≡ None
      go None none = none
      go (Some m) found =
          let in_dir : child_of from.parent to.name (values_of es) ≡ Some m =
          subst (λ d. child_of d to.name (values_of es) ≡ Some m) it.dir found in
          let same : m.number ≡ n.number = can.free to.name it.new_name from.parent it.parent m in_dir
          in
          let there : node_at m.number (values_of es) ≡ Some m =
          node_at-found (is_child to.parent to.name) (values_of es) m well.rising found in
          let one : n ≡ m = single
          (sym at ∙ subst (λ j. node_at j (values_of es) ≡ Some m) (same ∙ own) there) in
          let both = and_parts _ _ (passes-found (is_child to.parent to.name) (values_of es) m found)
          in
          let named : m.name ≡ to.name = (bytes_eq-Decides m.name to.name).0 both.1 in
          absurd (it.other (sym named ∙ ap (λ (x : Node). x.name) (sym one) ∙ it.name))
        where
          single : Some n ≡ Some m → n ≡ m
          single e = cc

  -- the node had the number of its entry
  pub had-name : number_at s from ≡ Some k
  had-name =
      (index.named from k).1
      (ap (λ o. option_map_or (is_child from.parent from.name) o false) at
      ∙ is_child-is_at from from n it.parent it.name ∙ at_itself entry_cmp entries_total from)

  -- it is at one of its entries only
  pub apart : (q : Entry) → is_at (entry_cmp from) q ≡ true → is_at (entry_cmp to) q ≡ false
  apart q is =
      elim (is_at (entry_cmp to) q) as (λ b. is_at (entry_cmp to) q ≡ b → b ≡ false) [
        | false ↦ λ e. refl
        | true ↦ λ e.
            let a : from ≡ q = equal_by_test entry_cmp exact_entries from q is in
            let b : to ≡ q = equal_by_test entry_cmp exact_entries to q e in
            absurd (it.other (ap (λ (e : Entry). e.name) (b ∙ sym a)))
      ] refl

module _ {Z : Type 0} (es fs : List (ℕ × Node)) (next k : ℕ) (s u t : Entries Z) (n w : Node)
    (from to : Entry) (c : Change) (index : IsIndex es (is_listed s) (number_at s))
    (well : WellFormed (server_of es next)) (found : Some n ≡ lookup (is_at (nat_cmp k)) es)
    (written : fs ≡ set_value (is_at (nat_cmp k)) es w) (new : w ≡ changed c n)
    (it : Renames from to c n) (free : number_at s to ≡ None) (same_in : ListsSame s u)
    (put : Names (Some k) to s u) (same_out : ListsSame u t) (taken : Names None from u t) where
  at : node_at k (values_of es) ≡ Some n
  at =
      at_number es fs next k s (changed c) n w index well found written new (keeps-changed c)

  own : n.number ≡ k
  own = own_number es fs next k s (changed c) n w index well found written new (keeps-changed c)

  renamed : (changed c n).name ≡ to.name
  renamed = ap (λ o. unwrap_or o n.name) it.new_name

  test_from : (q : Entry) → is_child q.parent q.name n ≡ is_at (entry_cmp from) q
  test_from q = is_child-is_at from q n it.parent it.name

  test_to : (q : Entry) → is_child q.parent q.name (changed c n) ≡ is_at (entry_cmp to) q
  test_to q = is_child-is_at to q (changed c n) (it.parent ∙ ap Some (sym it.dir)) renamed

  now-found : (q : Entry) (j : ℕ) → stands_at q j (values_of fs)
      ≡ (if eqb j k then is_at (entry_cmp to) q else stands_at q j (values_of es))
  now-found q j =
      let there = found-changed es fs next k s (changed c) n w index well found written new
      (keeps-changed c) j in
      grind (arith, nat_tests, there, test_to q)

  was-found : (q : Entry) → stands_at q k (values_of es) ≡ is_at (entry_cmp from) q
  was-found q = ap (λ o. option_map_or (is_child q.parent q.name) o false) at ∙ test_from q

  named : (q : Entry) (j : ℕ) → (number_at t q ≡ Some j) ↔ (stands_at q j (values_of fs) ≡ true)
  named q j =
      let before = index.named q j in
      elim (is_at (entry_cmp from) q) as
      (λ b. is_at (entry_cmp from) q ≡ b
      → (number_at t q ≡ Some j) ↔ (stands_at q j (values_of fs) ≡ true)) [
        | true ↦ λ is.
            let same : from ≡ q = equal_by_test entry_cmp exact_entries from q is in
            let was : number_at s q ≡ Some k =
            ap (number_at s) (sym same) ∙ had-name es next k s n from to c index well at own it in
            let none : number_at t q ≡ None = taken q ∙ rw is refl in
            let not_to = apart es next k s n from to c index well at own it q is in (
              (λ e. absurd (cc)),
              (λ e. absurd (grind (arith, nat_tests, now-found q j, not_to, before.1))),
            )
        | false ↦ λ other.
            let kept : number_at t q ≡ number_at u q = taken q ∙ rw other refl in
            elim (is_at (entry_cmp to) q) as
            (λ b. is_at (entry_cmp to) q ≡ b
            → (number_at t q ≡ Some j) ↔ (stands_at q j (values_of fs) ≡ true)) [
              | true ↦ λ is.
                  let same : to ≡ q = equal_by_test entry_cmp exact_entries to q is in
                  let unnamed : number_at s q ≡ None = ap (number_at s) (sym same) ∙ free in
                  let now : number_at t q ≡ Some k = kept ∙ put q ∙ rw is refl in (
                    (λ e. grind (arith, nat_tests, now-found q j)),
                    (λ e. now ∙ grind (arith, nat_tests, now-found q j, before.1)),
                  )
              | false ↦ λ apart.
                  let old : number_at t q ≡ number_at s q = kept ∙ put q ∙ rw apart refl in (
                    (λ e. grind
                        (arith, nat_tests, now-found q j, was-found q, before.0 (sym old ∙ e))),
                    (λ e. old ∙ before.1 (grind (arith, nat_tests, now-found q j, was-found q))),
                  )
            ] refl
      ] refl

  pub IsIndex-renamed : IsIndex fs (is_listed t) (number_at t)
  IsIndex-renamed = record {
    keyed =
        keyed-changed es fs next k s (changed c) n w index well found written new
        (keeps-changed c);
    listed =
        λ q. same_out q ∙ same_in q ∙ index.listed q
        ∙ sym (listed-changed es fs next k s (changed c) n w index well found written new
        (keeps-changed c) q.dir q.number);
    named = named;
  }
