-- Entries that go in and are taken out again.
use Rattle.std.proofs.Common.{◌≡◌, ℕ, true, false, List, Option, None, refl, sym, ap, ◌∙◌}
use Rattle.std.specs.BTreeMap.{is_at}
use Rattle.p9_index.specs.declared.entries.Child.{Child}
use Rattle.p9_index.specs.declared.entries.Entries.{Entries}
use Rattle.p9_index.specs.declared.names.Numbers.{Numbers}
use Rattle.p9_index.specs.Entries.{HasSame, HasSameNumbers, Lists, ListsSame, Renumbers, child_cmp}
use Rattle.p9_index.specs.Entries.{entry_cmp, is_listed, number_at, number_of}
use Rattle.p9_index.specs.Tree.{IsIndex}
use Rattle.p9_index.proofs.Orders.{equal_by_test, exact_children, exact_entries}
use Rattle.p9_tree.specs.declared.node.Entry.{Entry}
use Rattle.p9_tree.specs.Node.{Node}

module _ {Z : Type 0} (s t u : Entries Z) where
  -- a child that was not listed
  pub listed_back : (c : Child) → Lists true c s t → Lists false c t u → is_listed s c ≡ false
      → ListsSame s u
  listed_back c put taken absent q =
      elim (is_at (child_cmp c) q) as
      (λ b. is_at (child_cmp c) q ≡ b → is_listed u q ≡ is_listed s q) [
        | true ↦ λ at.
            let same : c ≡ q = equal_by_test child_cmp exact_children c q at in
            taken q ∙ rw at (sym (ap (is_listed s) (sym same) ∙ absent))
        | false ↦ λ other. taken q ∙ rw other (put q ∙ rw other refl)
      ] refl

module _ {Z : Type 0} (s t u : Numbers Z) where
  -- an entry that had no number
  pub named_back : (e : Entry) (number : Option ℕ) → Renumbers number e s t → Renumbers None e t u
      → number_of s e ≡ None → HasSameNumbers s u
  named_back e number put taken absent q =
      elim (is_at (entry_cmp e) q) as
      (λ b. is_at (entry_cmp e) q ≡ b → number_of u q ≡ number_of s q) [
        | true ↦ λ at.
            let same : e ≡ q = equal_by_test entry_cmp exact_entries e q at in
            taken q ∙ rw at (sym (ap (number_of s) (sym same) ∙ absent))
        | false ↦ λ other. taken q ∙ rw other (put q ∙ rw other refl)
      ] refl

-- entries that say the same index the same nodes
pub IsIndex-same : {Z : Type 0} (nodes : List (ℕ × Node)) (s t : Entries Z) → HasSame s t
    → IsIndex nodes (is_listed s) (number_at s) → IsIndex nodes (is_listed t) (number_at t)
IsIndex-same nodes s t same index = record {
  keyed = index.keyed;
  listed = λ c. same.0 c ∙ index.listed c;
  named = λ e k. (
    (λ is. (index.named e k).0 (sym (same.1 e) ∙ is)),
    (λ is. same.1 e ∙ (index.named e k).1 is),
  );
}
