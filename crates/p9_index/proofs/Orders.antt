-- Children and entries in their orders.
use Rattle.std.proofs.Common.{◌≡◌, ℕ, ◌≤◌, true, false, List, Option, Some, None, refl}
use Rattle.std.proofs.Common.{ap, subst, arith}
use Rattle.std.specs.BTreeMap.{is_at}
use Rattle.std.specs.BTreeMap.Range.{IsInRange, IsLeBy}
use Rattle.std.specs.Cmp.{IsTotalOrder, eq_by_cmp_equiv, on_total, then_total, nat_cmp_total}
use Rattle.std.specs.Cmp.Lexicographic.{nat_list_cmp_total, slice_cmp}
use Rattle.std.specs.declared.cmp.Ordering.{Ordering}
use Rattle.std.specs.declared.cmp.Ordering.TheVariants.{Less, Equal, Greater}
use Rattle.std.specs.declared.ops.Bound.TheVariants.{Unbounded}
use Rattle.std.specs.Ordering.{is_eq, nat_cmp}
use Rattle.std.specs.Str.{bytes_eq}
use Rattle.std.proofs.lemmas.Bool.Decides.{nat_tests}
use Rattle.std.proofs.lemmas.Grind.{common_steps}
use Rattle.std.proofs.lemmas.Slice.Eq.{bytes_eq-Decides}
use Rattle.std.proofs.lemmas.Map.Lookups.{CmpEqualImpliesEq, exact_bytes, exact_pairs}
use Rattle.std.proofs.lemmas.Map.Lookups.{exact_unsigned}
use Rattle.p9_index.specs.declared.entries.Child.{Child}
use Rattle.p9_index.specs.Entries.{child_at, child_cmp, children_from, entry_cmp, exceeds}
use Rattle.p9_tree.specs.declared.node.Entry.{Entry}
use Rattle.p9_tree.specs.Node.{Node, is_child}

pub exact_entries : CmpEqualImpliesEq entry_cmp
exact_entries a b h =
    ap (λ (p : ℕ × List ℕ). record { parent = p.0; name = p.1 })
    (exact_pairs nat_cmp (slice_cmp nat_cmp) exact_unsigned exact_bytes (a.parent, a.name)
    (b.parent, b.name) h)

pub exact_children : CmpEqualImpliesEq child_cmp
exact_children a b h =
    ap (λ (p : ℕ × ℕ). record { dir = p.0; number = p.1 })
    (exact_pairs nat_cmp nat_cmp exact_unsigned exact_unsigned (a.dir, a.number) (b.dir, b.number)
    h)

pub entries_total : IsTotalOrder entry_cmp
entries_total =
    then_total (on_total (λ e. e.parent) nat_cmp_total) (on_total (λ e. e.name) nat_list_cmp_total)

-- keys that are at one place are one
pub equal_by_test : {K : Type 0} (R : K → K → Ordering) → CmpEqualImpliesEq R → (k q : K)
    → is_at (R k) q ≡ true → k ≡ q
equal_by_test R exact k q e = exact k q (equal (R k q) e)
  where
    equal : (o : Ordering) → is_eq o ≡ true → o ≡ Equal
    equal Less h = cc
    equal Equal h = refl
    equal Greater h = cc

-- what the range from a floor has of its directory: the numbers above the floor
pub in_range : (dir : ℕ) (floor : Option ℕ) (k : ℕ) → exceeds floor k ≡ true
    → IsInRange child_cmp (children_from dir floor) Unbounded (child_at dir k)
in_range dir None k above = grind (arith, nat_tests)
in_range dir (Some f) k above = grind (arith, nat_tests)

pub range_above : (dir : ℕ) (floor : Option ℕ) (c : Child)
    → IsInRange child_cmp (children_from dir floor) Unbounded c → c.dir ≡ dir
    → exceeds floor c.number ≡ true
range_above dir None c within same = refl
range_above dir (Some f) c within same = grind (arith, nat_tests)

-- and nothing of a lesser directory
pub range_dir : (dir : ℕ) (floor : Option ℕ) (c : Child)
    → IsInRange child_cmp (children_from dir floor) Unbounded c → dir ≤ c.dir
range_dir dir None c within = grind (arith, nat_tests)
range_dir dir (Some f) c within = grind (arith, nat_tests)

-- a child before another has no greater directory, and in the same one no greater number
pub le_dir : (c d : Child) → IsLeBy child_cmp c d → c.dir ≤ d.dir
le_dir c d le = grind (arith, nat_tests)

pub le_number : (c d : Child) → IsLeBy child_cmp c d → c.dir ≡ d.dir → c.number ≤ d.number
le_number c d le same = grind (arith, nat_tests)

-- a key is at its own place
pub at_itself : {K : Type 0} (R : K → K → Ordering) → IsTotalOrder R → (k : K) → is_at (R k) k ≡ true
at_itself R total k = (eq_by_cmp_equiv total).refl k

-- a node is under its own entry, and under no other
pub is_child-is_at : (e q : Entry) (n : Node) → n.parent ≡ Some e.parent → n.name ≡ e.name
    → is_child q.parent q.name n ≡ is_at (entry_cmp e) q
is_child-is_at e q n in_dir named =
    elim (is_at (entry_cmp e) q) as
    (λ b. is_at (entry_cmp e) q ≡ b → is_child q.parent q.name n ≡ b) [
      | true ↦ λ at.
          let same : e ≡ q = equal_by_test entry_cmp exact_entries e q at in
          let same_name : bytes_eq n.name e.name ≡ true = (bytes_eq-Decides n.name e.name).1 named
          in
          subst (λ (r : Entry). is_child r.parent r.name n ≡ true) same
          (grind (arith, nat_tests, in_dir, same_name))
      | false ↦ λ other. elim (is_child q.parent q.name n) as
          (λ b. is_child q.parent q.name n ≡ b → b ≡ false) [
            | false ↦ λ is. refl
            | true ↦ λ is.
                let dirs : e.parent ≡ q.parent = grind (arith, nat_tests, in_dir, is) in
                let names : n.name ≡ q.name = (bytes_eq-Decides n.name q.name).0
                (grind (arith, common_steps, is)) in
                let same : e ≡ q = ap (λ (x : ℕ × List ℕ). record { parent = x.0; name = x.1 })
                {x = (e.parent, e.name)} {y = (q.parent, q.name)} (cc) in
                let itself : is_at (entry_cmp e) q ≡ true =
                subst (λ (r : Entry). is_at (entry_cmp e) r ≡ true) same
                (at_itself entry_cmp entries_total e) in
                cc
          ] refl
    ] refl
