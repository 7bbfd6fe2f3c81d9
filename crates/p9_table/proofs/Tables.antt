-- What keeps a table's rows non-empty and its keys distinct, and rows that are changed in place.
use Rattle.std.proofs.Common.{◌≡◌, ℕ, ◌<◌, ◌≤◌, Bool, true, false, List, [], ◌∷◌, Option, Some, None}
use Rattle.std.proofs.Common.{IfSome, is_some, unwrap_or, cond, length, position, remove, Ok, refl}
use Rattle.std.proofs.Common.{sym, ap, ◌∙◌, true≢false, arith, length-append}
use Rattle.std.specs.List.{All, AllZip, IsDistinct}
use Rattle.std.specs.Map.{lookup, remove_entry, set_value, keys_of}
use Rattle.std.proofs.lemmas.List.Elements.{All-cons, All-head, All-tail}
use Rattle.std.proofs.lemmas.Map.Entries.{All-lookup}
use Rattle.std.proofs.lemmas.List.Edits.{length-remove}
use Rattle.indexmap.specs.IndexMap.{insert_entry}
use Rattle.p9_base.specs.declared.node_ref.NodeRef.{NodeRef}
use Rattle.p9_base.specs.NodeRef.{same_node}
use Rattle.p9_table.specs.declared.row.Member.{Member}
use Rattle.p9_table.specs.declared.row.Order.{Order}
use Rattle.p9_table.specs.declared.row.Order.TheVariants.{Replace, Before, After}
use Rattle.p9_table.specs.Row.{is_of, member, brought, joined}
use Rattle.p9_table.specs.Table.{MountRow, IsTable, members_of, row_of, unmounted, with_members}
use Rattle.p9_table.specs.Table.{with_row, without_row}

module _ {K X : Type 0} (P : K × X → Type 0) (test : K → Bool) where
  -- what holds of each entry holds of those that are left
  pub All-remove_entry : (es : List (K × X)) → All P es → All P (remove_entry test es)
  All-remove_entry [] all = all
  All-remove_entry (e ∷ es) all = by (test e.0) (All-remove_entry es (All-tail P e es all))
    where
      by : (b : Bool) → All P (remove_entry test es) → All P (cond b es (e ∷ remove_entry test es))
      by true rest = All-tail P e es all
      by false rest = All-cons P e (remove_entry test es) (All-head P e es all) rest

module _ {K X : Type 0} (P : X → Type 0) (eq : K → K → Bool) where
  -- what holds of each value and of the new one holds of each after it is put in
  pub All-insert_entry : (es : List (K × X)) (k : K) (v : X) → P v → All (λ e. P e.1) es
      → All (λ e. P e.1) (insert_entry eq es k v)
  All-insert_entry [] k v here all = All-cons (λ e. P e.1) (k, v) [] here all
  All-insert_entry (e ∷ es) k v here all =
      by (eq k e.0) (All-insert_entry es k v here (All-tail (λ e. P e.1) e es all))
    where
      by : (b : Bool) → All (λ e. P e.1) (insert_entry eq es k v)
          → All (λ e. P e.1) (cond b ((e.0, v) ∷ es) (e ∷ insert_entry eq es k v))
      by true rest = All-cons (λ e. P e.1) (e.0, v) es here (All-tail (λ e. P e.1) e es all)
      by false rest =
          All-cons (λ e. P e.1) e (insert_entry eq es k v) (All-head (λ e. P e.1) e es all) rest

module _ {K X : Type 0} (eq : K → K → Bool) where
  -- a value that is changed in place is one that is put in
  pub insert_entry-set_value : (es : List (K × X)) (k : K) (v : X)
      → is_some (lookup (eq k) es) ≡ true → insert_entry eq es k v ≡ set_value (eq k) es v
  insert_entry-set_value [] k v found = absurd (true≢false (sym found))
  insert_entry-set_value (e ∷ es) k v found = by (eq k e.0) found (insert_entry-set_value es k v)
    where
      by : (b : Bool) → is_some (cond b (Some e.1) (lookup (eq k) es)) ≡ true
          → (is_some (lookup (eq k) es) ≡ true → insert_entry eq es k v ≡ set_value (eq k) es v)
          → cond b ((e.0, v) ∷ es) (e ∷ insert_entry eq es k v)
          ≡ cond b ((e.0, v) ∷ es) (e ∷ set_value (eq k) es v)
      by true there rest = refl
      by false there rest = ap (λ t. e ∷ t) (rest there)

-- the row that a bind makes has members
pub joined-some : (order : Order) (nodes : List NodeRef) (create : Bool) (old : List Member)
    → 0 < length nodes → 0 < length (joined order (brought nodes create) old)
joined-some order [] create old some = absurd (omega arith)
joined-some Replace (node ∷ nodes) create old some = omega arith
joined-some Before (node ∷ nodes) create old some =
    omega (arith, length-append (brought (node ∷ nodes) create) old)
joined-some After (node ∷ nodes) create old some =
    omega (arith, length-append old (brought (node ∷ nodes) create))

-- a row that loses its one member goes
pub with_members-one : (key : NodeRef) (ms : List Member) (i : ℕ) (table : List MountRow)
    → length ms ≡ 1 → i < length ms → with_members key (remove ms i) table ≡ without_row key table
with_members-one key (m ∷ []) i table one within = let e : i ≡ 0 = omega arith in rw e
with_members-one key [] i table one within = absurd (omega (arith, one))
with_members-one key (m ∷ n ∷ ms) i table one within = absurd (omega (arith, one))

-- a row with members stays
pub with_members-some : (key : NodeRef) (ms : List Member) (table : List MountRow) → 0 < length ms
    → with_members key ms table ≡ with_row key ms table
with_members-some key [] table some = absurd (omega arith)
with_members-some key (m ∷ ms) table some = refl

-- each key has members
pub members_of-some : (key : NodeRef) (table : List MountRow) → IsTable table
    → 0 < length (members_of key table)
members_of-some key table sound =
    by (row_of key table) (All-lookup (λ ms. 0 < length ms) (same_node key) table sound.not_empty)
  where
    by : (row : Option (List Member)) → IfSome row (λ ms. 0 < length ms)
        → 0 < length (unwrap_or row (member true key ∷ []))
    by None some = omega arith
    by (Some ms) some = some

-- a table stays sound under a row of members
pub IsTable-with_row : (new table : List MountRow) (key : NodeRef) (ms : List Member)
    → new ≡ with_row key ms table → 0 < length ms → IsDistinct same_node (keys_of new)
    → IsTable table → IsTable new
IsTable-with_row new table key ms change some distinct sound = record {
  not_empty =
      rw change
      (All-insert_entry (λ members. 0 < length members) same_node table key ms some
      sound.not_empty);
  distinct = distinct;
}

-- and without a row
pub IsTable-without_row : (new table : List MountRow) (key : NodeRef) → new ≡ without_row key table
    → IsDistinct same_node (keys_of new) → IsTable table → IsTable new
IsTable-without_row new table key change distinct sound = record {
  not_empty =
      rw change (All-remove_entry (λ row. 0 < length row.1) (same_node key) table sound.not_empty);
  distinct = distinct;
}

-- a row that is changed in place is one that is replaced
pub set_value-with_row : (new table : List MountRow) (key : NodeRef) (old ms : List Member)
    → row_of key table ≡ Some old → new ≡ set_value (same_node key) table ms
    → new ≡ with_row key ms table
set_value-with_row new table key old ms row change =
    change ∙ sym (insert_entry-set_value same_node table key ms (ap is_some row))

-- a row that loses one of several members keeps some
pub length-remove-some : (ms : List Member) (i : ℕ) → i < length ms → 1 < length ms
    → 0 < length (remove ms i)
length-remove-some ms i within others = omega (arith, length-remove ms i within)

-- without one of a row's several members
pub without_member-more : (key node : NodeRef) (table : List MountRow) (ms : List Member) (i : ℕ)
    → row_of key table ≡ Some ms → position (is_of node) ms ≡ Some i → i < length ms → 1 < length ms
    → unmounted key (Some node) table ≡ Ok (with_row key (remove ms i) table)
without_member-more key node table ms i row first within others =
    let e = with_members-some key (remove ms i) table (length-remove-some ms i within others) in
    rw (row, first, e)

-- without the one member of a row
pub without_member-one : (key node : NodeRef) (table : List MountRow) (ms : List Member) (i : ℕ)
    → row_of key table ≡ Some ms → position (is_of node) ms ≡ Some i → i < length ms → length ms ≤ 1
    → unmounted key (Some node) table ≡ Ok (without_row key table)
without_member-one key node table ms i row first within one =
    let e = with_members-one key ms i table (omega arith) within in
    rw (row, first, e)

-- entries that are each equal to those of a list are the list
pub entries-same : {K X : Type 0} (xs ys : List (K × X))
    → AllZip (λ p q. (q.0 ≡ p.0) × (q.1 ≡ p.1)) xs ys → ys ≡ xs
entries-same [] [] same = refl
entries-same [] (y ∷ ys) same = absurd same
entries-same (x ∷ xs) [] same = absurd same
entries-same (x ∷ xs) (y ∷ ys) same =
    λ i. (same.0.0 i, same.0.1 i) ∷ entries-same xs ys same.1 i

-- the same of items that may be there, by whatever says that two are equal
pub options-same : (X : Type 0) (R : Option X → Option X → Type 0)
    → ((x y : X) → R (Some x) (Some y) → y ≡ x) → ((y : X) → R None (Some y) → ⊥)
    → ((x : X) → R (Some x) None → ⊥) → (xs ys : List (Option X)) → AllZip R xs ys → ys ≡ xs
options-same X R both new gone [] [] same = refl
options-same X R both new gone [] (y ∷ ys) same = absurd same
options-same X R both new gone (x ∷ xs) [] same = absurd same
options-same X R both new gone (x ∷ xs) (y ∷ ys) same =
    λ i. by x y same.0 i ∷ options-same X R both new gone xs ys same.1 i
  where
    by : (x y : Option X) → R x y → y ≡ x
    by None None same = refl
    by None (Some y) same = absurd (new y same)
    by (Some x) None same = absurd (gone x same)
    by (Some x) (Some y) same = ap Some (both x y same)
