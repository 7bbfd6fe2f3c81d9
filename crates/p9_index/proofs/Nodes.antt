-- The nodes of a tree by number, and the list of them.
use Rattle.std.proofs.Common.{◌≡◌, ℕ, ◌<◌, true, false, cond, List, [], ◌∷◌, ◌++◌, Some}
use Rattle.std.proofs.Common.{None, refl, sym, ap, ◌∙◌, subst, arith, All}
use Rattle.std.specs.BTreeMap.{insert_entry, is_at}
use Rattle.std.specs.Map.{lookup, remove_entry, set_value, values_of}
use Rattle.std.specs.Ordering.{nat_cmp}
use Rattle.std.proofs.lemmas.Bool.Decides.{nat_tests}
use Rattle.std.proofs.lemmas.List.{map-append}
use Rattle.std.proofs.lemmas.List.Elements.{All-cons, All-head, All-nil, All-push, All-tail}
use Rattle.p9_tree.specs.Node.{Node}
use Rattle.p9_tree.specs.Server.{changed_at, dropped_at, node_at}

-- each node is kept at its number
abbrev pub IsKeyed : List (ℕ × Node) → Type 0
IsKeyed es = All (λ n. n.1.number ≡ n.0) es

pub keyed_head : (e : ℕ × Node) (es : List (ℕ × Node)) → IsKeyed (e ∷ es) → e.1.number ≡ e.0
keyed_head e es keyed = All-head (λ (e : ℕ × Node). e.1.number ≡ e.0) e es keyed

pub keyed_tail : (e : ℕ × Node) (es : List (ℕ × Node)) → IsKeyed (e ∷ es) → IsKeyed es
keyed_tail e es keyed = All-tail (λ (e : ℕ × Node). e.1.number ≡ e.0) e es keyed

keyed_cons : (e : ℕ × Node) (es : List (ℕ × Node)) → e.1.number ≡ e.0 → IsKeyed es
    → IsKeyed (e ∷ es)
keyed_cons e es here keyed = All-cons (λ (e : ℕ × Node). e.1.number ≡ e.0) e es here keyed

-- a look-up by key is the look-up by number
pub node_at-values_of : (k : ℕ) (es : List (ℕ × Node)) → IsKeyed es
    → node_at k (values_of es) ≡ lookup (is_at (nat_cmp k)) es
node_at-values_of k [] keyed = refl
node_at-values_of k (e ∷ es) keyed =
    let here : e.1.number ≡ e.0 = keyed_head e es keyed in
    grind (arith, nat_tests, node_at-values_of k es (keyed_tail e es keyed))

-- A node that is written over.

pub values-set_value : (k : ℕ) (f : Node → Node) (es : List (ℕ × Node)) (n w : Node) → IsKeyed es
    → Some n ≡ lookup (is_at (nat_cmp k)) es → w ≡ f n
    → values_of (set_value (is_at (nat_cmp k)) es w) ≡ changed_at k f (values_of es)
values-set_value k f [] n w keyed found new = absurd (cc)
values-set_value k f (e ∷ es) n w keyed found new =
    let here : e.1.number ≡ e.0 = keyed_head e es keyed in
    grind (arith, nat_tests, values-set_value k f es n w (keyed_tail e es keyed))

pub keyed-set_value : (k : ℕ) (es : List (ℕ × Node)) (w : Node) → IsKeyed es → w.number ≡ k
    → IsKeyed (set_value (is_at (nat_cmp k)) es w)
keyed-set_value k [] w keyed own = keyed
keyed-set_value k (e ∷ es) w keyed own =
    let here : e.1.number ≡ e.0 = keyed_head e es keyed in
    let later : IsKeyed es = keyed_tail e es keyed in
    elim (is_at (nat_cmp k) e.0) as
    (λ b. is_at (nat_cmp k) e.0 ≡ b
    → IsKeyed (cond b ((e.0, w) ∷ es) (e ∷ set_value (is_at (nat_cmp k)) es w))) [
      | true ↦ λ at. keyed_cons (e.0, w) es (grind (arith, nat_tests)) later
      | false ↦ λ other. keyed_cons e (set_value (is_at (nat_cmp k)) es w) here
          (keyed-set_value k es w later own)
    ] refl

-- as it is, it changes nothing
pub set_value-same : (k : ℕ) (es : List (ℕ × Node)) (n : Node)
    → Some n ≡ lookup (is_at (nat_cmp k)) es → set_value (is_at (nat_cmp k)) es n ≡ es
set_value-same k [] n found = refl
set_value-same k (e ∷ es) n found = grind (arith, nat_tests, set_value-same k es n)

-- where there is no node of the number, none is changed, and none is dropped
pub absent-changed : (k : ℕ) (f : Node → Node) (es : List (ℕ × Node)) → IsKeyed es
    → None ≡ lookup (is_at (nat_cmp k)) es → values_of es ≡ changed_at k f (values_of es)
absent-changed k f [] keyed none = refl
absent-changed k f (e ∷ es) keyed none =
    let here : e.1.number ≡ e.0 = keyed_head e es keyed in
    grind (arith, nat_tests, absent-changed k f es (keyed_tail e es keyed))

-- A node that is taken out.

pub values-remove_entry : (k : ℕ) (es : List (ℕ × Node)) → IsKeyed es
    → values_of (remove_entry (is_at (nat_cmp k)) es) ≡ dropped_at k (values_of es)
values-remove_entry k [] keyed = refl
values-remove_entry k (e ∷ es) keyed =
    let here : e.1.number ≡ e.0 = keyed_head e es keyed in
    grind (arith, nat_tests, values-remove_entry k es (keyed_tail e es keyed))

pub keyed-remove_entry : (k : ℕ) (es : List (ℕ × Node)) → IsKeyed es
    → IsKeyed (remove_entry (is_at (nat_cmp k)) es)
keyed-remove_entry k [] keyed = keyed
keyed-remove_entry k (e ∷ es) keyed =
    let later : IsKeyed es = keyed_tail e es keyed in
    elim (is_at (nat_cmp k) e.0) as
    (λ b. IsKeyed (cond b es (e ∷ remove_entry (is_at (nat_cmp k)) es))) [
      | true ↦ later
      | false ↦ keyed_cons e (remove_entry (is_at (nat_cmp k)) es) (keyed_head e es keyed)
          (keyed-remove_entry k es later)
    ]

-- A node of a number past all.

keys_below : (b : ℕ) (es : List (ℕ × Node)) → IsKeyed es → All (λ n. n.number < b) (values_of es)
    → All (λ e. e.0 < b) es
keys_below b [] keyed below = All-nil (λ (e : ℕ × Node). e.0 < b)
keys_below b (e ∷ es) keyed below =
    let here : e.1.number ≡ e.0 = keyed_head e es keyed in
    let low : e.1.number < b = All-head (λ n. n.number < b) e.1 (values_of es) below in
    All-cons (λ (e : ℕ × Node). e.0 < b) e es (omega arith)
    (keys_below b es (keyed_tail e es keyed)
    (All-tail (λ n. n.number < b) e.1 (values_of es) below))

insert_entry-last : (es : List (ℕ × Node)) (k : ℕ) (n : Node) → All (λ e. e.0 < k) es
    → insert_entry nat_cmp es k n ≡ es ++ (k, n) ∷ []
insert_entry-last [] k n below = refl
insert_entry-last (e ∷ es) k n below =
    let here : e.0 < k = All-head (λ (e : ℕ × Node). e.0 < k) e es below in
    grind
    (arith, nat_tests, insert_entry-last es k n (All-tail (λ (e : ℕ × Node). e.0 < k) e es below))

module _ (es : List (ℕ × Node)) (k : ℕ) (n : Node) (keyed : IsKeyed es)
    (below : All (λ n. n.number < k) (values_of es)) where
  entries-added : insert_entry nat_cmp es k n ≡ es ++ (k, n) ∷ []
  entries-added = insert_entry-last es k n (keys_below k es keyed below)

  pub values-added : values_of (insert_entry nat_cmp es k n) ≡ values_of es ++ n ∷ []
  values-added =
      ap values_of entries-added ∙ map-append (λ (e : ℕ × Node). e.1) es ((k, n) ∷ [])

  pub keyed-added : n.number ≡ k → IsKeyed (insert_entry nat_cmp es k n)
  keyed-added own =
      subst IsKeyed (sym entries-added)
      (All-push (λ (e : ℕ × Node). e.1.number ≡ e.0) es (k, n) keyed own)
