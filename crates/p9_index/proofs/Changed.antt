-- One node of a tree is changed, and keeps its place.
use Rattle.std.proofs.Common.{◌≡◌, ℕ, true, false, cond, eqb, List, Some}
use Rattle.std.proofs.Common.{◌+◌, ◌≤◌, length, is_some, IsTrue, IsFalse, sym, ap, ◌∙◌, subst, arith}
use Rattle.std.specs.Prelude.{◌↔◌}
use Rattle.std.specs.BTreeMap.{is_at}
use Rattle.std.specs.Map.{lookup, set_value, values_of}
use Rattle.std.specs.Option.{option_map, option_map_or}
use Rattle.std.specs.Ordering.{nat_cmp}
use Rattle.std.proofs.lemmas.Bool.Decides.{nat_tests}
use Rattle.p9_index.specs.declared.entries.Entries.{Entries}
use Rattle.p9_index.specs.Entries.{is_listed, number_at}
use Rattle.p9_index.specs.Tree.{IsIndex, server_of, stands_at, stands_in}
use Rattle.p9_index.proofs.Nodes.{IsKeyed, keyed-set_value, node_at-values_of, set_value-same}
use Rattle.p9_index.proofs.Nodes.{values-set_value}
use Rattle.p9_tree.specs.declared.node.Entry.{Entry}
use Rattle.p9_tree.specs.Bytes.{file_max, overwritten}
use Rattle.p9_tree.specs.Node.{Node, is_dir, with_bytes}
use Rattle.p9_tree.specs.Server.{Server, WellFormed, changed_at, exists_at, is_dir_at, node_at, with_changed}
use Rattle.p9_tree.specs.Server.{with_nodes}
use Rattle.p9_tree.proofs.BytesLemmas.{length-overwritten}
use Rattle.p9_tree.proofs.Changed.{IsApart, KeepsParent, KeepsPlace, KeepsSound}
use Rattle.p9_tree.proofs.Changed.{WellFormed-changed, node_at-changed_at, sound-with_bytes}
use Rattle.p9_tree.proofs.Lookups.{number-node_at}

-- a node that keeps its name stays apart from its siblings
apart-kept : (k : ℕ) (f : Node → Node) (s : Server) → ((n : Node) → (f n).name ≡ n.name)
    → WellFormed s → IsApart k f s
apart-kept k f s keeps w n found j p m e in_n in_m same =
    w.siblings j k p m n e found in_m in_n (sym same ∙ keeps n)

module _ {Z : Type 0} (es fs : List (ℕ × Node)) (next k : ℕ) (s : Entries Z) (f : Node → Node)
    (n w : Node) (index : IsIndex es (is_listed s) (number_at s))
    (well : WellFormed (server_of es next)) (found : Some n ≡ lookup (is_at (nat_cmp k)) es)
    (written : fs ≡ set_value (is_at (nat_cmp k)) es w) (new : w ≡ f n) (keeps : KeepsParent f)
  where
    pub values-changed : values_of fs ≡ changed_at k f (values_of es)
    values-changed = ap values_of written ∙ values-set_value k f es n w index.keyed found new

    pub state-changed : server_of fs next ≡ with_changed k f (server_of es next)
    state-changed = ap (with_nodes (server_of es next)) values-changed

    -- the node is the one of its number
    pub at_number : node_at k (values_of es) ≡ Some n
    at_number = node_at-values_of k es index.keyed ∙ sym found

    pub own_number : n.number ≡ k
    own_number = number-node_at k (values_of es) n at_number

    pub keyed-changed : IsKeyed fs
    keyed-changed =
        subst IsKeyed (sym written)
        (keyed-set_value k es w index.keyed
        (ap (λ (x : Node). x.number) new ∙ keeps.number n ∙ own_number))

    pub well-changed : KeepsSound f n → IsApart k f (server_of es next)
        → WellFormed (server_of fs next)
    well-changed sound apart =
        subst WellFormed (sym state-changed)
        (WellFormed-changed k f keeps (server_of es next) well
        (λ m e. let same : n ≡ m = one m (sym at_number ∙ e) in subst (KeepsSound f) same sound) apart)
      where
        one : (m : Node) → Some n ≡ Some m → n ≡ m
        one m e = cc

    -- what is found by a number afterwards
    pub found-changed : (j : ℕ)
        → node_at j (values_of fs) ≡ cond (eqb j k) (Some (f n)) (node_at j (values_of es))
    found-changed j =
        ap (node_at j) values-changed ∙ node_at-changed_at k f keeps j (values_of es)
        ∙ ap (λ o. cond (eqb j k) (option_map f o) (node_at j (values_of es))) at_number

    pub listed-changed : (d j : ℕ) → stands_in d j (values_of fs) ≡ stands_in d j (values_of es)
    listed-changed d j = grind (arith, nat_tests, found-changed j, keeps.parent n, at_number)

    pub index-changed : (f n).name ≡ n.name → IsIndex fs (is_listed s) (number_at s)
    index-changed name = record {
      keyed = keyed-changed;
      listed = λ c. index.listed c ∙ sym (listed-changed c.dir c.number);
      named =
          λ e j. subst (λ b. (number_at s e ≡ Some j) ↔ (b ≡ true)) (sym (named e j))
          (index.named e j);
    }
      where
        named : (e : Entry) (j : ℕ) → stands_at e j (values_of fs) ≡ stands_at e j (values_of es)
        named e j = grind (arith, nat_tests, found-changed j, keeps.parent n, at_number, name)

-- the same of a change that keeps every node's place
module _ {Z : Type 0} (es fs : List (ℕ × Node)) (next k : ℕ) (s : Entries Z) (f : Node → Node)
    (n w : Node) (index : IsIndex es (is_listed s) (number_at s))
    (well : WellFormed (server_of es next)) (found : Some n ≡ lookup (is_at (nat_cmp k)) es)
    (written : fs ≡ set_value (is_at (nat_cmp k)) es w) (new : w ≡ f n) (keeps : KeepsPlace f)
    (sound : KeepsSound f n) where
  pub tree-kept : WellFormed (server_of fs next) × IsIndex fs (is_listed s) (number_at s)
  tree-kept = (
    well-changed es fs next k s f n w index well found written new keeps.in_dir sound
        (apart-kept k f (server_of es next) keeps.name well),
    index-changed es fs next k s f n w index well found written new keeps.in_dir (keeps.name n),
  )

-- and of a node that is written over as it is
module _ {Z : Type 0} (es fs : List (ℕ × Node)) (next k : ℕ) (s : Entries Z) (n w : Node)
    (found : Some n ≡ lookup (is_at (nat_cmp k)) es)
    (written : fs ≡ set_value (is_at (nat_cmp k)) es w) (same : w ≡ n) where
  entries-same : fs ≡ es
  entries-same =
      written ∙ ap (set_value (is_at (nat_cmp k)) es) same ∙ set_value-same k es n found

  pub state-same : server_of fs next ≡ server_of es next
  state-same = ap (λ xs. server_of xs next) entries-same

  pub tree-same : IsIndex es (is_listed s) (number_at s) → WellFormed (server_of es next)
      → WellFormed (server_of fs next) × IsIndex fs (is_listed s) (number_at s)
  tree-same index well = (
    subst WellFormed (sym state-same) well,
    subst (λ xs. IsIndex xs (is_listed s) (number_at s)) (sym entries-same) index,
  )

-- there is a node that is found
pub exists-found : (es : List (ℕ × Node)) (k : ℕ) (n : Node) → IsKeyed es
    → Some n ≡ lookup (is_at (nat_cmp k)) es → IsTrue (exists_at k (values_of es))
exists-found es k n keyed found = ap is_some (node_at-values_of k es keyed ∙ sym found)

-- the root is a directory
pub root_is_dir : (nodes : List Node) (n : Node) → node_at 0 nodes ≡ Some n
    → IsTrue (is_dir_at 0 nodes) → IsTrue (is_dir n)
root_is_dir nodes n at root = sym (ap (λ o. option_map_or is_dir o false) at) ∙ root

-- a file stays sound after a write that fits
pub sound-written : (offset : ℕ) (bytes : List ℕ) (nodes : List Node) (k : ℕ) (n : Node)
    → node_at k nodes ≡ Some n → IsFalse (is_dir_at k nodes) → offset + length bytes ≤ file_max
    → KeepsSound (with_bytes (overwritten offset bytes)) n
sound-written offset bytes nodes k n at file fits =
    let not_dir : is_dir n ≡ false = sym (ap (λ o. option_map_or is_dir o false) at) ∙ file in
    sound-with_bytes (overwritten offset bytes) n
    (length-overwritten offset bytes n.bytes file_max fits) (λ d none. absurd (cc))
