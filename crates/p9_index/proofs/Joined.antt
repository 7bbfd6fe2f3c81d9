-- A root alone, and a node that joins a tree.
use Rattle.std.proofs.Common.{◌≡◌, ℕ, ◌+◌, ◌<◌, true, false, cond, eqb, ◌&&◌, List, [], ◌∷◌, ◌++◌}
use Rattle.std.proofs.Common.{Some, None, refl, sym, ap, ◌∙◌, subst, arith, All}
use Rattle.std.specs.Prelude.{◌↔◌}
use Rattle.std.specs.BTreeMap.{insert_entry, is_at}
use Rattle.std.specs.Map.{values_of}
use Rattle.std.specs.Option.{option_map_or, option_or}
use Rattle.std.specs.Ordering.{nat_cmp}
use Rattle.std.proofs.lemmas.Bool.Decides.{nat_tests}
use Rattle.std.proofs.lemmas.List.Elements.{All-cons, All-nil}
use Rattle.std.proofs.lemmas.List.Folds.{find-append}
use Rattle.p9_index.specs.declared.entries.Child.{Child}
use Rattle.p9_index.specs.declared.entries.Entries.{Entries}
use Rattle.p9_index.specs.Entries.{HasNone, Lists, Names, child_at, child_cmp, entry_cmp, is_listed}
use Rattle.p9_index.specs.Entries.{number_at}
use Rattle.p9_index.specs.Tree.{IsIndex, server_of, stands_at, stands_in}
use Rattle.p9_index.proofs.Nodes.{IsKeyed, keyed-added, values-added}
use Rattle.p9_index.proofs.Orders.{equal_by_test, exact_entries, is_child-is_at}
use Rattle.p9_tree.specs.declared.node.Entry.{Entry}
use Rattle.p9_tree.specs.Node.{Node, has_number, is_in}
use Rattle.p9_tree.specs.Server.{Server, WellFormed, added, node_at, root_node}
use Rattle.p9_tree.proofs.Lookups.{node_at-past}

-- the root is in no directory
module _ {Z : Type 0} (s : Entries Z) (none : HasNone s) where
  stands_nowhere : (d k : ℕ) → stands_in d k (root_node ∷ []) ≡ false
  stands_nowhere d k = grind (arith, nat_tests)

  stands_at_none : (e : Entry) (k : ℕ) → stands_at e k (root_node ∷ []) ≡ false
  stands_at_none e k = grind (arith, nat_tests)

  pub IsIndex-rooted : IsIndex ((0, root_node) ∷ []) (is_listed s) (number_at s)
  IsIndex-rooted = record {
    keyed = All-cons (λ (n : ℕ × Node). n.1.number ≡ n.0) (0, root_node) [] refl
        (All-nil (λ (n : ℕ × Node). n.1.number ≡ n.0));
    listed = λ c. none.0 c ∙ sym (stands_nowhere c.dir c.number);
    named = λ e k. (
      (λ is. let no = none.1 e in absurd (cc)),
      (λ is. let no = stands_at_none e k in absurd (cc)),
    );
  }

-- whether a child is the one of the number, by its node
pub child-is_at : (p q : Child) (n : Node) → n.parent ≡ Some p.dir
    → is_at (child_cmp p) q ≡ (eqb q.number p.number && is_in q.dir n)
child-is_at p q n in_dir = grind (arith, nat_tests, in_dir)

-- the server with the node
pub state-joined : (es fs : List (ℕ × Node)) (next : ℕ) (n : Node) → IsKeyed es
    → All (λ m. m.number < next) (values_of es) → fs ≡ insert_entry nat_cmp es next n
    → server_of fs (next + 1) ≡ added (server_of es next) n
state-joined es fs next n keyed below put =
    ap {B = Server} (λ (xs : List Node). record { nodes = xs; next = next + 1 })
    (ap values_of put ∙ values-added es next n keyed below)

-- a number that no node has is listed nowhere
pub unlisted-past : {Z : Type 0} (es : List (ℕ × Node)) (next : ℕ) (s : Entries Z) (d : ℕ)
    → IsIndex es (is_listed s) (number_at s) → All (λ m. m.number < next) (values_of es)
    → is_listed s (child_at d next) ≡ false
unlisted-past es next s d index below =
    index.listed (child_at d next)
    ∙ ap (λ o. option_map_or (is_in d) o false) (node_at-past next (values_of es) below)

module _ {Z : Type 0} (es fs : List (ℕ × Node)) (next : ℕ) (s t : Entries Z) (e : Entry) (n : Node)
    (index : IsIndex es (is_listed s) (number_at s)) (well : WellFormed (server_of es next))
    (own : n.number ≡ next) (parent : n.parent ≡ Some e.parent) (name : n.name ≡ e.name)
    (put : fs ≡ insert_entry nat_cmp es next n)
    (lists : Lists true (child_at e.parent next) s t) (names : Names (Some next) e s t)
    (free : number_at s e ≡ None) where
  values-joined : values_of fs ≡ values_of es ++ n ∷ []
  values-joined = ap values_of put ∙ values-added es next n index.keyed well.below

  absent : node_at next (values_of es) ≡ None
  absent = node_at-past next (values_of es) well.below

  -- what is found by a number then
  found-joined : (k : ℕ)
      → node_at k (values_of fs) ≡ cond (eqb k next) (Some n) (node_at k (values_of es))
  found-joined k =
      let whole : node_at k (values_of fs)
      ≡ option_or (node_at k (values_of es)) (node_at k (n ∷ [])) =
      ap (node_at k) values-joined ∙ find-append (has_number k) (values_of es) (n ∷ []) in
      grind (arith, nat_tests, whole, absent, own)

  listed : (c : Child) → is_listed t c ≡ stands_in c.dir c.number (values_of fs)
  listed c =
      let test = child-is_at (child_at e.parent next) c n parent in
      grind (arith, nat_tests, lists c, test, found-joined c.number, index.listed c, absent)

  named : (q : Entry) (k : ℕ)
      → (number_at t q ≡ Some k) ↔ (stands_at q k (values_of fs) ≡ true)
  named q k =
      let test = is_child-is_at e q n parent name in
      elim (is_at (entry_cmp e) q) as
      (λ b. is_at (entry_cmp e) q ≡ b
      → (number_at t q ≡ Some k) ↔ (stands_at q k (values_of fs) ≡ true)) [
        | true ↦ λ at.
            let same : e ≡ q = equal_by_test entry_cmp exact_entries e q at in
            let unnamed : number_at s q ≡ None = ap (number_at s) (sym same) ∙ free in
            let now : number_at t q ≡ Some next = names q ∙ rw at refl in (
              (λ is. grind (arith, nat_tests, test, found-joined k)),
              (λ is. now ∙ grind (arith, nat_tests, test, found-joined k, (index.named q k).1)),
            )
        | false ↦ λ other.
            let kept : number_at t q ≡ number_at s q = names q ∙ rw other refl in
            let before = index.named q k in (
              (λ is. grind (arith, nat_tests, found-joined k, before.0 (sym kept ∙ is), absent)),
              (λ is. kept ∙ before.1 (grind (arith, nat_tests, test, found-joined k))),
            )
      ] refl

  pub IsIndex-joined : IsIndex fs (is_listed t) (number_at t)
  IsIndex-joined = record {
    keyed = subst (λ xs. All (λ (n : ℕ × Node). n.1.number ≡ n.0) xs) (sym put)
        (keyed-added es next n index.keyed well.below own);
    listed = listed;
    named = named;
  }
