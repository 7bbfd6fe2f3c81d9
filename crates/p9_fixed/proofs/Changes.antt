-- There is no change exactly where the name space is fixed.
use Rattle.std.proofs.Common.{◌≡◌, ℕ, zero, suc, Bool, true, false, ◌&&◌, List, [], ◌∷◌}
use Rattle.std.proofs.Common.{Option, Some, None, refl, sym, ap, ◌∙◌, subst, option_and_then}
use Rattle.std.specs.Prelude.{◌↔◌, slice_get, if◌then◌else◌}
use Rattle.std.specs.List.{AllByRecursion}
use Rattle.std.specs.Option.{option_map}
use Rattle.std.proofs.lemmas.Bool.{or_left, or_right}
use Rattle.p9_base.specs.declared.node_ref.NodeRef.{NodeRef}
use Rattle.p9_base.specs.NodeRef.{beside, same_node}
use Rattle.p9_tree.specs.Node.{Node}
use Rattle.p9_tree.specs.Server.{Server}
use Rattle.p9_tree.specs.Forest.{IsForest, children_of, node_of, server_at}
use Rattle.p9_tree.proofs.Lookups.{number-node_at}
use Rattle.p9_table.specs.declared.row.Member.{Member}
use Rattle.p9_space.specs.Place.{root_place}
use Rattle.p9_space.specs.Table.{MountRow, members_of}
use Rattle.p9_step.specs.Open.{is_exclusive}
use Rattle.p9_cert.specs.Gap.{is_removable, where_true}
use Rattle.p9_cert.specs.Listed.{is_alterable, is_open}
use Rattle.p9_cert.specs.Policy.{Policy}
use Rattle.p9_cert.specs.Rows.{is_row}
use Rattle.p9_policy.proofs.Basics.{each_weaker, same_self}
use Rattle.p9_cert.proofs.Firsts.{first_none, no_map, no_or, none_first, or_none}
use Rattle.p9_cert.proofs.Gaps.{guarded_from, hidden-none, removable_none, row_found}
use Rattle.p9_judge.proofs.Found.{at_child, child_at}
use Rattle.p9_judge.proofs.Lists.{all_at}
use Rattle.p9_fixed.specs.declared.change.Change.{Change}
use Rattle.p9_fixed.specs.declared.change.ChangeKind.{ChangeKind}
use Rattle.p9_fixed.specs.declared.change.ChangeKind.TheVariants.{Alterable, Removable, Exclusive}
use Rattle.p9_fixed.specs.Change.{change_kind, child_change, children_change, first_change}
use Rattle.p9_fixed.specs.Change.{member_change, node_kind, place_change}
use Rattle.p9_fixed.specs.Fixed.{IsFixed, IsFixedNode, IsFixedPlace}

-- Tests and lists.

-- of two tests that don't both pass
second_fails : (a b : Bool) → (a && b) ≡ false → a ≡ true → b ≡ false
second_fails true b e t = e
second_fails false b e t = let no : false ≡ true = t in absurd (cc)

not_both : (a b : Bool) → (a ≡ true → b ≡ false) → (a && b) ≡ false
not_both true b h = h refl
not_both false b h = refl

-- three tests that all fail
none-three : {X : Type 0} (x y z : X) (a b c : Bool) → a ≡ false → b ≡ false → c ≡ false
    → (if a then Some x else if b then Some y else where_true c z) ≡ None
none-three x y z a b c p q r = rw (p, q, r) refl

-- what holds at each position holds of all
all_positions : (P : Node → Type 0) (xs : List Node)
    → ((i : ℕ) (x : Node) → slice_get xs i ≡ Some x → P x) → AllByRecursion P xs
all_positions P [] h = tt
all_positions P (x ∷ xs) h = (h zero x refl, all_positions P xs (λ i y e. h (suc i) y e))

-- what holds of each row holds of all
all_rows : (P : NodeRef → Type 0) (rows : List NodeRef)
    → ((r : NodeRef) → is_row rows r ≡ true → P r) → AllByRecursion P rows
all_rows P [] h = tt
all_rows P (x ∷ xs) h = (
  h x (or_left (same_node x x) _ (same_self x)),
  all_rows P xs (λ r t. h r (or_right (same_node x r) _ t)),
)

module _ (policy : Policy) (f : List Server) where
  -- a node that nobody can change, and the other way round
  node_fixed : (at : NodeRef) (n : Node) → node_kind policy f at n ≡ None
      → IsFixedNode policy f at n
  node_fixed at n e =
      let test = is_open policy.users policy.groups n in
      let none =
      hidden-none Alterable Removable Exclusive (is_alterable policy.users policy.groups n)
      (is_removable policy f at n) (is_exclusive n && test) e in
      record {
        unaltered = none.0;
        kept = guarded_from policy f at n none.1;
        shared = λ t. second_fails (is_exclusive n) test none.2 t;
      }

  fixed_node : (at : NodeRef) (n : Node) → IsFixedNode policy f at n
      → node_kind policy f at n ≡ None
  fixed_node at n h =
      let test = is_open policy.users policy.groups n in
      none-three Alterable Removable Exclusive (is_alterable policy.users policy.groups n)
      (is_removable policy f at n) (is_exclusive n && test) h.unaltered
      (removable_none policy f at n h.kept) (not_both (is_exclusive n) test h.shared)

  -- the same of a member
  abbrev IsFixedMember : NodeRef → Type 0
  IsFixedMember at = (n : Node) → node_of at f ≡ Some n → IsFixedNode policy f at n

  member_fixed : (at : NodeRef) → change_kind policy f at ≡ None → IsFixedMember at
  member_fixed at e n w =
      node_fixed at n (sym (ap (option_and_then (node_kind policy f at)) w) ∙ e)

  fixed_member : (at : NodeRef) → IsFixedMember at → change_kind policy f at ≡ None
  fixed_member at h = go (node_of at f) refl
    where
      go : (o : Option Node) → node_of at f ≡ o
          → option_and_then (node_kind policy f at) o ≡ None
      go None w = refl
      go (Some n) w = fixed_node at n (h n w)

  module _ (table : List MountRow) where
    -- of a place
    place_fixed : (p : NodeRef) → place_change policy f table p ≡ None
        → IsFixedPlace policy f table p
    place_fixed p e =
        each_weaker (λ m. member_change policy f p m ≡ None) (λ m. IsFixedMember m.node)
        (λ (m : Member) t. member_fixed m.node (no_map _ _ t)) (members_of p table)
        (first_none (member_change policy f p) (members_of p table) e)

    fixed_place : (p : NodeRef) → IsFixedPlace policy f table p
        → place_change policy f table p ≡ None
    fixed_place p h =
        none_first (member_change policy f p) (members_of p table)
        (each_weaker (λ m. IsFixedMember m.node) (λ m. member_change policy f p m ≡ None)
        (λ (m : Member) s. ap (option_map (λ (kind : ChangeKind).
        let change : Change = record { place = p; member = m.node; kind = kind } in change))
        (fixed_member m.node s))
        (members_of p table) h)

    module _ (sound : IsForest f) where
      -- of the children of a row
      abbrev AreFixed : NodeRef → Type 0
      AreFixed row = (k : ℕ) (n : Node) → node_of (beside row k) f ≡ Some n
          → n.parent ≡ Some row.number → IsFixedPlace policy f table (beside row k)

      children_fixed : (row : NodeRef) → children_change policy f table row ≡ None → AreFixed row
      children_fixed row e k n there parent =
          let found = at_child f sound row k n there parent in
          let here : child_change policy f table row n ≡ None =
          all_at (λ m. child_change policy f table row m ≡ None) (children_of row f) found.0 n
          (first_none (child_change policy f table row) (children_of row f) e) found.1 in
          subst (λ j. IsFixedPlace policy f table (beside row j))
          (number-node_at k (server_at row.server f).nodes n there)
          (place_fixed (beside row n.number) here)

      fixed_children : (row : NodeRef) → AreFixed row → children_change policy f table row ≡ None
      fixed_children row h =
          none_first (child_change policy f table row) (children_of row f)
          (all_positions (λ m. child_change policy f table row m ≡ None) (children_of row f)
          (λ i n e. let child = child_at f sound row i n e in
          fixed_place (beside row n.number) (h n.number n child.0 child.1)))

      -- of all
      fixed_from : (rows : List NodeRef) → first_change policy f table rows ≡ None
          → IsFixed policy f table (is_row rows)
      fixed_from rows e =
          let parts = no_or (place_change policy f table root_place) _ e in
          let each =
          each_weaker (λ row. children_change policy f table row ≡ None) AreFixed children_fixed
          rows (first_none (children_change policy f table) rows parts.1) in
          record {
            root = place_fixed root_place parts.0;
            children = λ r k n t there parent. row_found AreFixed rows each r t k n there parent;
          }

      none_from : (rows : List NodeRef) → IsFixed policy f table (is_row rows)
          → first_change policy f table rows ≡ None
      none_from rows h =
          or_none (place_change policy f table root_place) _ (fixed_place root_place h.root)
          (none_first (children_change policy f table) rows
          (each_weaker AreFixed (λ row. children_change policy f table row ≡ None) fixed_children
          rows (all_rows AreFixed rows
          (λ r t k n there parent. h.children r k n t there parent))))

-- there is no change exactly where the name space is fixed
pub no_change_is_fixed : (policy : Policy) (forest : List Server) (table : List MountRow)
    (rows : List NodeRef) → IsForest forest
    → (first_change policy forest table rows ≡ None)
    ↔ IsFixed policy forest table (is_row rows)
no_change_is_fixed policy forest table rows sound =
    (fixed_from policy forest table sound rows, none_from policy forest table sound rows)
