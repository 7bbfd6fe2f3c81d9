-- Rows and members whose fault is known.
use Rattle.std.proofs.Common.{◌≡◌, ◌+◌, ◌<◌, ℕ, Bool, true, false, ◌&&◌, ◌||◌, List, Option, Some}
use Rattle.std.proofs.Common.{None, refl, sym, ap, ◌∙◌, subst, option_and_then, length, get_or}
use Rattle.std.proofs.Common.{take}
use Rattle.std.specs.Prelude.{if◌then◌else◌, not}
use Rattle.std.specs.Option.{option_or}
use Rattle.std.proofs.lemmas.List.Folds.{list_any_more}
use Rattle.p9_base.specs.declared.node_ref.NodeRef.{NodeRef}
use Rattle.p9_base.specs.NodeRef.{same_node}
use Rattle.p9_tree.specs.Node.{Node}
use Rattle.p9_tree.specs.Server.{Server}
use Rattle.p9_tree.specs.Forest.{IsForest, is_dir_of, node_of}
use Rattle.p9_tree.specs.Inside.{is_barred, is_hidden, is_inside}
use Rattle.p9_inside.proofs.Forests.{barred_is_hidden_or_inside}
use Rattle.p9_policy.specs.Barred.{AreNotBarred}
use Rattle.p9_policy.specs.Listed.{is_open, is_owned, is_passable}
use Rattle.p9_policy.specs.Policy.{Policy}
use Rattle.p9_policy.specs.Rows.{is_row}
use Rattle.p9_policy.proofs.Basics.{clash, same_ref}
use Rattle.p9_policy.proofs.ByClass.{shut-not-passable}
use Rattle.p9_policy.proofs.Parents.{inside-absent}
use Rattle.p9_cert.specs.declared.gap.MemberFault.TheVariants.{Missing, Open, Owned, Removable}
use Rattle.p9_cert.specs.Gap.{hidden_fault, is_removable, member_fault, node_fault, row_fault}
use Rattle.p9_cert.specs.Gap.{where_true}

-- nothing is wrong with a node that doesn't exist
pub fault-absent : (policy : Policy) (forest : List Server) (rows : List NodeRef) (at : NodeRef)
    → node_of at forest ≡ None → member_fault policy forest rows at ≡ None
fault-absent policy forest rows at e = rw (inside-absent policy.hidden forest at e, e)

-- A row without a fault is shown.

fault-none : {X : Type 0} (w x y : X) (a b c : Bool)
    → (if not a then Some w else if b then Some x else where_true c y) ≡ None
    → (a ≡ true) × (b ≡ false) × (c ≡ false)
fault-none w x y false b c e = let no : Some w ≡ None = e in absurd (cc)
fault-none w x y true true c e = let no : Some x ≡ None = e in absurd (cc)
fault-none w x y true false true e = let no : Some y ≡ None = e in absurd (cc)
fault-none w x y true false false e = (refl, refl, refl)

module _ (policy : Policy) (forest : List Server) (at : NodeRef) where
  pub row_fault-none : row_fault policy forest at ≡ None
      → (is_dir_of at forest ≡ true) × (is_hidden at policy.hidden ≡ false)
      × (is_inside at policy.hidden forest ≡ false)
  row_fault-none e = fault-none _ _ _ (is_dir_of at forest) (is_hidden at policy.hidden)
      (is_inside at policy.hidden forest) e

  pub not_barred : IsForest forest → row_fault policy forest at ≡ None
      → is_barred at policy.hidden forest ≡ false
  not_barred sound e =
      let parts = row_fault-none e in
      barred_is_hidden_or_inside policy.hidden forest at sound ∙ rw (parts.1, parts.2) refl

-- A row more is shown.

pub shown-more : (hidden : List NodeRef) (forest : List Server) (rows : List NodeRef) (i : ℕ)
    (row d : NodeRef) → i < length rows → row ≡ get_or rows i d
    → is_barred row hidden forest ≡ false → AreNotBarred hidden forest (take i rows)
    → AreNotBarred hidden forest (take (i + 1) rows)
shown-more hidden forest rows i row d l e out shown = record {
  each = λ at t. go at (is_row (take i rows) at) refl (sym (list_any_more
      (λ r. same_node r at) rows i d l) ∙ t);
}
  where
    go : (at : NodeRef) (b : Bool) → is_row (take i rows) at ≡ b
        → (is_row (take i rows) at || same_node (get_or rows i d) at) ≡ true
        → is_barred at hidden forest ≡ false
    go at true s t = shown.each at s
    go at false s t =
        let here : same_node (get_or rows i d) at ≡ true =
        sym (ap (λ b. b || same_node (get_or rows i d) at) s) ∙ t in
        let same : row ≡ at = e ∙ same_ref (get_or rows i d) at here in
        subst (λ r. is_barred r hidden forest ≡ false) same out

-- A member whose fault is known.

module _ (policy : Policy) (forest : List Server) (rows : List NodeRef) (at : NodeRef) where
  -- a row that is shown has none
  pub fault-row : IsForest forest → AreNotBarred policy.hidden forest rows
      → is_row rows at ≡ true → member_fault policy forest rows at ≡ None
  fault-row sound shown row =
      go (is_hidden at policy.hidden) (is_inside at policy.hidden forest) refl refl
    where
      barred : (is_hidden at policy.hidden || is_inside at policy.hidden forest) ≡ false
      barred =
          sym (barred_is_hidden_or_inside policy.hidden forest at sound) ∙ shown.each at row

      never : (b : Bool) → where_true (b && not true) Missing ≡ None
      never true = refl
      never false = refl

      there : is_hidden at policy.hidden ≡ false → (o : Option Node)
          → option_and_then (node_fault policy forest rows at) o ≡ None
      there hid None = refl
      there hid (Some n) =
          rw (hid, row) (never (is_passable policy.users policy.groups n))

      go : (h i : Bool) → is_hidden at policy.hidden ≡ h → is_inside at policy.hidden forest ≡ i
          → member_fault policy forest rows at ≡ None
      go true i p q =
          clash (is_hidden at policy.hidden || is_inside at policy.hidden forest)
          (ap (λ b. b || is_inside at policy.hidden forest) p) barred
      go false true p q =
          clash (is_hidden at policy.hidden || is_inside at policy.hidden forest)
          (rw (p, q) refl) barred
      go false false p q = rw q (there p (node_of at forest))

  module _ (n : Node) (here : node_of at forest ≡ Some n)
      (outside : is_inside at policy.hidden forest ≡ false) where
    -- a hidden directory has those of hidden ones alone: what nobody may use or rules nobody passes
    pub fault-hidden : is_hidden at policy.hidden ≡ true
        → member_fault policy forest rows at ≡ hidden_fault policy forest at n
    fault-hidden hid = rw (outside, here, hid) (go (is_open policy.users policy.groups n)
        (is_owned policy.users policy.groups n) (is_removable policy forest at n) refl refl)
      where
        go : (a b c : Bool) → is_open policy.users policy.groups n ≡ a
            → is_owned policy.users policy.groups n ≡ b
            → option_or (if a then Some Open else if b then Some Owned
            else where_true c Removable)
            (where_true (is_passable policy.users policy.groups n && not (is_row rows at)) Missing)
            ≡ (if a then Some Open else if b then Some Owned else where_true c Removable)
        go true b c p q = refl
        go false true c p q = refl
        go false false true p q = refl
        go false false false p q =
            ap (λ b. where_true (b && not (is_row rows at)) Missing)
            (shut-not-passable policy.users policy.groups n (rw (p, q) refl))
