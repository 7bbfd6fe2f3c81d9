-- Nodes stay in order where one is changed, taken out or added.
use Rattle.std.proofs.Common.{◌≡◌, ℕ, zero, suc, ◌<◌, Bool, true, false, List, [], ◌∷◌, ◌++◌, ◌⊎◌}
use Rattle.std.proofs.Common.{inl, inr, Option, Some, None, refl, sym, ap, ◌∙◌, subst, arith, All}
use Rattle.std.proofs.Common.{AllPairs, cond, eqb, get_or, length}
use Rattle.std.specs.Prelude.{position, remove}
use Rattle.std.proofs.lemmas.List.Elements.{All-cons, All-head, All-tail}
use Rattle.std.proofs.lemmas.List.Quantifiers.{all_pairs_push, all_pairs_remove}
use Rattle.p9_tree.specs.Node.{Node, has_number}
use Rattle.p9_tree.specs.Server.{changed_at, dropped_at, node_at}
use Rattle.p9_tree.proofs.Dropped.{node_at-dropped_at}
use Rattle.p9_tree.proofs.Lookups.{absent-dropped_at, position_within, remove-dropped_at}
use Rattle.p9_inside.specs.Changes.{KeepsParent}
use Rattle.p9_inside.proofs.Pass.{IsOrdered}
use Rattle.p9_inside.proofs.Facts.{not_some, some_same}
use Rattle.p9_inside.proofs.Found.{node_changed, node_pushed}

module _ (k : ℕ) (g : Node → Node) (keeps : KeepsParent g) where
  length_changed : (xs : List Node) → length (changed_at k g xs) ≡ length xs
  length_changed [] = refl
  length_changed (x ∷ xs) = grind (arith, length_changed xs)

  number_changed : (xs : List Node) (i : ℕ) (d : Node)
      → (get_or (changed_at k g xs) i d).number ≡ (get_or xs i d).number
  number_changed [] i d = refl
  number_changed (x ∷ xs) zero d = grind (arith, keeps.number x)
  number_changed (x ∷ xs) (suc i) d = grind (arith, number_changed xs i d)

  pub changed_ordered : (xs : List Node) → IsOrdered xs → IsOrdered (changed_at k g xs)
  changed_ordered xs o = record {
    rising =
        λ i j d lt within.
        let a = number_changed xs i d in
        let b = number_changed xs j d in
        let c = o.rising i j d lt (subst (λ m. j < m) (length_changed xs) within) in
        omega arith;
    parents = λ j p y e in_p. told j p y in_p (node_changed k j g keeps xs y e);
  }
    where
      told : (j p : ℕ) (y : Node) → y.parent ≡ Some p
          → (x : Node) × (node_at j xs ≡ Some x) × ((y ≡ x) ⊎ ((j ≡ k) × (y ≡ g x))) → p < j
      told j p y in_p w = elim w.2 [
        | inl same ↦ o.parents j p w.0 w.1 (sym (ap (λ (z : Node). z.parent) same) ∙ in_p)
        | inr new ↦ o.parents j p w.0 w.1
            (sym (keeps.parent w.0) ∙ (sym (ap (λ (z : Node). z.parent) new.1) ∙ in_p))
      ]

  pub changed_below : (top : ℕ) (xs : List Node) → All (λ n. n.number < top) xs
      → All (λ n. n.number < top) (changed_at k g xs)
  changed_below top xs low i d within =
      let a = number_changed xs i d in
      let b = low i d (subst (λ m. i < m) (length_changed xs) within) in omega arith

dropped_rising : (k : ℕ) (xs : List Node) → AllPairs (λ m n. m.number < n.number) xs
    → AllPairs (λ m n. m.number < n.number) (dropped_at k xs)
dropped_rising k xs rising = go (position (has_number k) xs) refl
  where
    go : (i : Option ℕ) → position (has_number k) xs ≡ i
        → AllPairs (λ m n. m.number < n.number) (dropped_at k xs)
    go None e = subst (AllPairs (λ m n. m.number < n.number)) (absent-dropped_at k xs e) rising
    go (Some i) e =
        subst (AllPairs (λ m n. m.number < n.number))
        (remove-dropped_at k xs (remove xs i) i e refl)
        (all_pairs_remove (λ m n. m.number < n.number) xs i (position_within k xs i e).1 rising)

pub dropped_all : (P : Node → Type 0) (k : ℕ) (xs : List Node) → All P xs → All P (dropped_at k xs)
dropped_all P k [] all = all
dropped_all P k (x ∷ xs) all =
    let here : P x = All-head P x xs all in
    let later : All P xs = All-tail P x xs all in
    elim (eqb x.number k) as (λ b. All P (cond b xs (x ∷ dropped_at k xs))) [
      | true ↦ later
      | false ↦ All-cons P x (dropped_at k xs) here (dropped_all P k xs later)
    ]

pub dropped_ordered : (k : ℕ) (xs : List Node) → IsOrdered xs → IsOrdered (dropped_at k xs)
dropped_ordered k xs o = record {
  rising = dropped_rising k xs o.rising;
  parents = λ j p y e in_p. told (eqb j k) refl j p y e in_p;
}
  where
    told : (b : Bool) → b ≡ b → (j p : ℕ) (y : Node) → node_at j (dropped_at k xs) ≡ Some y
        → y.parent ≡ Some p → p < j
    told b same j p y e in_p = o.parents j p y (was (eqb j k) refl) in_p
      where
        is : node_at j (dropped_at k xs) ≡ cond (eqb j k) None (node_at j xs)
        is = node_at-dropped_at k j xs o.rising

        was : (c : Bool) → eqb j k ≡ c → node_at j xs ≡ Some y
        was true t = not_some y (sym (is ∙ rw t refl) ∙ e)
        was false t = sym (is ∙ rw t refl) ∙ e

pub joined_ordered : (xs : List Node) (x : Node) (under : ℕ) → IsOrdered xs
    → All (λ n. n.number < x.number) xs → x.parent ≡ Some under → under < x.number
    → IsOrdered (xs ++ x ∷ [])
joined_ordered xs x under o low parent below = record {
  rising = all_pairs_push (λ m n. m.number < n.number) xs x o.rising (λ i d lt. low i d lt);
  parents = λ j p y e in_p. elim (node_pushed j xs x y e) [
    | inl old ↦ o.parents j p y old in_p
    | inr new ↦
        (let same : p ≡ under =
        some_same p under (sym in_p ∙ (ap (λ (z : Node). z.parent) new.1 ∙ parent)) in
        let at : j ≡ x.number = new.0 in omega arith)
  ];
}
