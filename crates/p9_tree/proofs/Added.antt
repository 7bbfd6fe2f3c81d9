-- A server with a new node is well-formed.
use Rattle.std.proofs.Common.{◌≡◌, ℕ, ◌+◌, ◌<◌, true, List, [], ◌∷◌, ◌++◌, ◌⊎◌, Some, None, IsTrue}
use Rattle.std.proofs.Common.{refl, sym, ap, ◌∙◌, subst, inl, inr, arith}
use Rattle.std.specs.Option.{option_or}
use Rattle.std.specs.Str.{bytes_eq}
use Rattle.std.proofs.lemmas.List.Folds.{find-append}
use Rattle.std.proofs.lemmas.Bool.Decides.{nat_tests}
use Rattle.std.proofs.lemmas.Slice.Eq.{bytes_eq-Decides}
use Rattle.std.proofs.lemmas.List.Elements.{All-push, All-weaker, All-get_or}
use Rattle.std.proofs.lemmas.List.Quantifiers.{all_pairs_push}
use Rattle.p9_base.specs.Name.{is_name}
use Rattle.p9_tree.specs.Node.{Node, IsTellable, has_number}
use Rattle.p9_tree.specs.Server.{Server, node_at, child_of, is_dir_at, IsSound, WellFormed, CanAdd}
use Rattle.p9_tree.specs.Server.{added}
use Rattle.p9_tree.proofs.Lookups.{number-node_at, All-node_at, node_at-past}

-- where a directory has no child of a name, no node of that name is in it
pub child_of-None : (dir k : ℕ) (xs : List Node) (n : Node) → child_of dir n.name xs ≡ None
    → node_at k xs ≡ Some n → n.parent ≡ Some dir → ⊥
child_of-None dir k [] n free e in_dir = cc
child_of-None dir k (x ∷ xs) n free e in_dir =
    let same_name : bytes_eq n.name n.name ≡ true = (bytes_eq-Decides n.name n.name).1 refl in
    grind (arith, nat_tests, child_of-None dir k xs n)

module _ (s : Server) (dir : ℕ) (n : Node) (w : WellFormed s) (can : CanAdd s dir n)
    (number : n.number ≡ s.next) (parent : n.parent ≡ Some dir) (name : IsTrue (is_name n.name))
    (told : IsTellable n) where
  absent : node_at s.next s.nodes ≡ None
  absent = node_at-past s.next s.nodes w.below

  -- what is found then is the new node, or was there
  found : (k : ℕ) (m : Node) → node_at k (s.nodes ++ n ∷ []) ≡ Some m
      → ((k ≡ s.next) × (n ≡ m)) ⊎ (node_at k s.nodes ≡ Some m)
  found k m e =
      grind (arith, nat_tests, absent, number, find-append (has_number k) s.nodes (n ∷ []))

  kept : (k : ℕ) (m : Node) → node_at k s.nodes ≡ Some m → node_at k (s.nodes ++ n ∷ []) ≡ Some m
  kept k m e =
      find-append (has_number k) s.nodes (n ∷ []) ∙ ap (λ o. option_or o (node_at k (n ∷ []))) e

  dir_kept : (k : ℕ) → IsTrue (is_dir_at k s.nodes) → IsTrue (is_dir_at k (s.nodes ++ n ∷ []))
  dir_kept k h = grind (arith, find-append (has_number k) s.nodes (n ∷ []))

  old_below : (k : ℕ) (m : Node) → node_at k s.nodes ≡ Some m → k < s.next
  old_below k m e =
      omega (
        arith,
        All-node_at (λ n. n.number < s.next) k s.nodes m w.below e,
        number-node_at k
            s.nodes m e,
      )

  dir_below : (k : ℕ) → IsTrue (is_dir_at k s.nodes) → k < s.next
  dir_below k h = grind (arith, old_below k)

  parent_of_new : (p : ℕ) (m : Node) → n ≡ m → m.parent ≡ Some p → p ≡ dir
  parent_of_new p m new in_p =
      let of_m : n.parent ≡ m.parent = ap (λ (x : Node). x.parent) new in cc

  sound_new : IsSound n
  sound_new = record {
    small = can.small;
    empty_dir = can.empty_dir;
    valid_name = λ p e. name;
    root_name = λ e. absurd (cc);
    tellable = told;
  }

  pub WellFormed-added : WellFormed (added s n)
  WellFormed-added = record {
    few = omega (arith, can.number_left);
    rising =
        all_pairs_push (λ m n. m.number < n.number) s.nodes n w.rising
        (λ k d lt. omega
        (arith, number, All-get_or (λ n. n.number < s.next) s.nodes k d lt w.below));
    below =
        All-push (λ m. m.number < s.next + 1) s.nodes n
        (All-weaker (λ m. m.number < s.next) (λ m. m.number < s.next + 1) (λ m h. omega arith)
        s.nodes w.below) (omega (arith, number));
    sound =
        λ k m e. elim
        (found k m e) [ inl new ↦ subst IsSound new.1 sound_new | inr old ↦ w.sound k m old ];
    root = dir_kept 0 w.root;
    only_root =
        λ k m e no_parent. elim
        (found k m e) [
          | inl new ↦
              (let of_m : n.parent ≡ m.parent = ap (λ (x : Node). x.parent) new.1 in absurd (cc))
          | inr
              old ↦ w.only_root k m old no_parent
        ];
    parent_below =
        λ k p m e in_p. elim
        (found k m e) [
          | inl new ↦
              (let same : p ≡ dir = parent_of_new p m new.1 in_p in
              omega (arith, dir_below dir can.into))
          | inr old ↦ w.parent_below k p m old in_p
        ];
    parent_dir =
        λ k p m e in_p. elim
        (found k m e) [
          | inl new ↦ subst (λ q. IsTrue (is_dir_at q (s.nodes ++ n ∷ [])))
              (sym (parent_of_new p m new.1 in_p)) (dir_kept dir can.into)
          | inr old ↦ dir_kept p
              (w.parent_dir k p m old in_p)
        ];
    siblings = λ j k p a b e1 e2 in_a in_b same. elim (found j a e1) [
      | inl new ↦ elim
          (found k b e2) [
            | inl new2 ↦ omega arith
            | inr old ↦ absurd
                (child_of-None dir k s.nodes b
                (subst (λ name. child_of dir name s.nodes ≡ None)
                (ap (λ (x : Node). x.name) new.1 ∙ same)
                can.free) old (let q : p ≡ dir = parent_of_new p a new.1 in_a in cc))
          ]
      | inr old ↦ elim
          (found k b e2) [
            | inl new ↦ absurd
                (child_of-None dir j s.nodes a
                (subst (λ name. child_of dir name s.nodes ≡ None)
                (ap (λ (x : Node). x.name) new.1 ∙ sym same) can.free) old
                (let q : p ≡ dir = parent_of_new p b new.1 in_b in cc))
            | inr old2 ↦ w.siblings j k p a b
                old old2 in_a in_b same
          ]
    ];
  }
