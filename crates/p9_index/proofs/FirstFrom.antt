-- The first node whose number is at least one, in the map and in the list of nodes.
use Rattle.std.proofs.Common.{◌≡◌, ◌∙◌, ℕ, List, [], ◌∷◌, Some, None, ap, arith, refl, sym}
use Rattle.std.specs.BTreeMap.Range.{entries_between}
use Rattle.std.specs.declared.ops.Bound.TheVariants.{Included, Unbounded}
use Rattle.std.specs.List.{slice_get}
use Rattle.std.specs.Map.{values_of}
use Rattle.std.specs.Option.{option_map}
use Rattle.std.specs.Ordering.{nat_cmp}
use Rattle.std.proofs.lemmas.Bool.Decides.{nat_tests}
use Rattle.p9_index.proofs.Nodes.{IsKeyed, keyed_head, keyed_tail}
use Rattle.p9_tree.specs.Node.{Node}
use Rattle.p9_tree.specs.From.{node_from}

-- it is the first of those in the range from the number on
node_from-range : (k : ℕ) (es : List (ℕ × Node)) → IsKeyed es
    → node_from k (values_of es)
    ≡ option_map (λ (e : ℕ × Node). e.1)
    (slice_get (entries_between nat_cmp (Included k) Unbounded es) 0)
node_from-range k [] keyed = refl
node_from-range k (e ∷ es) keyed =
    let here : e.1.number ≡ e.0 = keyed_head e es keyed in
    grind (arith, nat_tests, node_from-range k es (keyed_tail e es keyed))

module _ (k : ℕ) (es range : List (ℕ × Node)) (keyed : IsKeyed es)
    (between : range ≡ entries_between nat_cmp (Included k) Unbounded es) where
  pub first-some : (e : ℕ × Node) (rest : List (ℕ × Node)) → range ≡ e ∷ rest
      → Some e.1 ≡ node_from k (values_of es)
  first-some e rest first =
      sym (node_from-range k es keyed
      ∙ ap (λ (r : List (ℕ × Node)). option_map (λ (e : ℕ × Node). e.1) (slice_get r 0))
      (sym between ∙ first))

  pub first-none : range ≡ [] → None ≡ node_from k (values_of es)
  first-none empty =
      sym (node_from-range k es keyed
      ∙ ap (λ (r : List (ℕ × Node)). option_map (λ (e : ℕ × Node). e.1) (slice_get r 0))
      (sym between ∙ empty))
