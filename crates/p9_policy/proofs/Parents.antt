-- Nodes that are hidden or inside, seen from their parents.
use Rattle.std.proofs.Common.{◌≡◌, ℕ, ◌+◌, ◌<◌, Bool, true, false, cond, ◌&&◌, ◌||◌, List, []}
use Rattle.std.proofs.Common.{◌∷◌, Option, Some, None, refl, sym, ap, ◌∙◌}
use Rattle.std.proofs.Common.{arith, option_and_then}
use Rattle.std.specs.Prelude.{filter, map, ◌==◌}
use Rattle.std.specs.Option.{option_map_or}
use Rattle.std.proofs.lemmas.Bool.{or_left}
use Rattle.p9_base.specs.declared.node_ref.NodeRef.{NodeRef}
use Rattle.p9_base.specs.NodeRef.{beside}
use Rattle.p9_tree.specs.Node.{Node}
use Rattle.p9_tree.specs.Server.{Server}
use Rattle.p9_tree.specs.Forest.{IsForest, node_of}
use Rattle.p9_tree.specs.Inside.{is_among, is_barred, is_hidden, is_inside}
use Rattle.p9_inside.proofs.Forests.{barred_is_hidden_or_inside, inside_by_barred_parent}
use Rattle.p9_inside.proofs.Forests.{server_ordered}
use Rattle.p9_policy.specs.Rows.{is_row}

-- a node is hidden where it is in the list
pub row_is_hidden : (hidden : List NodeRef) (at : NodeRef) → is_row hidden at ≡ is_hidden at hidden
unfolding is_hidden
row_is_hidden [] at = refl
row_is_hidden (r ∷ rs) at =
    elim (r.server == at.server) as
    (λ b. ((b && (r.number == at.number)) || is_row rs at)
    ≡ is_among (map (λ s. s.number)
    (cond b (r ∷ filter (λ s. s.server == at.server) rs)
    (filter (λ s. s.server == at.server) rs))) at.number) [
      | true ↦ ap (λ b. (r.number == at.number) || b) (row_is_hidden rs at)
      | false ↦ row_is_hidden rs at
    ]

-- a node of this parent is inside where the parent is barred
abbrev pub inside_under : List NodeRef → List Server → NodeRef → Option ℕ → Bool
inside_under hidden forest at parent =
    option_map_or (λ p. is_barred (beside at p) hidden forest) parent false

module _ (hidden : List NodeRef) (forest : List Server) (at : NodeRef) where
  -- a node is inside where what is under its parent is
  pub inside-under : (parent : Option ℕ) → parent ≡ option_and_then (λ n. n.parent) (node_of at forest)
      → inside_under hidden forest at parent ≡ is_inside at hidden forest
  inside-under parent e =
      ap (inside_under hidden forest at) e ∙ sym (inside_by_barred_parent hidden forest at)

  -- a node that doesn't exist is not inside
  pub inside-absent : node_of at forest ≡ None → is_inside at hidden forest ≡ false
  inside-absent e = sym (inside-under None (sym (ap (option_and_then (λ n. n.parent)) e)))

module _ (hidden : List NodeRef) (forest : List Server) (sound : IsForest forest) (at : NodeRef)
  where
    module _ (p : ℕ) where
      barred : is_barred (beside at p) hidden forest
          ≡ (is_hidden (beside at p) hidden || is_inside (beside at p) hidden forest)
      barred = barred_is_hidden_or_inside hidden forest (beside at p) sound

      -- a parent that is hidden is barred
      pub barred-hidden : is_hidden (beside at p) hidden ≡ true
          → is_barred (beside at p) hidden forest ≡ true
      barred-hidden h =
          barred ∙ or_left (is_hidden (beside at p) hidden) (is_inside
          (beside at p) hidden forest) h

      -- another is barred where its own parent is
      pub barred-up : is_hidden (beside at p) hidden ≡ false
          → inside_under hidden forest at
          (option_and_then (λ n. n.parent) (node_of (beside at p) forest))
          ≡ is_barred (beside at p) hidden forest
      barred-up h =
          sym (barred ∙ ap (λ b. b || is_inside (beside at p) hidden forest) h
          ∙ inside_by_barred_parent hidden forest (beside at p))

      -- and that has a smaller number
      pub above-smaller : (above : Option ℕ)
          → above ≡ option_and_then (λ n. n.parent) (node_of (beside at p) forest)
          → option_map_or (λ q. q + 1) above 0 < p + 1
      above-smaller above e = go (node_of (beside at p) forest) refl e
        where
          go : (o : Option Node) → node_of (beside at p) forest ≡ o
              → above ≡ option_and_then (λ n. n.parent) o → option_map_or (λ q. q + 1) above 0 < p + 1
          go None there none = rw none (omega arith)
          go (Some n) there is = rw is (by n.parent refl)
            where
              by : (parent : Option ℕ) → n.parent ≡ parent
                  → option_map_or (λ q. q + 1) parent 0 < p + 1
              by None own = omega arith
              by (Some q) own =
                  let less : q < p =
                  (server_ordered forest sound at.server).parents p q n there own in
                  omega arith
