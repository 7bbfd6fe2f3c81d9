-- Nodes that follow each other.
use Rattle.std.proofs.Common.{◌≡◌, ℕ, zero, suc, ◌-◌, ◌<◌, List, [], ◌∷◌, ◌++◌, Option, Some}
use Rattle.std.proofs.Common.{None, refl, sym, ap, ◌∙◌, subst, arith, option_and_then}
use Rattle.std.specs.Option.{option_or}
use Rattle.p9_base.specs.declared.node_ref.NodeRef.{NodeRef}
use Rattle.p9_tree.specs.Server.{Server}
use Rattle.p9_map.specs.Order.{Leads, child_spot, dir_of, next_beside, next_spot}
use Rattle.p9_map.specs.declared.order.Spot.{Spot}

module _ (forest : List Server) where
  -- one node more
  pub leads-push : (first : Option Spot) (spots : List Spot) (s : Spot)
      → Leads forest first spots (Some s) → Leads forest first (spots ++ s ∷ []) (next_spot forest s)
  leads-push first [] s leads = (leads, refl)
  leads-push first (t ∷ ts) s leads = (leads.0, leads-push (next_spot forest t) ts s leads.1)

  pub leads-more : (first next after : Option Spot) (spots grown : List Spot) (s : Spot)
      → next ≡ Some s → grown ≡ spots ++ s ∷ [] → after ≡ next_spot forest s
      → Leads forest first spots next → Leads forest first grown after
  leads-more first next after spots grown s some is then leads =
      subst (λ ss. Leads forest first ss after) (sym is)
      (subst (λ n. Leads forest first (spots ++ s ∷ []) n) (sym then)
      (leads-push first spots s (subst (Leads forest first spots) some leads)))

  pub leads-end : (first next : Option Spot) (spots : List Spot) → next ≡ None
      → Leads forest first spots next → Leads forest first spots None
  leads-end first next spots none leads = subst (Leads forest first spots) none leads

  -- The way up from a node.

  -- it is in no directory
  pub beside-top : (left : ℕ) (s : Spot) → dir_of forest s.node ≡ None
      → next_beside forest left s ≡ None
  unfolding next_beside
  beside-top zero s top = refl
  beside-top (suc left) s top =
      ap (option_and_then (λ dir. option_or (child_spot forest dir (Some s.node.number) s.depth)
      (next_beside forest left (record { node = dir; depth = s.depth - 1 })))) top

  -- there is one beside it
  pub beside-found : (left : ℕ) (s next : Spot) (dir : NodeRef) → 0 < left
      → dir_of forest s.node ≡ Some dir
      → child_spot forest dir (Some s.node.number) s.depth ≡ Some next
      → next_beside forest left s ≡ Some next
  unfolding next_beside
  beside-found zero s next dir some in' found = absurd (omega arith)
  beside-found (suc left) s next dir some in' found =
      ap (option_and_then (λ dir. option_or (child_spot forest dir (Some s.node.number) s.depth)
      (next_beside forest left (record { node = dir; depth = s.depth - 1 })))) in'
      ∙ ap (λ o. option_or o (next_beside forest left (record { node = dir; depth = s.depth - 1 })))
      found

  -- there is none, so one is looked for further up
  pub beside-up : (left : ℕ) (s : Spot) (dir : NodeRef) → 0 < left
      → dir_of forest s.node ≡ Some dir
      → child_spot forest dir (Some s.node.number) s.depth ≡ None
      → next_beside forest left s ≡ next_beside forest (left - 1) (record { node = dir; depth = s.depth - 1 })
  unfolding next_beside
  beside-up zero s dir some in' none = absurd (omega arith)
  beside-up (suc left) s dir some in' none =
      let less : suc left - 1 ≡ left = omega arith in
      ap (option_and_then (λ dir. option_or (child_spot forest dir (Some s.node.number) s.depth)
      (next_beside forest left (record { node = dir; depth = s.depth - 1 })))) in'
      ∙ ap (λ o. option_or o (next_beside forest left (record { node = dir; depth = s.depth - 1 })))
      none
      ∙ ap (λ k. next_beside forest k (record { node = dir; depth = s.depth - 1 })) (sym less)

  -- no directory is left
  pub beside-none : (left : ℕ) (s : Spot) → left ≡ 0 → next_beside forest left s ≡ None
  unfolding next_beside
  beside-none left s none = ap (λ k. next_beside forest k s) none
