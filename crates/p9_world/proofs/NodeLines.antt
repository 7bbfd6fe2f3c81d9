-- The lines of a text that make nodes, statement by statement.
use Rattle.std.proofs.Common.{◌≡◌, ◌<◌, ◌≤◌, ◌+◌, ◌∙◌, ℕ, List, [], arith, ap, drop, fold, length, map, sym}
use Rattle.std.proofs.Common.{get_or}
use Rattle.std.proofs.lemmas.List.{drop_all, drop_more, get_or-map, length-map}
use Rattle.p9_base.specs.Statement.{statements_of}
use Rattle.p9_world.specs.NodeLine.{Noted, node_lines_of, with_node_line}
use Rattle.p9_world.specs.World.{empty_world}

module _ {S X Y : Type 0} (step : S → Y → S) (view : X → Y) (items : List X) (ys : List Y)
    (same : map view items ≡ ys) (state : S) (i : ℕ) where
  -- one item more
  pub fold-next : (next : S) (x d : X) → i < length items → x ≡ get_or items i d
      → step state (view x) ≡ next →
      fold step next (drop (i + 1) ys) ≡ fold step state (drop i ys)
  fold-next next x d l at made =
      let short : i < length ys = omega (arith, ap length same, length-map items view) in
      let here : get_or ys i (view x) ≡ view x =
      ap (λ ys. get_or ys i (view x)) (sym same) ∙ get_or-map view items i d (view x) l
      ∙ ap view (sym at) in
      sym (ap (fold step state) (drop_more ys i (view x) short)
      ∙ ap (λ y. fold step (step state y) (drop (i + 1) ys)) here
      ∙ ap (λ s. fold step s (drop (i + 1) ys)) made)

  -- after the last item
  pub fold-end : length items ≤ i → fold step state (drop i ys) ≡ state
  fold-end l =
      ap (fold step state)
      (drop_all i ys (omega (arith, ap length same, length-map items view)))

-- a text of which all statements are read
pub node_lines-all : {X : Type 0} (view : X → ℕ × List (List ℕ)) (items : List X) (text : List ℕ)
    → map view items ≡ statements_of text → (n : Noted) (i : ℕ) → length items ≤ i
    → fold with_node_line n (drop i (statements_of text))
    ≡ fold with_node_line (record { world = empty_world; lines = [] }) (statements_of text)
    → n.lines ≡ node_lines_of text
unfolding node_lines_of
node_lines-all view items text same n i all kept =
    ap (λ (n : Noted). n.lines)
    (sym (fold-end with_node_line view items (statements_of text) same n i all) ∙ kept)
