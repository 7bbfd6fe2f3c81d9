-- Boxes that are placed one after another.
use Rattle.std.proofs.Common.{◌≡◌, ℕ, ◌+◌, ◌<◌, List, [], ◌∷◌, ◌++◌, length, map, take, get_or, sym}
use Rattle.std.proofs.Common.{ap, ◌∙◌, subst}
use Rattle.std.specs.List.{All, AllPairs}
use Rattle.std.proofs.lemmas.List.{map_push, take_more}
use Rattle.std.proofs.lemmas.List.Elements.{All-append, All-cons, All-nil}
use Rattle.std.proofs.lemmas.List.Quantifiers.{all_pairs_push}
use Rattle.p9_map.specs.Pen.{IsBefore}
use Rattle.p9_map.specs.Rect.{AreApart}
use Rattle.p9_map.specs.declared.item.Item.{Item}
use Rattle.p9_map.specs.declared.item.Placed.{Placed}
use Rattle.p9_map.specs.declared.pen.Pen.{Pen}
use Rattle.p9_map.specs.declared.rect.Rect.{Rect}

-- the boxes are those of the items, are apart, and lie before what the pen places next
pub record AreLaid (items : List Item) (boxes : List Placed) (pen : Pen) : Type 0 where
  pub nodes : map (λ p. p.node) boxes ≡ map (λ i. i.node) items
  pub apart : AllPairs (λ p q. AreApart p.rect q.rect) boxes
  pub before : All (λ p. IsBefore p.rect pen) boxes

module _ (items : List Item) (i : ℕ) (boxes after : List Placed) (pen next : Pen) where
  pub laid-more : (item d : Item) (placed : Placed) → i < length items → item ≡ get_or items i d
      → placed.node ≡ item.node
      → ((r : Rect) → IsBefore r pen → AreApart r placed.rect)
      → ((r : Rect) → IsBefore r pen → IsBefore r next)
      → IsBefore placed.rect next
      → after ≡ boxes ++ placed ∷ []
      → AreLaid (take i items) boxes pen
      → AreLaid (take (i + 1) items) after next
  laid-more item d placed l at node apart kept own is laid =
      let grown : AreLaid (take (i + 1) items) (boxes ++ placed ∷ []) next = record {
        nodes =
            map_push (λ p. p.node) boxes placed
            ∙ ap (λ ns. ns ++ placed.node ∷ []) laid.nodes
            ∙ ap (λ n. map (λ i. i.node) (take i items) ++ n ∷ []) (node ∙ ap (λ i. i.node) at)
            ∙ sym (map_push (λ i. i.node) (take i items) (get_or items i d))
            ∙ ap (map (λ i. i.node)) (sym (take_more items i d l));
        apart =
            all_pairs_push (λ p q. AreApart p.rect q.rect) boxes placed laid.apart
            (λ k d l. apart (get_or boxes k d).rect (laid.before k d l));
        before =
            All-append (λ p. IsBefore p.rect next) boxes (placed ∷ [])
            (λ k d l. kept (get_or boxes k d).rect (laid.before k d l))
            (All-cons (λ p. IsBefore p.rect next) placed [] own (All-nil (λ p. IsBefore p.rect next)));
      } in
      subst (λ bs. AreLaid (take (i + 1) items) bs next) (sym is) grown
