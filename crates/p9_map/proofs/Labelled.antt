-- Labels that are added one after another.
use Rattle.std.proofs.Common.{◌≡◌, ℕ, ◌+◌, ◌<◌, List, [], ◌∷◌, ◌++◌, Option, length, map, take, get_or, sym, ap, ◌∙◌, subst}
use Rattle.std.specs.List.{AllZip}
use Rattle.std.proofs.lemmas.List.{map_push, take_more}
use Rattle.p9_world.specs.World.{World}
use Rattle.p9_map.specs.Label.{AreLabels, IsLabel, label_texts}
use Rattle.p9_map.specs.Walk.{Walk}
use Rattle.p9_map.specs.declared.label.Label.{Label}
use Rattle.p9_map.specs.declared.order.Spot.{Spot}

-- one more of both lists
zip-push : {A B : Type 0} (R : A → B → Type 0) (xs : List A) (ys : List B) (x : A) (y : B)
    → AllZip R xs ys → R x y → AllZip R (xs ++ x ∷ []) (ys ++ y ∷ [])
zip-push R [] [] x y all one = (one, tt)
zip-push R [] (b ∷ bs) x y all one = absurd all
zip-push R (a ∷ more) [] x y all one = absurd all
zip-push R (a ∷ more) (b ∷ bs) x y all one = (all.0, zip-push R more bs x y all.1 one)

module _ {B : Type 0} (world : World) (walk : Option Walk) (spots : List Spot) (i : ℕ)
    (labels after : List (Label B)) where
  pub labelled-more : (spot d : Spot) (label : Label B) → i < length spots → spot ≡ get_or spots i d
      → IsLabel world walk spot.node (label_texts label) → after ≡ labels ++ label ∷ []
      → AreLabels world walk (map (λ s. s.node) (take i spots)) (map label_texts labels)
      → AreLabels world walk (map (λ s. s.node) (take (i + 1) spots)) (map label_texts after)
  labelled-more spot d label l at one is so_far =
      let nodes : map (λ s. s.node) (take (i + 1) spots)
      ≡ map (λ s. s.node) (take i spots) ++ spot.node ∷ [] =
      ap (map (λ s. s.node)) (take_more spots i d l)
      ∙ map_push (λ s. s.node) (take i spots) (get_or spots i d)
      ∙ ap (λ s. map (λ s. s.node) (take i spots) ++ s.node ∷ []) (sym at) in
      let texts : map label_texts after ≡ map label_texts labels ++ label_texts label ∷ [] =
      ap (map label_texts) is ∙ map_push label_texts labels label in
      subst (λ ns. AreLabels world walk ns (map label_texts after)) (sym nodes)
      (subst (AreLabels world walk (map (λ s. s.node) (take i spots) ++ spot.node ∷ [])) (sym texts)
      (zip-push (IsLabel world walk) (map (λ s. s.node) (take i spots)) (map label_texts labels)
      spot.node (label_texts label) so_far one))
