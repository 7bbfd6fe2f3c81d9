-- A list that is seen through a view, when an element joins.
use Rattle.std.proofs.Common.{◌≡◌, List, [], ◌∷◌, ◌++◌, map, ap, ◌∙◌}
use Rattle.std.proofs.lemmas.List.{map_push}

-- one element more
pub map-joined : {X Y : Type 0} (f : X → Y) (xs joined : List X) (x : X) (y : Y)
    → joined ≡ xs ++ x ∷ [] → f x ≡ y → map f joined ≡ map f xs ++ y ∷ []
map-joined f xs joined x y joins seen =
    ap (map f) joins ∙ map_push f xs x ∙ ap (λ z. map f xs ++ z ∷ []) seen
