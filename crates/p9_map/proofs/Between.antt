-- Links that are added one after another.
use Rattle.std.proofs.Common.{◌≡◌, List, [], ◌∷◌, ◌++◌, subst, sym}
use Rattle.std.specs.List.{All}
use Rattle.std.proofs.lemmas.List.Elements.{All-append, All-cons, All-nil}

-- one more of which a fact holds
pub all-push : {X : Type 0} (P : X → Type 0) (xs after : List X) (x : X) → after ≡ xs ++ x ∷ []
    → P x → All P xs → All P after
all-push P xs after x is holds all =
    subst (All P) (sym is) (All-append P xs (x ∷ []) all (All-cons P x [] holds (All-nil P)))
