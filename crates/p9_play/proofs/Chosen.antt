-- What is chosen where two tests pass.
use Rattle.std.proofs.Common.{◌≡◌, ◌&&◌, Bool, true, false, refl}
use Rattle.std.specs.Prelude.{if◌then◌else◌}

pub chosen : {X : Type 0} (a b : Bool) (x y : X) → a ≡ true → b ≡ true
    → (if a && b then x else y) ≡ x
chosen true true x y one two = refl
chosen true false x y one two = absurd (cc)
chosen false b x y one two = absurd (cc)
