-- What a device in memory has had in it.
use Rattle.std.specs.Prelude.{◌≡◌, ◌⊎◌, ℕ, List, [], ◌∷◌, length, drop, Vec}
use Rattle.std.proofs.Common.{⊎_elim, arith, subst}
use Rattle.std.proofs.lemmas.List.{drop_all}

-- the bytes are those of one of these
abbrev pub HadBeen : {A : Type 0} → List (Vec ℕ A) → List ℕ → Type 0
HadBeen [] c = ⊥
HadBeen (v ∷ past) c = (c ≡ v.items) ⊎ HadBeen past c

-- since now there has been nothing else
pub only_bytes : {A : Type 0} (past : List (Vec ℕ A)) (bytes c : List ℕ) → (c ≡ bytes) ⊎ HadBeen (drop (length past) past) c → c ≡ bytes
only_bytes past bytes c left =
    ⊎_elim (λ now. now) (λ had. absurd (subst (λ l. HadBeen l c) (drop_all (length past) past (omega arith)) had)) left
