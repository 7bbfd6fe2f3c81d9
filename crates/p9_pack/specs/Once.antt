-- Texts without repetition.
use Rattle.std.specs.Prelude.{ℕ, List, [], ◌∷◌, ◌++◌, if◌then◌else◌}
use Rattle.std.specs.List.{fold, list_any}
use Rattle.std.specs.Str.{bytes_eq}

-- a text joins those before it, unless it is among them
abbrev pub with_text : List (List ℕ) → List ℕ → List (List ℕ)
with_text texts text =
    if list_any (λ other. bytes_eq other text) texts then texts else texts ++ text ∷ []

-- each text where it is first
abbrev pub each_once : List (List ℕ) → List (List ℕ)
each_once texts = fold with_text [] texts
