-- Inputs of p9.
use Rattle.std.specs.Prelude.{ℕ, Bool, List}
use Rattle.std.specs.List.{list_any}
use Rattle.std.specs.Str.{bytes_eq}
use Rattle.p9_prepared.specs.Section.{head_of}
use Rattle.p9_prepared.specs.declared.section.Section.TheVariants.{World}

-- a line begins a world section
abbrev pub has_world : List (List ℕ) → Bool
has_world lines = list_any (λ line. bytes_eq line (head_of World)) lines
