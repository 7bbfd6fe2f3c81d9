-- What the sections of a bundle say.
use Rattle.std.specs.Prelude.{◌≡◌, ℕ, List, Option}
use Rattle.std.specs.Option.{option_map}
use Rattle.p9_base.specs.Statement.{statements_of}
use Rattle.p9_prepared.specs.Bundle.{Texts}

-- the statements of a section's text, if the section is there
abbrev pub statements_in : Option (List ℕ) → Option (List (ℕ × List (List ℕ)))
statements_in section = option_map statements_of section

-- each section says the same, line by line
pub record SameStatements (a b : Texts) : Type 0 where
  pub world : statements_in a.world ≡ statements_in b.world
  pub ns : statements_in a.ns ≡ statements_in b.ns
  pub cert : statements_in a.cert ≡ statements_in b.cert
  pub script : statements_in a.script ≡ statements_in b.script
