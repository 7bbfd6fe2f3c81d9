-- The sections of an input.
use Rattle.std.specs.Prelude.{ℕ, Bool, true, nat_lt, List, [], ◌∷◌, Option, Some, None, codes, find}
use Rattle.std.specs.Str.{bytes_eq}
use Rattle.p9_prepared.specs.declared.section.Section.{Section}
use Rattle.p9_prepared.specs.declared.section.Section.TheVariants.{World, Ns, Cert, Script}

-- the sections, in the order in which they are
abbrev pub sections : List Section
sections = World ∷ Ns ∷ Cert ∷ Script ∷ []

-- a section's place among all
abbrev pub place_of : Section → ℕ
place_of World = 0
place_of Ns = 1
place_of Cert = 2
place_of Script = 3

-- the line that begins a section
abbrev pub head_of : Section → List ℕ
head_of World = codes "%% world"
head_of Ns = codes "%% ns"
head_of Cert = codes "%% cert"
head_of Script = codes "%% script"

-- its name, by which its lines are told
abbrev pub name_of : Section → List ℕ
name_of World = codes "world"
name_of Ns = codes "ns"
name_of Cert = codes "cert"
name_of Script = codes "script"

-- the section that a line begins
abbrev pub section_of : List ℕ → Option Section
section_of line = find (λ section. bytes_eq line (head_of section)) sections

-- whether a section may follow the one before, if there is one: each is once, and in its place
abbrev pub may_follow : Option Section → Section → Bool
may_follow None section = true
may_follow (Some last) section = nat_lt (place_of last) (place_of section)
