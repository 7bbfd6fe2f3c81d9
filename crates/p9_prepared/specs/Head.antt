-- What a line says of sections.
use Rattle.std.specs.Prelude.{◌≡◌, ℕ, nat_eq, Bool, true, false, List, Some, None, codes}
use Rattle.std.specs.List.{list_all, starts_with}
use Rattle.p9_base.specs.Line.{is_blank}
use Rattle.p9_prepared.specs.Section.{section_of}
use Rattle.p9_prepared.specs.declared.head.Head.{Head}
use Rattle.p9_prepared.specs.declared.head.Head.TheVariants.{Other, Begins, Bad}

-- a line is to begin a section, or to be refused
abbrev pub is_marked : List ℕ → Bool
is_marked line = starts_with nat_eq line (codes "%%")

-- a line is bad: it is to begin a section and begins none, or is not blank where no line before it says
-- something of sections
abbrev pub IsBadHead : List ℕ → (headed marked : Bool) → Type 0
IsBadHead line headed true = section_of line ≡ None
IsBadHead line headed false = (headed ≡ false) × (list_all is_blank line ≡ false)

-- what a line says of sections, where a line before it says something of them, or none does
abbrev pub IsHead : List ℕ → (headed : Bool) → Head → Type 0
IsHead line headed Other = is_marked line ≡ false
IsHead line headed (Begins section) = (is_marked line ≡ true) × (section_of line ≡ Some section)
IsHead line headed (Bad section way) = IsBadHead line headed (is_marked line)
