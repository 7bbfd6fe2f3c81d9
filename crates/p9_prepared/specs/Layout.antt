-- Which lines of an input are bad section lines.
use Rattle.std.specs.Prelude.{◌≡◌, ℕ, ◌&&◌, ◌||◌, Bool, true, false, not, List, Option, Some, None}
use Rattle.std.specs.Prelude.{Ok, Err, find, is_some}
use Rattle.std.specs.List.{list_all}
use Rattle.std.specs.Option.{option_map}
use Rattle.p9_base.specs.Line.{is_blank}
use Rattle.p9_prepared.specs.Bundle.{Reading, with_numbered_line}
use Rattle.p9_prepared.specs.Section.{may_follow}
use Rattle.p9_prepared.specs.declared.head.Head.{Head}
use Rattle.p9_prepared.specs.declared.head.Head.TheVariants.{Other, Begins, Bad}
use Rattle.p9_prepared.specs.declared.layout.InputLine.{InputLine}
use Rattle.p9_prepared.specs.declared.layout.Progress.{Progress}

-- the number of the first line that is a bad section line
abbrev pub first_bad : List InputLine → Option ℕ
first_bad lines = option_map (λ line. line.number) (find (λ line. is_some line.way) lines)

-- a line with this head is bad: its section may not follow the last one, or, behind a bad line, was
-- begun before; or it is text before the first section
abbrev pub is_bad : Progress → Head → List ℕ → (begun : Bool) → Bool
is_bad p (Bad section way) line begun = true
is_bad p (Begins section) line begun = not (may_follow p.last section && not (p.damaged && begun))
is_bad p Other line begun = not (p.headed || list_all is_blank line)

-- how far the sections are read behind a line with this head
abbrev pub behind : Progress → Head → (bad : Bool) → Progress
behind p Other bad = record p { damaged = p.damaged || bad }
behind p (Begins section) bad =
    record { last = Some section; headed = true; damaged = p.damaged || bad }
behind p (Bad (Some section) way) bad =
    record { last = Some section; headed = true; damaged = p.damaged || bad }
behind p (Bad None way) bad =
    record { last = p.last; headed = true; damaged = p.damaged || bad }

-- no line was bad, and a line said something of sections exactly where a section was begun
abbrev pub IsWhole : Progress → Type 0
IsWhole p = (p.damaged ≡ false) × (p.headed ≡ is_some p.last)

-- a line does to the sections that are read so far what it does to those of a bundle, which have the
-- same last one; or it is bad in both
abbrev pub Steps : (number : ℕ) → (bad : Bool) → Progress → List ℕ → Reading → Type 0
Steps number true new line reading = with_numbered_line reading (number, line) ≡ Err number
Steps number false new line reading =
    (next : Reading) × (with_numbered_line reading (number, line) ≡ Ok next)
    × (next.last ≡ new.last) × IsWhole new

-- a line is read, where no line before it was bad
abbrev pub IsRead : Progress → List ℕ → (bad : Bool) → Progress → Type 0
IsRead old line bad new =
    IsWhole old → (number : ℕ) (reading : Reading) → reading.last ≡ old.last
    → Steps number bad new line reading
