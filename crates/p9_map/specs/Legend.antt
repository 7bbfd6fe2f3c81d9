-- What the legend says.
use Rattle.std.specs.Prelude.{ℕ, ◌==◌, List, [], ◌++◌, codes, if◌then◌else◌}
use Rattle.std.specs.Fmt.{decimal}
use Rattle.p9_map.specs.Svg.{text_element}

-- how many nodes have no box, and how many of these are marked
abbrev pub left_out_words : (left_out marked : ℕ) → List ℕ
left_out_words left_out marked =
    if marked == 0 then decimal left_out ++ codes " more have no box"
    else decimal left_out ++ codes " more have no box, " ++ decimal marked
    ++ codes " of them mounted, mounted upon or walked"

-- the line that says so, where not all have one
abbrev pub left_out_line : (y left_out marked : ℕ) → List ℕ
left_out_line y left_out marked =
    if left_out == 0 then []
    else text_element (codes "name") 24 y (left_out_words left_out marked)
