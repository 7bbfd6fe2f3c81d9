-- Elements of SVG, as they are written.
use Rattle.std.specs.Prelude.{ℕ, List, ◌++◌, codes}
use Rattle.std.specs.Fmt.{decimal}
use Rattle.p9_map.specs.Escape.{escaped_text}

-- a text of a class that begins at a point
unfoldable pub text_element : (class : List ℕ) (x y : ℕ) (text : List ℕ) → List ℕ
text_element class x y text =
    codes "<text x=\"" ++ decimal x ++ codes "\" y=\"" ++ decimal y ++ codes "\" class=\"" ++ class
    ++ codes "\">" ++ escaped_text text ++ codes "</text>\n"
