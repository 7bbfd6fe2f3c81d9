-- Boxes, as they are written.
use Rattle.std.specs.Prelude.{ℕ, ◌+◌, ◌-◌, ◌*◌, ◌^◌, ◌==◌, Bool, List, [], ◌∷◌, ◌++◌, Option, Some, None, codes}
use Rattle.std.specs.Prelude.{is_some, length, min, if◌then◌else◌}
use Rattle.std.specs.Fmt.{decimal}
use Rattle.std.specs.List.{concat}
use Rattle.std.specs.Str.{chars}
use Rattle.p9_map.specs.Escape.{escaped_text}
use Rattle.p9_map.specs.Mark.{class_of}
use Rattle.p9_map.specs.Svg.{text_element}
use Rattle.p9_map.specs.declared.mark.Look.{Look}
use Rattle.p9_map.specs.declared.mark.Look.TheVariants.{Inside, Hidden, Reached, Plain}
use Rattle.p9_map.specs.declared.mark.Mark.{Mark}
use Rattle.p9_map.specs.declared.rect.Rect.{Rect}

-- as far as a number of 64 bits goes
abbrev pub limited : ℕ → ℕ
limited n = min n (2 ^ 64 - 1)

-- where a rectangle begins, and how wide and high it is
unfoldable pub place_text : (x y width : ℕ) → List ℕ
place_text x y width =
    concat (
    codes " x=\"" ∷ decimal x ∷ codes "\" y=\"" ∷ decimal y ∷ codes "\" width=\"" ∷ decimal width
    ∷ codes "\" height=\"" ∷ decimal 22 ∷ codes "\"" ∷ []
    )

-- a rectangle of two classes, with or without round corners
abbrev pub rect_element : (class walk : List ℕ) (x y width : ℕ) (corners : List ℕ) → List ℕ
rect_element class walk x y width corners =
    codes "<rect class=\"" ++ class ++ walk ++ codes "\"" ++ place_text x y width ++ corners
    ++ codes "/>\n"

-- the class of a box on the walk
abbrev pub walk_class : Bool → List ℕ
walk_class is_walked = if is_walked then codes " walk" else codes ""

-- the corners of a box: those of a file are round
abbrev pub corners_of : Bool → List ℕ
corners_of is_dir = if is_dir then codes "" else codes " rx=\"9\""

-- the border, of the class that the mark's look has
unfoldable pub rect_text : Rect → Mark → List ℕ
rect_text r m =
    rect_element (class_of m.look) (walk_class (is_some m.number)) r.left r.top (r.right - r.left)
    (corners_of m.is_dir)

-- a lock whose body begins at a point
unfoldable pub lock_text : (x y : ℕ) → List ℕ
lock_text x y =
    concat (
    codes "<path class=\"lock\" d=\"M" ∷ decimal x ∷ codes " " ∷ decimal y
    ∷ codes "h10v8h-10zm2 0v-3a3 3 0 0 1 6 0v3\"/>\n" ∷ []
    )

-- the lock of a hidden directory
abbrev pub look_text : Look → Rect → List ℕ
look_text Inside r = []
look_text Hidden r = lock_text (r.right - 18) (limited (r.top + 9))
look_text Reached r = []
look_text Plain r = []

-- the note beside a name that begins at a point, if there is one
abbrev pub note_text : (x y : ℕ) (name note : List ℕ) → List ℕ
note_text x y name note =
    if length note == 0 then []
    else text_element (codes "note")
    (limited (x + limited (8 * limited (length (chars name) + 1)))) y note

-- the circle of a number, and the number in it
unfoldable pub circle_element : (x y : ℕ) → List ℕ
circle_element x y =
    concat (
    codes "<circle class=\"badge\" cx=\"" ∷ decimal x ∷ codes "\" cy=\"" ∷ decimal y
    ∷ codes "\" r=\"8\"/>\n" ∷ []
    )

unfoldable pub number_element : (x y number : ℕ) → List ℕ
number_element x y number =
    concat (
    codes "<text class=\"step\" x=\"" ∷ decimal x ∷ codes "\" y=\"" ∷ decimal y ∷ codes "\">"
    ∷ decimal number ∷ codes "</text>\n" ∷ []
    )

-- the number of a box on the walk
abbrev pub badge_text : Rect → Option ℕ → List ℕ
badge_text r None = []
badge_text r (Some number) =
    circle_element r.left r.top ++ number_element r.left (limited (r.top + 4)) number

-- what a box consists of, with its name and its note
abbrev pub parts_text : Rect → Mark → (name note : List ℕ) → List ℕ
parts_text r m name note =
    let x = limited (r.left + 10) in
    let y = limited (r.top + 15) in
    rect_text r m ++ look_text m.look r ++ text_element (codes "name") x y name
    ++ note_text x y name note ++ badge_text r m.number

-- the whole box, whose title is shown to who points at it
abbrev pub box_text : Rect → Mark → (title name note : List ℕ) → List ℕ
box_text r m title name note =
    codes "<g><title>" ++ escaped_text title ++ codes "</title>\n" ++ parts_text r m name note
    ++ codes "</g>\n"
