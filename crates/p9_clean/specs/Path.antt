-- Paths, their elements, and what cleaning leaves of them, as cleanname(2).
use Rattle.std.specs.Prelude.{ℕ, ◌==◌, ◌&&◌, Bool, true, false, not, nat_lt, List, [], ◌∷◌, length}
use Rattle.std.specs.Prelude.{filter, codes, if◌then◌else◌}
use Rattle.std.specs.List.{slice_split, join_with_byte}
use Rattle.std.specs.Str.{bytes_eq}
use Rattle.p9_base.specs.Name.{is_slash, slash}

-- the bytes of what is between two slashes
abbrev pub Component : Type 0
Component = List ℕ

-- a path is rooted where it begins with a slash
abbrev pub is_rooted : List ℕ → Bool
is_rooted [] = false
is_rooted (b ∷ bs) = b == slash

-- what is between the slashes of a path
abbrev pub components_of : List ℕ → List Component
components_of path = slice_split is_slash path

-- the directory itself
abbrev pub is_dot : Component → Bool
is_dot component = bytes_eq component (codes ".")

-- the directory above
abbrev pub is_dot_dot : Component → Bool
is_dot_dot component = bytes_eq component (codes "..")

-- an element is a name or '..': the empty component and '.' lead nowhere
abbrev pub is_element : Component → Bool
is_element component = nat_lt 0 (length component) && not (is_dot component)

-- the elements of a path, in order
abbrev pub elements_of : List ℕ → List Component
elements_of path = filter is_element (components_of path)

-- an element in front of others: a name followed by '..' goes with it
abbrev pub in_front : Component → List Component → List Component
in_front e [] = e ∷ []
in_front e (next ∷ es) = if not (is_dot_dot e) && is_dot_dot next then es else e ∷ next ∷ es

-- the elements without each name that a '..' takes back, and that '..'
abbrev pub reduced : List Component → List Component
reduced [] = []
reduced (e ∷ es) = in_front e (reduced es)

-- the elements without the '..' at their start
abbrev pub below_root : List Component → List Component
below_root [] = []
below_root (e ∷ es) = if is_dot_dot e then below_root es else e ∷ es

-- what cleaning leaves of the elements of a path that is rooted, and of one that is not
abbrev pub shortened : Bool → List Component → List Component
shortened true es = below_root (reduced es)
shortened false es = reduced es

-- the path of these elements: a slash between each two, and in front if it is rooted
abbrev pub path_of : Bool → List Component → List ℕ
path_of true es = slash ∷ join_with_byte slash es
path_of false [] = codes "."
path_of false (e ∷ es) = join_with_byte slash (e ∷ es)

-- what cleaning leaves of the elements of a path
abbrev pub cleaned_elements : List ℕ → List Component
cleaned_elements path = shortened (is_rooted path) (elements_of path)

-- the path of these
abbrev pub cleaned : List ℕ → List ℕ
cleaned path = path_of (is_rooted path) (cleaned_elements path)
