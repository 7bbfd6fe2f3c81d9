-- A cleaned path, read again.
use Rattle.std.proofs.Common.{◌≡◌, ℕ, Bool, true, false, not, cond, List, [], ◌∷◌, refl, sym, ap}
use Rattle.std.proofs.Common.{◌∙◌, arith}
use Rattle.std.specs.Prelude.{◌&&◌, filter}
use Rattle.std.specs.List.{All, slice_split, onto_first, join_with_byte}
use Rattle.std.proofs.lemmas.Bool.{false≢true}
use Rattle.std.proofs.lemmas.List.Elements.{All-nil, All-cons}
use Rattle.std.proofs.lemmas.List.Splits.{slice_split_none, slice_split_at}
use Rattle.p9_base.specs.Name.{is_slash, slash}
use Rattle.p9_clean.specs.Path.{is_rooted, components_of, is_dot_dot, is_element, elements_of}
use Rattle.p9_clean.specs.Path.{in_front, reduced, below_root, shortened, path_of, cleaned_elements}
use Rattle.p9_clean.specs.Path.{cleaned}
use Rattle.p9_clean.proofs.RuleLemmas.{left_of-left_of}

-- a component has no slash in it
HasNoSlash : List ℕ → Type 0
HasNoSlash c = All (λ b. is_slash b ≡ false) c

-- each component is free of slashes
data Parts : List (List ℕ) → Type 0 where
  none : Parts []
  some : {c : List ℕ} {cs : List (List ℕ)} → HasNoSlash c → Parts cs
      → Parts (c ∷ cs)

-- each component is an element, and free of slashes
data Elements : List (List ℕ) → Type 0 where
  none : Elements []
  some : {e : List ℕ} {es : List (List ℕ)} → is_element e ≡ true → HasNoSlash e → Elements es
      → Elements (e ∷ es)

-- a byte that is no slash may be before the first component
Parts-onto_first : (b : ℕ) (cs : List (List ℕ)) → is_slash b ≡ false → Parts cs
    → Parts (onto_first b cs)
unfolding HasNoSlash
Parts-onto_first b [] other parts =
    some (All-cons (λ x. is_slash x ≡ false) b [] other (All-nil (λ x. is_slash x ≡ false))) none
Parts-onto_first b (c ∷ cs) other (some free parts) =
    some (All-cons (λ x. is_slash x ≡ false) b c other free) parts

-- the components of a path are free of slashes
Parts-components_of : (path : List ℕ) → Parts (components_of path)
unfolding HasNoSlash
Parts-components_of [] = some (All-nil (λ x. is_slash x ≡ false)) none
Parts-components_of (b ∷ path) = go (is_slash b) refl (Parts-components_of path) where
  go : (t : Bool) → is_slash b ≡ t → Parts (components_of path)
      → Parts (cond (is_slash b) ([] ∷ components_of path) (onto_first b (components_of path)))
  go true slash parts = rw slash (some (All-nil (λ x. is_slash x ≡ false)) parts)
  go false other parts = rw other (Parts-onto_first b (components_of path) other parts)

-- the elements among components are elements
Elements-filter : (cs : List (List ℕ)) → Parts cs → Elements (filter is_element cs)
Elements-filter [] parts = none
Elements-filter (c ∷ cs) (some free parts) =
    go (is_element c) refl (Elements-filter cs parts) where
      go : (t : Bool) → is_element c ≡ t → Elements (filter is_element cs)
          → Elements (filter is_element (c ∷ cs))
      go true element others = rw element (some element free others)
      go false no_element others = rw no_element others

-- an element in front of elements leaves elements
Elements-in_front : (e : List ℕ) (es : List (List ℕ)) → is_element e ≡ true → HasNoSlash e
    → Elements es → Elements (in_front e es)
Elements-in_front e [] element free others = some element free others
Elements-in_front e (next ∷ es) element free (some at free' others) =
    elim (not (is_dot_dot e) && is_dot_dot next) as (λ t. Elements (cond t es (e ∷ next ∷ es)))
    [ true ↦ others | false ↦ some element free (some at free' others) ]

-- names taken back leave elements
Elements-reduced : (es : List (List ℕ)) → Elements es → Elements (reduced es)
Elements-reduced [] none = none
Elements-reduced (e ∷ es) (some element free others) =
    Elements-in_front e (reduced es) element free (Elements-reduced es others)

-- '..' taken away at the start leaves elements
Elements-below_root : (es : List (List ℕ)) → Elements es → Elements (below_root es)
Elements-below_root [] none = none
Elements-below_root (e ∷ es) (some element free others) =
    elim (is_dot_dot e) as (λ t. Elements (cond t (below_root es) (e ∷ es)))
    [ true ↦ Elements-below_root es others | false ↦ some element free others ]

-- what cleaning leaves of elements are elements
Elements-shortened : (rooted : Bool) (es : List (List ℕ)) → Elements es
    → Elements (shortened rooted es)
Elements-shortened true es elements =
    Elements-below_root (reduced es) (Elements-reduced es elements)
Elements-shortened false es elements = Elements-reduced es elements

-- all of some elements are elements
filter-Elements : (es : List (List ℕ)) → Elements es → filter is_element es ≡ es
filter-Elements [] none = refl
filter-Elements (e ∷ es) (some element free others) =
    rw element (ap (λ (t : List (List ℕ)). e ∷ t) (filter-Elements es others))

-- elements are the components of their text
slice_split-join_with_byte : (e : List ℕ) (es : List (List ℕ)) → Elements (e ∷ es)
    → slice_split is_slash (join_with_byte slash (e ∷ es)) ≡ e ∷ es
unfolding HasNoSlash
slice_split-join_with_byte e [] (some element free others) = slice_split_none is_slash e free
slice_split-join_with_byte e (next ∷ es) (some element free others) =
    slice_split_at is_slash e slash (join_with_byte slash (next ∷ es)) free refl
    ∙ ap (λ (t : List (List ℕ)). e ∷ t) (slice_split-join_with_byte next es others)

-- elements are read back from their path
elements_of-path_of : (rooted : Bool) (es : List (List ℕ)) → Elements es
    → elements_of (path_of rooted es) ≡ es
elements_of-path_of true [] elements = refl
elements_of-path_of true (e ∷ es) elements =
    ap (filter is_element) (slice_split-join_with_byte e es elements)
    ∙ filter-Elements (e ∷ es) elements
elements_of-path_of false [] elements = refl
elements_of-path_of false (e ∷ es) elements =
    ap (filter is_element) (slice_split-join_with_byte e es elements)
    ∙ filter-Elements (e ∷ es) elements

-- an element begins with a byte that is no slash
is_rooted-join_with_byte : (e : List ℕ) (es : List (List ℕ)) → is_element e ≡ true → HasNoSlash e
    → is_rooted (join_with_byte slash (e ∷ es)) ≡ false
unfolding HasNoSlash
is_rooted-join_with_byte [] es element free = absurd (false≢true element)
is_rooted-join_with_byte (b ∷ bs) [] element free = free 0 b (omega arith)
is_rooted-join_with_byte (b ∷ bs) (next ∷ es) element free = free 0 b (omega arith)

-- whether a path is rooted is read back from it
is_rooted-path_of : (rooted : Bool) (es : List (List ℕ)) → Elements es
    → is_rooted (path_of rooted es) ≡ rooted
is_rooted-path_of true es elements = refl
is_rooted-path_of false [] elements = refl
is_rooted-path_of false (e ∷ es) (some element free others) =
    is_rooted-join_with_byte e es element free

-- what cleaning leaves of a path are elements
Elements-cleaned_elements : (path : List ℕ) → Elements (cleaned_elements path)
Elements-cleaned_elements path =
    Elements-shortened (is_rooted path) (elements_of path)
    (Elements-filter (components_of path) (Parts-components_of path))

-- a cleaned path begins with a slash where the path does
pub is_rooted-cleaned : (path : List ℕ) → is_rooted (cleaned path) ≡ is_rooted path
is_rooted-cleaned path =
    is_rooted-path_of (is_rooted path) (cleaned_elements path) (Elements-cleaned_elements path)

-- its elements are those that were left
pub elements_of-cleaned : (path : List ℕ) → elements_of (cleaned path) ≡ cleaned_elements path
elements_of-cleaned path =
    elements_of-path_of (is_rooted path) (cleaned_elements path) (Elements-cleaned_elements path)

-- cleaning it again leaves the same
pub cleaned-cleaned : (path : List ℕ) → cleaned (cleaned path) ≡ cleaned path
cleaned-cleaned path =
    let rooted = is_rooted path in
    let es = cleaned_elements path in
    ap (λ t. path_of t (shortened t (elements_of (cleaned path)))) (is_rooted-cleaned path)
    ∙ ap (λ t. path_of rooted (shortened rooted t))
    (elements_of-cleaned path ∙ sym (filter-Elements es (Elements-cleaned_elements path)))
    ∙ ap (path_of rooted) (left_of-left_of rooted (components_of path))
