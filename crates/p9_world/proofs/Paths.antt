-- The path of names is read back as these names.
use Rattle.std.proofs.Common.{◌≡◌, ℕ, ◌≤◌, true, false, List, [], ◌∷◌, length, refl, ap}
use Rattle.std.proofs.Common.{◌∙◌, All, Some, arith}
use Rattle.std.specs.Prelude.{◌||◌, IsTrue, nat_le, not, filter}
use Rattle.std.specs.List.{AllByRecursion, join_with_byte, list_all, list_any, slice_split}
use Rattle.std.proofs.lemmas.Bool.{and_from, and_parts, leb-true, lt-ltb, not-true, or_parts}
use Rattle.std.proofs.lemmas.Bool.{not_from_false}
use Rattle.std.proofs.lemmas.List.Elements.{All-append, All-cons, All-from_recursion, All-nil}
use Rattle.std.proofs.lemmas.List.Splits.{slice_split_at, slice_split_none}
use Rattle.p9_base.specs.Name.{is_name, is_slash, slash}
use Rattle.p9_base.specs.Text.{is_text}
use Rattle.p9_clean.specs.Path.{below_root, is_dot, is_dot_dot, is_element, path_of, reduced}
use Rattle.p9_world.specs.Change.{ArePlainNames}
use Rattle.p9_world.specs.Path.{names_among, names_of}
use Rattle.p9_world.specs.Word.{ends_word, is_plain, is_plain_name}
use Rattle.p9_world.proofs.Words.{IsPlain, IsPlain-from_test, IsWord}

-- what a name is along a path
record IsStep (name : List ℕ) : Type 0 where
  named : is_name name ≡ true
  element : is_element name ≡ true
  down : is_dot_dot name ≡ false
  whole : All (λ b. is_slash b ≡ false) name
  plain : IsPlain name

no_slash : (text : List ℕ) → list_any is_slash text ≡ false
    → AllByRecursion (λ b. is_slash b ≡ false) text
no_slash [] none = tt
no_slash (b ∷ bs) none =
    let parts = or_parts (is_slash b) (list_any is_slash bs) none in
    (parts.0, no_slash bs parts.1)

IsStep-from : (name : List ℕ) → IsTrue (is_plain_name name) → IsStep name
IsStep-from name h =
    let both = and_parts (is_name name) (is_plain name) h in
    let dots = and_parts _ (not (is_dot name || is_dot_dot name)) both.0 in
    let slashes = and_parts _ (not (list_any is_slash name)) dots.0 in
    let text = and_parts _ (is_text name) slashes.0 in
    let long : nat_le 1 (length name) ≡ true = (and_parts _ _ text.0).0 in
    let some : 1 ≤ length name = leb-true 1 (length name) long in
    let no_dots = or_parts (is_dot name) (is_dot_dot name) (not-true _ dots.1) in
    record {
      named = both.0;
      element =
          and_from _ _ (lt-ltb 0 (length name) (omega arith)) (not_from_false (is_dot name) no_dots.0);
      down = no_dots.1;
      whole =
          All-from_recursion (λ b. is_slash b ≡ false) name
          (no_slash name (not-true (list_any is_slash name) slashes.1));
      plain = IsPlain-from_test name both.1;
    }

steps : (names : List (List ℕ)) → ArePlainNames names → AllByRecursion IsStep names
steps [] all = tt
steps (name ∷ names) all = (IsStep-from name all.0, steps names all.1)

-- the names are what is between the slashes
slice_split-join : (name : List ℕ) (names : List (List ℕ)) → IsStep name
    → AllByRecursion IsStep names
    → slice_split is_slash (join_with_byte slash (name ∷ names)) ≡ name ∷ names
slice_split-join name [] here others = slice_split_none is_slash name here.whole
slice_split-join name (next ∷ names) here others =
    slice_split_at is_slash name slash (join_with_byte slash (next ∷ names)) here.whole refl
    ∙ ap (λ (parts : List (List ℕ)). name ∷ parts) (slice_split-join next names others.0 others.1)

filter-steps : (names : List (List ℕ)) → AllByRecursion IsStep names
    → filter is_element names ≡ names
filter-steps [] all = refl
filter-steps (name ∷ names) all =
    rw all.0.element (ap (λ (rest : List (List ℕ)). name ∷ rest) (filter-steps names all.1))

-- cleaning takes none of them back
reduced-steps : (names : List (List ℕ)) → AllByRecursion IsStep names → reduced names ≡ names
reduced-steps [] all = refl
reduced-steps (name ∷ []) all = refl
reduced-steps (name ∷ next ∷ names) all =
    rw (reduced-steps (next ∷ names) all.1)
    (rw (all.0.down, all.1.0.down) refl)

below_root-steps : (names : List (List ℕ)) → AllByRecursion IsStep names → below_root names ≡ names
below_root-steps [] all = refl
below_root-steps (name ∷ names) all = rw all.0.down refl

all_named : (names : List (List ℕ)) → AllByRecursion IsStep names → list_all is_name names ≡ true
all_named [] all = refl
all_named (name ∷ names) all = and_from _ _ all.0.named (all_named names all.1)

names_among-steps : (names : List (List ℕ)) → AllByRecursion IsStep names
    → names_among names ≡ Some names
names_among-steps names all = rw (all_named names all) refl

names_of-steps : (names : List (List ℕ)) → AllByRecursion IsStep names
    → names_of (path_of true names) ≡ Some names
names_of-steps [] all = refl
names_of-steps (name ∷ names) all =
    ap (λ parts. names_among (below_root (reduced (filter is_element parts))))
    (slice_split-join name names all.0 all.1)
    ∙ ap (λ parts. names_among (below_root (reduced parts))) (filter-steps (name ∷ names) all)
    ∙ ap (λ parts. names_among (below_root parts)) (reduced-steps (name ∷ names) all)
    ∙ ap names_among (below_root-steps (name ∷ names) all)
    ∙ names_among-steps (name ∷ names) all

pub names_of-path_of : (names : List (List ℕ)) → ArePlainNames names
    → names_of (path_of true names) ≡ Some names
names_of-path_of names all = names_of-steps names (steps names all)

-- the path is a word
plain-join : (name : List ℕ) (names : List (List ℕ)) → IsStep name → AllByRecursion IsStep names
    → IsPlain (join_with_byte slash (name ∷ names))
plain-join name [] here others = here.plain
plain-join name (next ∷ names) here others =
    All-append (λ b. ends_word b ≡ false) name (slash ∷ join_with_byte slash (next ∷ names))
    here.plain
    (All-cons (λ b. ends_word b ≡ false) slash (join_with_byte slash (next ∷ names)) refl
    (plain-join next names others.0 others.1))

plain-path : (names : List (List ℕ)) → AllByRecursion IsStep names
    → IsPlain (join_with_byte slash names)
plain-path [] all = All-nil (λ b. ends_word b ≡ false)
plain-path (name ∷ names) all = plain-join name names all.0 all.1

pub IsWord-path : (names : List (List ℕ)) → ArePlainNames names → IsWord (path_of true names)
IsWord-path names all = record {
  some = lt-ltb 0 (length (path_of true names)) (omega arith);
  plain =
      All-cons (λ b. ends_word b ≡ false) slash (join_with_byte slash names) refl
      (plain-path names (steps names all));
}
