-- Names along a path, read one after another.
use Rattle.std.proofs.Common.{◌≡◌, List, [], ◌∷◌, ◌++◌, Option, Some, None, if◌then◌else◌}
use Rattle.std.proofs.Common.{length, refl, sym, ap, ◌∙◌, arith, option_map, ◌<◌}
use Rattle.std.proofs.Common.{ℕ, true, false, Bool, IsTrue, ◌+◌, ◌≤◌, ◌&&◌, append_assoc, drop, get_or}
use Rattle.std.proofs.Common.{map}
use Rattle.std.proofs.lemmas.List.{append-nil, drop_all, drop_more}
use Rattle.std.specs.Prelude.{◌↔◌, IsSome}
use Rattle.std.specs.List.{list_all}
use Rattle.std.specs.Option.{option_map_or, option_to_list}
use Rattle.p9_base.specs.Name.{is_name}
use Rattle.p9_clean.specs.Path.{Component}
use Rattle.p9_world.specs.Path.{last_and_rest}

-- the names that there are, with the components after them if these may all name files
abbrev pub names_behind : List Component → List Component → Option (List Component)
names_behind names others = if list_all is_name others then Some (names ++ others) else None

-- a component that is no name
not-name : (name : Component) → ¬ IsTrue (is_name name) → is_name name ≡ false
not-name name bad = by (is_name name) bad
  where
    by : (b : Bool) → ¬ IsTrue b → b ≡ false
    by true bad = absurd (bad refl)
    by false bad = refl

module _ {X : Type 0} (f : X → Component) (elements : List X) (i : ℕ) (d : X)
    (names : List Component) where
  -- the next component is a name
  pub names_behind-next : (name : Component) (new : List Component) → i < length elements
      → name ≡ f (get_or elements i d) → is_name (f (get_or elements i d)) ≡ true
      → new ≡ names ++ name ∷ []
      → names_behind new (map f (drop (i + 1) elements))
      ≡ names_behind names (map f (drop i elements))
  names_behind-next name new more read valid pushed =
      let rest = map f (drop (i + 1) elements) in
      let joined : new ++ rest ≡ names ++ f (get_or elements i d) ∷ rest =
      ap (λ xs. xs ++ rest) (pushed ∙ ap (λ n. names ++ n ∷ []) read)
      ∙ append_assoc names (f (get_or elements i d) ∷ []) rest in
      ap (λ xs. if list_all is_name rest then Some xs else None) joined
      ∙ sym (ap (λ b. if b && list_all is_name rest
      then Some (names ++ f (get_or elements i d) ∷ rest) else None) valid)
      ∙ sym (ap (λ left. names_behind names (map f left)) (drop_more elements i d more))

  -- it is none
  pub names_behind-none : i < length elements → ¬ IsTrue (is_name (f (get_or elements i d)))
      → names_behind names (map f (drop i elements)) ≡ None
  names_behind-none more bad =
      let rest = map f (drop (i + 1) elements) in
      ap (λ left. names_behind names (map f left)) (drop_more elements i d more)
      ∙ ap (λ b. if b && list_all is_name rest
      then Some (names ++ f (get_or elements i d) ∷ rest) else None)
      (not-name (f (get_or elements i d)) bad)

-- no component is left
pub names_behind-all : {X : Type 0} (f : X → Component) (elements : List X) (i : ℕ)
    (names : List Component) → length elements ≤ i
    → names_behind names (map f (drop i elements)) ≡ Some names
names_behind-all f elements i names all =
    ap (λ left. names_behind names (map f left)) (drop_all i elements all)
    ∙ ap Some (append-nil names)

-- the last of some names, found after the rest
last_and_rest-append : (rest : List Component) (name : Component)
    → last_and_rest (rest ++ name ∷ []) ≡ Some (name, rest)
last_and_rest-append [] name = refl
last_and_rest-append (first ∷ rest) name =
    ap (λ o. Some (option_map_or (λ place. (place.0, first ∷ place.1)) o (first, [])))
    (last_and_rest-append rest name)

-- what is left where the last name is taken out
pub last_and_rest-pop : (o : Option Component) (names rest : List Component) (count : ℕ)
    → names ≡ rest ++ option_to_list o → count ≡ length names → (IsSome o ↔ (0 < count))
    → option_map (λ name. (name, rest)) o ≡ last_and_rest names
last_and_rest-pop None [] rest count split counts some = refl
last_and_rest-pop None (name ∷ names) rest count split counts some =
    let there : 0 < count = omega arith in
    absurd (let e : false ≡ true = some.1 there in cc)
last_and_rest-pop (Some name) names rest count split counts some =
    sym (ap last_and_rest split ∙ last_and_rest-append rest name)
