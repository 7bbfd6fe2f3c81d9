-- The names on the way up to a server's root.
use Rattle.std.proofs.Common.{◌≡◌, ℕ, zero, suc, ◌-◌, ◌<◌, List, [], ◌∷◌, ◌++◌, Bor, Option, Some}
use Rattle.std.proofs.Common.{None, length, map, reverse, refl, sym, ap, ◌∙◌, arith, append_assoc}
use Rattle.std.proofs.Common.{◌+◌, ◌≤◌, drop, get_or, append-nil}
use Rattle.std.specs.Prelude.{codes}
use Rattle.std.specs.List.{flat_map}
use Rattle.std.specs.Option.{option_map, option_map_or}
use Rattle.std.proofs.lemmas.List.{drop_all, drop_more, map_push, map-append, reverse-append}
use Rattle.std.proofs.lemmas.List.Folds.{flat_map-map}
use Rattle.p9_tree.specs.Node.{Node}
use Rattle.p9_prepared.specs.Path.{entry_at, names_below, rooted_path}

-- the root, and a number without a node, are in no directory
pub names-end : (left number : ℕ) (nodes : List Node) (entry : Option (ℕ × Bor (List ℕ)))
    → option_map (λ e. (e.0, e.1.now)) entry ≡ entry_at number nodes → entry ≡ None
    → names_below left number nodes ≡ []
names-end zero number nodes entry is none = refl
names-end (suc left) number nodes entry is none =
    let top : entry_at number nodes ≡ None =
    sym is ∙ ap (λ e. option_map (λ (e : ℕ × Bor (List ℕ)). (e.0, e.1.now)) e) none in
    ap (λ e. option_map_or (λ (entry : ℕ × List ℕ). names_below left entry.0 nodes ++ entry.1 ∷ [])
    e []) top

-- one directory up
pub names-up : (left number : ℕ) (nodes : List Node) (parent : ℕ) (name : List ℕ)
    (before after all : List (List ℕ)) → 0 < left →
    entry_at number nodes ≡ Some (parent, name) → after ≡ name ∷ before
    → names_below left number nodes ++ before ≡ all
    → names_below (left - 1) parent nodes ++ after ≡ all
names-up zero number nodes parent name before after all some entry grown kept = absurd (omega arith)
names-up (suc left) number nodes parent name before after all some entry grown kept =
    let less : suc left - 1 ≡ left = omega arith in
    ap (λ k. names_below k parent nodes ++ after) less
    ∙ ap (λ names. names_below left parent nodes ++ names) grown
    ∙ sym (append_assoc (names_below left parent nodes) (name ∷ []) before)
    ∙ ap (λ names. names ++ before)
    (sym
    (ap (λ e. option_map_or
    (λ (entry : ℕ × List ℕ). names_below left entry.0 nodes ++ entry.1 ∷ []) e []) entry))
    ∙ kept

-- a name more, in front of those that were turned round
pub reverse-push : (names pushed : List (Bor (List ℕ))) (name : Bor (List ℕ))
    → pushed ≡ names ++ name ∷ []
    → reverse (map (λ n. n.now) pushed) ≡ name.now ∷ reverse (map (λ n. n.now) names)
reverse-push names pushed name is =
    ap (λ ns. reverse (map (λ n. n.now) ns)) is ∙ ap reverse (map_push (λ n. n.now) names name)
    ∙ reverse-append (map (λ n. n.now) names) (name.now ∷ [])

-- names that are turned round
pub map-reverse : {X Y : Type 0} (f : X → Y) (xs : List X) → map f (reverse xs) ≡ reverse (map f xs)
map-reverse f [] = refl
map-reverse f (x ∷ xs) =
    ap (map f) (reverse-append (x ∷ []) xs) ∙ map-append f (reverse xs) (x ∷ [])
    ∙ ap (λ ys. ys ++ f x ∷ []) (map-reverse f xs) ∙ sym (reverse-append (f x ∷ []) (map f xs))

-- one name or more
pub rooted_path-names : (names : List (Bor (List ℕ))) → 0 < length names
    → rooted_path (map (λ n. n.now) names) ≡ flat_map (λ n. codes "/" ++ n.now) names
rooted_path-names [] some = absurd (omega arith)
rooted_path-names (n ∷ ns) some = flat_map-map (λ n. codes "/" ++ n) (λ n. n.now) (n ∷ ns)

-- A slash and a name more, after a text.
abbrev pub slashed : Bor (List ℕ) → List ℕ
slashed name = codes "/" ++ name.now

module _ (names : List (Bor (List ℕ))) (i : ℕ) (out whole : List ℕ) where
  pub slashed-more : (d : Bor (List ℕ)) (half after : List ℕ) → i < length names
      → half ≡ out ++ codes "/" → after ≡ half ++ (get_or names i d).now
      → out ++ flat_map slashed (drop i names) ≡ whole
      → after ++ flat_map slashed (drop (i + 1) names) ≡ whole
  slashed-more d half after l is_half is_after kept =
      let name = (get_or names i d).now in
      let rest = flat_map slashed (drop (i + 1) names) in
      ap (λ t. t ++ rest) (is_after ∙ ap (λ h. h ++ name) is_half)
      ∙ append_assoc (out ++ codes "/") name rest
      ∙ append_assoc out (codes "/") (name ++ rest)
      ∙ ap (λ ns. out ++ flat_map slashed ns) (sym (drop_more names i d l))
      ∙ kept

  pub slashed-all : length names ≤ i → out ++ flat_map slashed (drop i names) ≡ whole → out ≡ whole
  slashed-all l kept =
      sym (append-nil out) ∙ ap (λ ns. out ++ flat_map slashed ns) (sym (drop_all i names l)) ∙ kept
