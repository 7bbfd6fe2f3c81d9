-- Lists of users, and the names of the groups that pass a test.
use Rattle.std.proofs.Common.{◌≡◌, ℕ, ◌+◌, ◌<◌, ◌≤◌, Bool, true, false, cond, ◌&&◌, ◌||◌, List, [], ◌∷◌, Option, Some, None, refl, sym, ap, ◌∙◌, arith}
use Rattle.std.proofs.Common.{length, get_or, take}
use Rattle.std.specs.Prelude.{◌==◌, not, is_some}
use Rattle.std.proofs.lemmas.Bool.Decides.{nat_tests}
use Rattle.std.specs.List.{list_any}
use Rattle.std.specs.Map.{lookup}
use Rattle.std.specs.Option.{option_map_or}
use Rattle.std.specs.Str.{bytes_eq}
use Rattle.std.proofs.lemmas.List.{take_all}
use Rattle.std.proofs.lemmas.List.Folds.{list_any_more}
use Rattle.std.proofs.lemmas.Slice.Eq.{bytes_eq-Decides}
use Rattle.p9_base.specs.Group.{Group, GroupRow, group_of, has_member, is_member, leads}
use Rattle.p9_tree.specs.Node.{Node}
use Rattle.p9_policy.specs.declared.classes.Classes.{Classes}
use Rattle.p9_cert.specs.Classes.{is_of}
use Rattle.p9_cert.specs.Listed.{some_listed}
use Rattle.p9_policy.proofs.ByClass.{any_or}
use Rattle.p9_judge.specs.declared.listed.Listed.{Listed}
use Rattle.p9_judge.specs.Listed.{Lists, has_listed, has_of_a_class}

any_false : {X : Type 0} (xs : List X) → list_any (λ x. false) xs ≡ false
any_false [] = refl
any_false (x ∷ xs) = any_false xs

-- one of these stands to one of those
pub exchanged : {X Y : Type 0} (f : X → Y → Bool) (xs : List X) (ys : List Y)
    → list_any (λ x. list_any (f x) ys) xs ≡ list_any (λ y. list_any (λ x. f x y) xs) ys
exchanged f [] ys = sym (any_false ys)
exchanged f (x ∷ xs) ys =
    ap (λ b. list_any (f x) ys || b) (exchanged f xs ys)
    ∙ sym (any_or (f x) (λ y. list_any (λ x. f x y) xs) ys)

same_either : (a b : List ℕ) → bytes_eq a b ≡ bytes_eq b a
same_either a b = grind (arith, bytes_eq-Decides a b, bytes_eq-Decides b a)

-- a name more
pub name-more : (old new items : List (List ℕ)) (i : ℕ) (d name : List ℕ) → i < length items
    → name ≡ get_or items i d
    → ((q : List ℕ) → list_any (bytes_eq q) new
    ≡ cond (bytes_eq name q) true (list_any (bytes_eq q) old))
    → ((q : List ℕ) → list_any (bytes_eq q) old ≡ list_any (bytes_eq q) (take i items))
    → (q : List ℕ) → list_any (bytes_eq q) new ≡ list_any (bytes_eq q) (take (i + 1) items)
name-more old new items i d name within here updated kept q =
    updated q
    ∙ turn (bytes_eq name q) (list_any (bytes_eq q) old)
    ∙ ap (λ b. list_any (bytes_eq q) old || b) (same_either name q)
    ∙ ap (λ b. b || bytes_eq q name) (kept q)
    ∙ ap (λ n. list_any (bytes_eq q) (take i items) || bytes_eq q n) here
    ∙ sym (list_any_more (bytes_eq q) items i d within)
  where
    turn : (a b : Bool) → cond a true b ≡ (b || a)
    turn true true = refl
    turn true false = refl
    turn false true = refl
    turn false false = refl

-- The names of the groups that pass a test.

module _ {X : Type 0} (test : X → Bool) (groups : List (List ℕ × X)) where
  abbrev pub passes : List ℕ → Bool
  passes name = option_map_or test (lookup (bytes_eq name) groups) false

  -- those of the first rows
  abbrev pub among_first : ℕ → List ℕ → Bool
  among_first i name = list_any (λ row. bytes_eq name row.0) (take i groups) && passes name

  module _ (i : ℕ) (d : List ℕ × X) (within : i < length groups) (name : List ℕ) (group : X)
      (here : (name, group) ≡ get_or groups i d)
      (found : lookup (bytes_eq name) groups ≡ Some group) where
    passes-here : passes name ≡ test group
    passes-here = ap (λ o. option_map_or test o false) found

    more : (q : List ℕ) → among_first (i + 1) q
        ≡ ((list_any (λ row. bytes_eq q row.0) (take i groups) || bytes_eq q name) && passes q)
    more q =
        ap (λ b. b && passes q)
        (list_any_more (λ (row : List ℕ × X). bytes_eq q row.0) groups i d within
        ∙ ap (λ (row : List ℕ × X). list_any (λ (r : List ℕ × X). bytes_eq q r.0) (take i groups) || bytes_eq q row.0)
        (sym here))

    -- a group that passes is marked
    pub marked-more : test group ≡ true → (old new : List (List ℕ))
        → ((q : List ℕ) → list_any (bytes_eq q) new
        ≡ cond (bytes_eq name q) true (list_any (bytes_eq q) old))
        → ((q : List ℕ) → list_any (bytes_eq q) old ≡ among_first i q)
        → (q : List ℕ) → list_any (bytes_eq q) new ≡ among_first (i + 1) q
    marked-more t old new updated kept q =
        updated q ∙ ap (λ b. cond (bytes_eq name q) true b) (kept q)
        ∙ ap (λ b. cond b true (among_first i q)) (same_either name q)
        ∙ go (bytes_eq q name) refl ∙ sym (more q)
      where
        go : (b : Bool) → bytes_eq q name ≡ b → cond (bytes_eq q name) true (among_first i q)
            ≡ ((list_any (λ row. bytes_eq q row.0) (take i groups) || bytes_eq q name) && passes q)
        go true e =
            let p : passes q ≡ true =
            ap passes ((bytes_eq-Decides q name).0 e) ∙ passes-here ∙ t in
            rw (e, p) (sym (always (list_any (λ (row : List ℕ × X). bytes_eq q row.0) (take i groups))))
          where
            always : (b : Bool) → ((b || true) && true) ≡ true
            always true = refl
            always false = refl
        go false e = rw e (ap (λ b. b && passes q) (sym (same (list_any (λ (row : List ℕ × X). bytes_eq q row.0) (take i groups)))))
          where
            same : (b : Bool) → (b || false) ≡ b
            same true = refl
            same false = refl

    -- one that doesn't is not
    pub marked-same : test group ≡ false → (q : List ℕ) → among_first i q ≡ among_first (i + 1) q
    marked-same t q = go (bytes_eq q name) refl ∙ sym (more q)
      where
        go : (b : Bool) → bytes_eq q name ≡ b → among_first i q
            ≡ ((list_any (λ row. bytes_eq q row.0) (take i groups) || bytes_eq q name) && passes q)
        go true e =
            let p : passes q ≡ false =
            ap passes ((bytes_eq-Decides q name).0 e) ∙ passes-here ∙ t in
            grind (arith, p)
        go false e = grind (arith, e)

-- a group that is found is a row
listed-found : {X : Type 0} (groups : List (List ℕ × X)) (q : List ℕ) → is_some (lookup (bytes_eq q) groups)
    ≡ list_any (λ row. bytes_eq q row.0) groups
listed-found [] q = refl
listed-found (row ∷ rows) q = go (bytes_eq q row.0) refl (listed-found rows q)
  where
    go : (b : Bool) → bytes_eq q row.0 ≡ b
        → is_some (lookup (bytes_eq q) rows) ≡ list_any (λ r. bytes_eq q r.0) rows
        → is_some (lookup (bytes_eq q) (row ∷ rows))
        ≡ (bytes_eq q row.0 || list_any (λ r. bytes_eq q r.0) rows)
    go true e later = rw e refl
    go false e later = rw e later

module _ {X : Type 0} (test : X → Bool) (groups : List (List ℕ × X)) where
  -- of all rows, a name is marked where its group passes
  pub marked-all : (i : ℕ) → length groups ≤ i → (q : List ℕ)
      → among_first test groups i q ≡ passes test groups q
  marked-all i end q =
      ap (λ rows. list_any (λ row. bytes_eq q row.0) rows && passes test groups q)
      (take_all i groups end)
      ∙ ap (λ b. b && passes test groups q) (sym (listed-found groups q))
      ∙ go (lookup (bytes_eq q) groups)
    where
      go : (o : Option X) → (is_some o && option_map_or test o false) ≡ option_map_or test o false
      go None = refl
      go (Some x) = refl

-- some user is of one of four classes, each of which counts or not
pub by_classes : {X : Type 0} (a b c d : Bool) (f g h : X → Bool) (xs : List X)
    → list_any (λ x. a || ((b && f x) || ((c && g x) || (d && h x)))) xs
    ≡ ((a && not (length xs == 0)) || ((b && list_any f xs) || ((c && list_any g xs) || (d && list_any h xs))))
by_classes a b c d f g h [] = grind (arith)
by_classes a b c d f g h (x ∷ xs) = by (by_classes a b c d f g h xs)
  where
    first : (length (x ∷ xs) == 0) ≡ false
    first = grind (arith, nat_tests)

    by : list_any (λ x. a || ((b && f x) || ((c && g x) || (d && h x)))) xs
        ≡ ((a && not (length xs == 0)) || ((b && list_any f xs) || ((c && list_any g xs) || (d && list_any h xs))))
        → ((a || ((b && f x) || ((c && g x) || (d && h x)))) || list_any (λ x. a || ((b && f x) || ((c && g x) || (d && h x)))) xs)
        ≡ ((a && not (length (x ∷ xs) == 0)) || ((b && (f x || list_any f xs)) || ((c && (g x || list_any g xs)) || (d && (h x || list_any h xs)))))
    by e = rw (e, first) (plain a b c d (f x) (g x) (h x) (length xs == 0) (list_any f xs) (list_any g xs) (list_any h xs))
      where
        plain : (a b c d f g h n p q r : Bool) → ((a || ((b && f) || ((c && g) || (d && h)))) || ((a && not n) || ((b && p) || ((c && q) || (d && r)))))
            ≡ ((a && true) || ((b && (f || p)) || ((c && (g || q)) || (d && (h || r)))))
        plain a b c d f g h n p q r = grind (arith)

-- What the judge keeps of them.

module _ {Z : Type 0} (users : List (List ℕ)) (groups : List GroupRow) (listed : Listed Z)
    (lists : Lists users groups listed) (name : List ℕ) where
  -- a listed group is marked where a listed user is a member
  pub members-marked : (g : Group) → group_of name groups ≡ Some g
      → list_any (bytes_eq name) listed.groups.keys ≡ list_any (is_member groups name) users
  members-marked g found =
      lists.marked name
      ∙ ap (λ o. option_map_or (has_listed listed.users.keys) o false) found
      ∙ (λ i. list_any (λ m. lists.same m i) g.members)
      ∙ exchanged bytes_eq g.members users
      ∙ (λ i. list_any (λ u. list_any (λ m. same_either m u i) g.members) users)
      ∙ ap (λ o. list_any (λ u. option_map_or (has_member u) o (bytes_eq name u)) users) (sym found)

-- some listed user is of one of the classes, each by itself
pub some-of-classes : (users : List (List ℕ)) (groups : List GroupRow) (classes : Classes) (n : Node)
    → some_listed users groups (is_of classes n) ≡ has_of_a_class users groups classes n.uid n.gid
some-of-classes users groups classes n =
    by_classes classes.others classes.owner classes.members classes.leader (bytes_eq n.uid)
    (is_member groups n.gid) (leads groups n.gid) users
