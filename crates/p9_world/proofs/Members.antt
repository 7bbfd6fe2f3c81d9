-- Members of a group, added one after another.
use Rattle.std.proofs.Common.{◌≡◌, ℕ, ◌+◌, ◌<◌, ◌≤◌, Bool, true, false, List, [], ◌∷◌, ◌++◌, length}
use Rattle.std.proofs.Common.{drop, get_or, map, refl, sym, ap, ◌∙◌, add-one, append_assoc, drop-cons}
use Rattle.std.proofs.Common.{if◌then◌else◌, IsTrue, arith}
use Rattle.std.specs.List.{list_all, list_any}
use Rattle.std.specs.Str.{bytes_eq}
use Rattle.std.proofs.lemmas.List.{append-nil, drop_all}
use Rattle.std.proofs.lemmas.List.Folds.{list_any-append}
use Rattle.std.proofs.lemmas.Slice.Eq.{bytes_eq-Decides}
use Rattle.p9_base.specs.Group.{Group, has_member}
use Rattle.p9_base.specs.User.{is_user}
use Rattle.p9_world.specs.Group.{are_distinct}

-- the members that the group has so far are the first of all, if no one of them came twice; the
-- others are left, and there are users only among the first
pub record Joined (distinct : Bool) (begun group : Group) (left all : List (List ℕ)) : Type 0 where
  pub leader : group.leader ≡ begun.leader
  pub users : list_all is_user left ≡ list_all is_user all
  pub first : distinct ≡ true → group.members ++ left ≡ all
  pub differ : distinct ≡ true → are_distinct group.members ≡ true
  pub twice : distinct ≡ false → are_distinct all ≡ false

-- a test that doesn't hold
not-true : (b : Bool) → (IsTrue b → ⊥) → b ≡ false
not-true true not_so = absurd (not_so refl)
not-true false not_so = refl

-- the equality of texts is symmetric
same_either : (a b : List ℕ) → bytes_eq a b ≡ bytes_eq b a
same_either a b = grind (arith, bytes_eq-Decides a b, bytes_eq-Decides b a)

-- a text that isn't there goes last
are_distinct-push : (texts : List (List ℕ)) (text : List ℕ) → are_distinct texts ≡ true
    → list_any (bytes_eq text) texts ≡ false → are_distinct (texts ++ text ∷ []) ≡ true
are_distinct-push [] text distinct new = refl
are_distinct-push (first ∷ texts) text distinct new =
    grind (
      arith,
      list_any-append (bytes_eq first) texts (text ∷ []),
      same_either first text,
      are_distinct-push texts text,
    )

-- one that is there comes again
are_distinct-again : (texts : List (List ℕ)) (text : List ℕ) (left : List (List ℕ))
    → list_any (bytes_eq text) texts ≡ true → are_distinct (texts ++ text ∷ left) ≡ false
are_distinct-again [] text left there = absurd (grind (arith))
are_distinct-again (first ∷ texts) text left there =
    grind (
      arith,
      list_any-append (bytes_eq first) texts (text ∷ left),
      same_either first text,
      are_distinct-again texts text left,
    )

-- none is added yet
pub Joined-none : (group : Group) (all : List (List ℕ)) → group.members ≡ []
    → Joined true group group all all
Joined-none group all none = record {
  leader = refl;
  users = refl;
  first = λ d. rw none refl;
  differ = λ d. rw none refl;
  twice = λ d. absurd (let e : true ≡ false = d in cc);
}

-- the group once a user is added who may be a member already
abbrev pub with_member : List ℕ → Group → Group
with_member user group = record group {
  members = if has_member user group then group.members else group.members ++ user ∷ [];
}

-- a new one is added
pub Joined-new : (distinct : Bool) (begun group : Group) (user : List ℕ) (left all : List (List ℕ))
    → Joined distinct begun group (user ∷ left) all → is_user user ≡ true
    → has_member user group ≡ false
    → Joined distinct begun (with_member user group) left all
Joined-new distinct begun group user left all joined valid new = record {
  leader = joined.leader;
  users = grind (arith, joined.users);
  first = λ d. rw new (append_assoc group.members (user ∷ []) left ∙ joined.first d);
  differ = λ d. rw new (are_distinct-push group.members user (joined.differ d) new);
  twice = joined.twice;
}

-- one that is a member already comes again
pub Joined-again : (distinct : Bool) (begun group : Group) (user : List ℕ)
    (left all : List (List ℕ)) → Joined distinct begun group (user ∷ left) all
    → is_user user ≡ true → has_member user group ≡ true
    → Joined false begun (with_member user group) left all
Joined-again distinct begun group user left all joined valid there = record {
  leader = joined.leader;
  users = grind (arith, joined.users);
  first = λ d. absurd (let e : false ≡ true = d in cc);
  differ = λ d. absurd (let e : false ≡ true = d in cc);
  twice = λ d. twice-of distinct refl;
}
  where
    twice-of : (b : Bool) → distinct ≡ b → are_distinct all ≡ false
    twice-of true e =
        rw (← joined.first e) (are_distinct-again group.members user left there)
    twice-of false e = joined.twice e

-- the users that are left, of which one is the next
pub next-user : {X : Type 0} (view : X → List ℕ) (items : List X) (i : ℕ) (d : X) (user : List ℕ)
    → i < length items → user ≡ view (get_or items i d)
    → map view (drop i items) ≡ user ∷ map view (drop (i + 1) items)
next-user view items i d user here read = rw (add-one, drop-cons items i d, read) refl

-- the next is no user
pub no-user : {X : Type 0} (view : X → List ℕ) (items : List X) (i : ℕ) (d : X) (distinct : Bool)
    (begun group : Group) → i < length items
    → Joined distinct begun group (map view (drop i items)) (map view items)
    → ¬ IsTrue (is_user (view (get_or items i d))) → list_all is_user (map view items) ≡ false
no-user view items i d distinct begun group here joined invalid =
    let left = next-user view items i d (view (get_or items i d)) here refl in
    let users : list_all is_user (map view (drop i items)) ≡ list_all is_user (map view items) =
    joined.users in
    let bad : is_user (view (get_or items i d)) ≡ false = not-true _ invalid in
    sym users ∙ ap (list_all is_user) left ∙ rw bad refl

-- all are added
pub Joined-all : {X : Type 0} (view : X → List ℕ) (items : List X) (i : ℕ) (distinct : Bool)
    (begun group : Group) → length items ≤ i
    → Joined distinct begun group (map view (drop i items)) (map view items)
    → Joined distinct begun group [] (map view items)
Joined-all view items i distinct begun group end joined =
    let none : drop i items ≡ [] = drop_all i items end in rw none at joined

pub distinct-all : (distinct : Bool) (begun group : Group) (all : List (List ℕ))
    → Joined distinct begun group [] all → distinct ≡ are_distinct all
distinct-all true begun group all joined =
    sym (joined.differ refl) ∙ ap are_distinct (sym (append-nil group.members) ∙ joined.first refl)
distinct-all false begun group all joined = sym (joined.twice refl)

pub group-all : (distinct : Bool) (begun group : Group) (all : List (List ℕ))
    → Joined distinct begun group [] all → distinct ≡ true
    → group ≡ record begun { members = all }
group-all distinct begun group all joined d =
    let members : group.members ≡ all = sym (append-nil group.members) ∙ joined.first d in
    rw (← members, ← joined.leader) refl
