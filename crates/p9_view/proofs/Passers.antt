-- Who passes a directory, class by class.
use Rattle.std.proofs.Common.{◌≡◌, ℕ, ◌<◌, Bool, true, false, cond, ◌&&◌, ◌||◌, List, [], ◌∷◌, Option}
use Rattle.std.proofs.Common.{Some, None, refl, sym, ap, ◌∙◌, get_or, inl, inr, ◌⊎◌}
use Rattle.std.proofs.Common.{Err, IsTrue, Ok, OnOk, Result, arith, length, subst}
use Rattle.std.specs.Prelude.{filter}
use Rattle.std.specs.List.{list_any}
use Rattle.std.specs.Option.{option_map_or}
use Rattle.std.specs.Str.{bytes_eq}
use Rattle.std.proofs.lemmas.List.Folds.{list_any_at}
use Rattle.std.proofs.lemmas.Slice.Eq.{bytes_eq-Decides}
use Rattle.p9_base.specs.Group.{Group, GroupRow, group_of, has_member, is_member, leads}
use Rattle.p9_tree.specs.Forest.{node_of}
use Rattle.p9_tree.specs.Node.{Node, is_dir}
use Rattle.p9_tree.specs.Server.{Server}
use Rattle.p9_table.specs.declared.row.Member.{Member}
use Rattle.p9_space.specs.Rights.{Who}
use Rattle.p9_cert.specs.Listed.{may_pass}
use Rattle.p9_policy.proofs.Basics.{clash}
use Rattle.p9_policy.proofs.ByClass.{pass-by-classes}
use Rattle.p9_cert.specs.Classes.{is_of}
use Rattle.p9_policy.specs.declared.classes.Classes.{Classes}
use Rattle.p9_view.specs.Passing.{is_passed, is_passed_by, is_public, passers}
use Rattle.p9_view.specs.Ranks.{HasAdded, IsOfGroup}
use Rattle.p9_world.specs.World.{World}

-- Lists.

module _ {X : Type 0} where
  -- where each that passes one test passes another
  pub each-passed : (f g : X → Bool) → ((x : X) → f x ≡ true → g x ≡ true) → (xs : List X)
      → list_any f xs ≡ true → list_any g xs ≡ true
  each-passed f g h [] t = t
  each-passed f g h (x ∷ xs) t = go (f x) refl t (each-passed f g h xs)
    where
      or-true : (b : Bool) → (b || true) ≡ true
      or-true true = refl
      or-true false = refl

      go : (b : Bool) → f x ≡ b → (b || list_any f xs) ≡ true
          → (list_any f xs ≡ true → list_any g xs ≡ true) → (g x || list_any g xs) ≡ true
      go true e u later = ap (λ b. b || list_any g xs) (h x e)
      go false e u later = ap (λ b. g x || b) (later u) ∙ or-true (g x)

  -- where none passes
  pub none-at : (f : X → Bool) (xs : List X) (i : ℕ) (d : X) → i < length xs
      → list_any f xs ≡ false → f (get_or xs i d) ≡ false
  none-at f xs i d within none = go (f (get_or xs i d)) refl
    where
      go : (b : Bool) → f (get_or xs i d) ≡ b → f (get_or xs i d) ≡ false
      go true e = clash (list_any f xs) (list_any_at f xs i d within e) none
      go false e = e

  -- where all pass
  pub all-kept : (f : X → Bool) → ((x : X) → f x ≡ true) → (xs : List X) → filter f xs ≡ xs
  all-kept f h [] = refl
  all-kept f h (x ∷ xs) =
      ap (λ b. cond b (x ∷ filter f xs) (filter f xs)) (h x)
      ∙ ap (λ ys. x ∷ ys) (all-kept f h xs)

-- Who passes a directory.

module _ (n : Node) (groups : List GroupRow) (user : List ℕ) where
  abbrev pub who : Who
  who = record { user = user; groups = groups }

  -- everybody, where others may search it
  pub others-pass : n.mode.permissions.others.execute ≡ true → may_pass n who ≡ true
  others-pass t =
      sym (pass-by-classes n.mode.permissions (bytes_eq n.uid user) (is_member groups n.gid user)
      (leads groups n.gid user))
      ∙ ap (λ b. b || (bytes_eq n.uid user || ((n.mode.permissions.group.execute
      && is_member groups n.gid user) || leads groups n.gid user))) t

-- Who is of the classes that may pass a directory which isn't everybody's to search.
module _ (classes : Classes) (n : Node) (groups : List GroupRow) (user : List ℕ)
    (closed : classes.others ≡ false)
    (is : is_of classes n (record { user = user; groups = groups }) ≡ true) where
  abbrev of_group : Bool
  of_group =
      (classes.members && is_member groups n.gid user) || (classes.leader && leads groups n.gid user)

  by-class : ((classes.owner && bytes_eq n.uid user) || of_group) ≡ true
  by-class =
      sym (ap (λ b. b || ((classes.owner && bytes_eq n.uid user) || of_group)) closed) ∙ is

  same : (name : List ℕ) → bytes_eq name user ≡ true → user ≡ name
  same name t = grind (arith, bytes_eq-Decides name user)

  either : (a b : Bool) → (a || b) ≡ true → (a ≡ true) ⊎ (b ≡ true)
  either true b t = inl refl
  either false b t = inr t

  both : (a b : Bool) → (a && b) ≡ true → (a ≡ true) × (b ≡ true)
  both true b t = (refl, t)
  both false b t = let no : false ≡ true = t in absurd (cc)

  named-itself : (name : List ℕ) → bytes_eq name user ≡ true
      → (bytes_eq user name || false) ≡ true
  named-itself name t =
      ap (λ b. b || false) ((bytes_eq-Decides user name).1 (same name t))

  -- of a group that isn't listed the user of its name is the only one
  pub of-unlisted : group_of n.gid groups ≡ None → (IsTrue classes.owner × (user ≡ n.uid))
      ⊎ IsOfGroup classes (record { leader = n.gid; members = n.gid ∷ [] }) user
  of-unlisted none =
      elim (either (classes.owner && bytes_eq n.uid user) of_group by-class) [
        | inl owner ↦
            let parts = both classes.owner (bytes_eq n.uid user) owner in
            inl (parts.0, same n.uid parts.1)
        | inr group ↦ inr (elim (either (classes.members && is_member groups n.gid user)
            (classes.leader && leads groups n.gid user) group) [
              | inl member ↦
                  let parts = both classes.members (is_member groups n.gid user) member in
                  inl (
                    parts.0,
                    named-itself n.gid
                        (sym (ap (λ o. option_map_or (has_member user) o (bytes_eq n.gid user)) none)
                        ∙ parts.1),
                  )
              | inr leader ↦
                  let parts = both classes.leader (leads groups n.gid user) leader in
                  inr (
                    parts.0,
                    same n.gid (sym (ap (λ o. option_map_or (λ g. bytes_eq g.leader user) o
                        (bytes_eq n.gid user)) none) ∙ parts.1),
                  )
            ])
      ]

  -- of a group that is listed
  pub of-listed : (g : Group) → group_of n.gid groups ≡ Some g
      → (IsTrue classes.owner × (user ≡ n.uid)) ⊎ IsOfGroup classes g user
  of-listed g some =
      elim (either (classes.owner && bytes_eq n.uid user) of_group by-class) [
        | inl owner ↦
            let parts = both classes.owner (bytes_eq n.uid user) owner in
            inl (parts.0, same n.uid parts.1)
        | inr group ↦ inr (elim (either (classes.members && is_member groups n.gid user)
            (classes.leader && leads groups n.gid user) group) [
              | inl member ↦
                  let parts = both classes.members (is_member groups n.gid user) member in
                  inl (
                    parts.0,
                    sym (ap (λ o. option_map_or (has_member user) o (bytes_eq n.gid user)) some)
                        ∙ parts.1,
                  )
              | inr leader ↦
                  let parts = both classes.leader (leads groups n.gid user) leader in
                  inr (
                    parts.0,
                    same g.leader (sym (ap (λ o. option_map_or (λ g. bytes_eq g.leader user) o
                        (bytes_eq n.gid user)) some) ∙ parts.1),
                  )
            ])
      ]

-- The ranks of some users are added, and then those of others.
pub added-both : (A B C : List ℕ → Type 0) (users : List (List ℕ)) (old mid new : List ℕ)
    → ((user : List ℕ) → C user → A user ⊎ B user) → HasAdded A users old mid
    → HasAdded B users mid new → HasAdded C users old new
added-both A B C users old mid new cases first second = record {
  kept = λ i had. second.kept i (first.kept i had);
  added = λ i user at is. elim (cases user is) [
    | inl a ↦ second.kept i (first.added i user at a)
    | inr b ↦ second.added i user at b
  ];
}

-- The owner is added, if he may pass, and then those of the group who may.
module _ (classes : Classes) (n : Node) (groups : List GroupRow) (closed : classes.others ≡ false)
    (asked : (who : Who) → is_of classes n who ≡ may_pass n who) (users : List (List ℕ))
    (old mid new uid gid : List ℕ) (owner_is : uid ≡ n.uid) (group_is : gid ≡ n.gid)
    (owner : HasAdded (λ user. IsTrue classes.owner × (user ≡ uid)) users old mid) where
  abbrev Passes : List ℕ → Type 0
  Passes user = IsTrue (may_pass n (record { user = user; groups = groups }))

  abbrev IsOwner : List ℕ → Type 0
  IsOwner user = IsTrue classes.owner × (user ≡ n.uid)

  passes-class : (user : List ℕ) → Passes user
      → is_of classes n (record { user = user; groups = groups }) ≡ true
  passes-class user passes = asked (record { user = user; groups = groups }) ∙ passes

  owner-added : HasAdded IsOwner users old mid
  owner-added =
      subst (λ name. HasAdded (λ user. IsTrue classes.owner × (user ≡ name)) users old mid) owner_is
      owner

  pub unlisted-added : group_of gid groups ≡ None
      → HasAdded (IsOfGroup classes (record { leader = gid; members = gid ∷ [] })) users mid new
      → HasAdded Passes users old new
  unlisted-added none added =
      added-both IsOwner (IsOfGroup classes (record { leader = n.gid; members = n.gid ∷ [] })) Passes
      users old mid new
      (λ user passes. of-unlisted classes n groups user closed (passes-class user passes)
      (subst (λ name. group_of name groups ≡ None) group_is none))
      owner-added
      (subst (λ name. HasAdded (IsOfGroup classes (record { leader = name; members = name ∷ [] }))
      users mid new) group_is added)

  pub listed-added : (g : Group) → group_of gid groups ≡ Some g
      → HasAdded (IsOfGroup classes g) users mid new → HasAdded Passes users old new
  listed-added g some added =
      added-both IsOwner (IsOfGroup classes g) Passes users old mid new
      (λ user passes. of-listed classes n groups user closed (passes-class user passes) g
      (subst (λ name. group_of name groups ≡ Some g) group_is some))
      owner-added added

-- what follows from a result
pub on-ok : {T E : Type 0} (result : Result T E) (P Q : Type 0) → (P → Q) → OnOk result P
    → OnOk result Q
on-ok (Ok value) P Q then p = then p
on-ok (Err error) P Q then p = tt

-- A member that everybody may search is passed by each user.
pub public-passed : (forest : List Server) (groups : List GroupRow) (user : List ℕ) (m : Member)
    → is_public forest m ≡ true
    → is_passed forest (Some (record { user = user; groups = groups })) m ≡ true
public-passed forest groups user m = go (node_of m.node forest)
  where
    both-of : (a b : Bool) → (a && b) ≡ true → (a ≡ true) × (b ≡ true)
    both-of true b t = (refl, t)
    both-of false b t = let no : false ≡ true = t in absurd (cc)

    go : (o : Option Node)
        → option_map_or (λ n. is_dir n && n.mode.permissions.others.execute) o false ≡ true
        → option_map_or (λ n. is_dir n && may_pass n (record { user = user; groups = groups })) o false
        ≡ true
    go None t = t
    go (Some n) t =
        let parts = both-of (is_dir n) n.mode.permissions.others.execute t in
        ap (λ b. b && may_pass n (record { user = user; groups = groups })) parts.0
        ∙ others-pass n groups user parts.1

-- A place with such a member is passed by all.
pub all-pass : (world : World) (ms : List Member) → list_any (is_public world.forest) ms ≡ true
    → passers world ms ≡ world.users
all-pass world ms public =
    all-kept (λ user. list_any (is_passed_by world user) ms)
    (λ user. each-passed (is_public world.forest) (is_passed_by world user)
    (public-passed world.forest world.groups user) ms public)
    world.users
