-- Some listed user can change what is found.
use Rattle.std.proofs.Common.{◌≡◌, ℕ, Bool, true, false, ◌&&◌, List, [], ◌∷◌, Option, Some, None}
use Rattle.std.proofs.Common.{refl, sym, ap, ◌∙◌, subst, option_and_then}
use Rattle.std.specs.Prelude.{IfSome, IsSome, is_some, if◌then◌else◌}
use Rattle.std.specs.Option.{option_map, option_map_or, option_or}
use Rattle.std.proofs.lemmas.Bool.{and_parts}
use Rattle.p9_base.specs.declared.node_ref.NodeRef.{NodeRef}
use Rattle.p9_base.specs.NodeRef.{beside}
use Rattle.p9_tree.specs.Node.{Node}
use Rattle.p9_tree.specs.Server.{Server}
use Rattle.p9_tree.specs.Forest.{children_of, node_of}
use Rattle.p9_table.specs.declared.row.Member.{Member}
use Rattle.p9_space.specs.Place.{root_place}
use Rattle.p9_space.specs.Rights.{Who}
use Rattle.p9_space.specs.Table.{MountRow, members_of}
use Rattle.p9_step.specs.Open.{is_exclusive}
use Rattle.p9_cert.specs.Gap.{first_of, is_removable, where_true}
use Rattle.p9_cert.specs.Listed.{is_alterable, is_open, may_alter, may_use, some_listed}
use Rattle.p9_cert.specs.Policy.{Policy}
use Rattle.p9_policy.proofs.Basics.{not_some, some_same}
use Rattle.p9_judge.proofs.Lists.{any_found}
use Rattle.p9_fixed.specs.declared.change.Change.{Change}
use Rattle.p9_fixed.specs.declared.change.ChangeKind.{ChangeKind}
use Rattle.p9_fixed.specs.declared.change.ChangeKind.TheVariants.{Alterable, Removable, Exclusive}
use Rattle.p9_fixed.specs.Change.{child_change, children_change, first_change, member_change}
use Rattle.p9_fixed.specs.Change.{node_kind, place_change}
use Rattle.p9_fixed.specs.Changer.{alterer_of, by_kind, changer_of, first_who, parent_of}

-- the first that there is, is that of one of them
module _ {X Y : Type 0} (f : X → Option Y) (P : Y → Type 0)
    (each : (x : X) (y : Y) → f x ≡ Some y → P y) where
  first_some : (xs : List X) (y : Y) → first_of f xs ≡ Some y → P y
  first_some [] y e = not_some y e
  first_some (x ∷ xs) y e = go (f x) refl e (first_some xs y)
    where
      go : (o : Option Y) → f x ≡ o → option_or o (first_of f xs) ≡ Some y
          → (first_of f xs ≡ Some y → P y) → P y
      go None w t later = later t
      go (Some z) w t later = subst P (some_same z y t) (each x z w)

module _ (policy : Policy) (f : List Server) where
  -- where some listed user may, a first one is found
  found_who : (test : Node → Who → Bool) (n : Node)
      → some_listed policy.users policy.groups (test n) ≡ true → IsSome (first_who policy test n)
  found_who test n t =
      let found =
      any_found (λ (user : List ℕ). test n (record { user = user; groups = policy.groups }))
      policy.users t in
      ap is_some found.1

  some_alterer : (n : Node) → is_alterable policy.users policy.groups n ≡ true
      → IsSome (first_who policy may_alter n)
  unfolding is_alterable
  some_alterer n t = found_who may_alter n t

  some_user : (n : Node) → is_open policy.users policy.groups n ≡ true
      → IsSome (first_who policy may_use n)
  unfolding is_open
  some_user n t = found_who may_use n t

  some_remover : (at : NodeRef) (n : Node) → node_of at f ≡ Some n
      → is_removable policy f at n ≡ true
      → IsSome (option_and_then (alterer_of policy f) (parent_of f at))
  some_remover at n w t =
      ap (λ o. is_some (option_and_then (alterer_of policy f)
      (option_map (beside at) (option_and_then (λ (n : Node). n.parent) o)))) w
      ∙ go n.parent t
    where
      there : (o : Option Node)
          → option_map_or (is_alterable policy.users policy.groups) o false ≡ true
          → is_some (option_and_then (first_who policy may_alter) o) ≡ true
      there None t = let no : false ≡ true = t in absurd (cc)
      there (Some d) t = some_alterer d t

      go : (o : Option ℕ)
          → option_map_or (λ p. option_map_or (is_alterable policy.users policy.groups)
          (node_of (beside at p) f) false) o false ≡ true
          → is_some (option_and_then (alterer_of policy f) (option_map (beside at) o)) ≡ true
      go None t = let no : false ≡ true = t in absurd (cc)
      go (Some p) t = there (node_of (beside at p) f) t

  -- of each kind
  node_by : (at : NodeRef) (n : Node) (kind : ChangeKind) → node_of at f ≡ Some n
      → node_kind policy f at n ≡ Some kind → IsSome (by_kind policy f kind at)
  node_by at n kind w e =
      go (is_alterable policy.users policy.groups n) (is_removable policy f at n)
      (is_exclusive n && is_open policy.users policy.groups n) refl refl refl e
    where
      there : (test : Node → Who → Bool) → IsSome (first_who policy test n)
          → IsSome (option_and_then (first_who policy test) (node_of at f))
      there test t = ap (λ o. is_some (option_and_then (first_who policy test) o)) w ∙ t

      go : (a b c : Bool) → is_alterable policy.users policy.groups n ≡ a
          → is_removable policy f at n ≡ b
          → (is_exclusive n && is_open policy.users policy.groups n) ≡ c
          → (if a then Some Alterable else if b then Some Removable else where_true c Exclusive)
          ≡ Some kind
          → IsSome (by_kind policy f kind at)
      go true b c p q r t =
          subst (λ (k : ChangeKind). IsSome (by_kind policy f k at)) (some_same Alterable kind t)
          (there may_alter (some_alterer n p))
      go false true c p q r t =
          subst (λ (k : ChangeKind). IsSome (by_kind policy f k at)) (some_same Removable kind t)
          (some_remover at n w q)
      go false false true p q r t =
          subst (λ (k : ChangeKind). IsSome (by_kind policy f k at)) (some_same Exclusive kind t)
          (there may_use (some_user n
          (and_parts (is_exclusive n) (is_open policy.users policy.groups n) r).1))
      go false false false p q r t = not_some kind t

  -- of a member
  module _ (place : NodeRef) (m : Member) where
    member_by : (change : Change) → member_change policy f place m ≡ Some change
        → IsSome (changer_of policy f change)
    member_by change e = go (node_of m.node f) refl e
      where
        by : (n : Node) → node_of m.node f ≡ Some n → (o : Option ChangeKind)
            → node_kind policy f m.node n ≡ o
            → option_map (λ kind. let c : Change =
            record { place = place; member = m.node; kind = kind } in c) o ≡ Some change
            → IsSome (changer_of policy f change)
        by n w None q t = not_some change t
        by n w (Some kind) q t =
            let c : Change = record { place = place; member = m.node; kind = kind } in
            subst (λ (d : Change). IsSome (changer_of policy f d)) (some_same c change t)
            (node_by m.node n kind w q)

        go : (o : Option Node) → node_of m.node f ≡ o
            → option_map (λ kind. let c : Change =
            record { place = place; member = m.node; kind = kind } in c)
            (option_and_then (node_kind policy f m.node) o) ≡ Some change
            → IsSome (changer_of policy f change)
        go None w t = not_some change t
        go (Some n) w t = by n w (node_kind policy f m.node n) refl t

  -- of all
  module _ (table : List MountRow) where
    place_by : (place : NodeRef) (change : Change)
        → place_change policy f table place ≡ Some change → IsSome (changer_of policy f change)
    place_by place change e =
        first_some (member_change policy f place) (λ c. IsSome (changer_of policy f c))
        (λ m c t. member_by place m c t) (members_of place table) change e

    children_by : (row : NodeRef) (change : Change)
        → children_change policy f table row ≡ Some change → IsSome (changer_of policy f change)
    children_by row change e =
        first_some (child_change policy f table row) (λ c. IsSome (changer_of policy f c))
        (λ n c t. place_by (beside row n.number) c t) (children_of row f) change e

    change_by : (rows : List NodeRef) (change : Change)
        → first_change policy f table rows ≡ Some change → IsSome (changer_of policy f change)
    change_by rows change e = go (place_change policy f table root_place) refl e
      where
        go : (o : Option Change) → place_change policy f table root_place ≡ o
            → option_or o (first_of (children_change policy f table) rows) ≡ Some change
            → IsSome (changer_of policy f change)
        go None w t =
            first_some (children_change policy f table) (λ c. IsSome (changer_of policy f c))
            (λ row c t. children_by row c t) rows change t
        go (Some c) w t = place_by root_place change (w ∙ t)

    pub found_by : (rows : List NodeRef) (found : Option Change)
        → found ≡ first_change policy f table rows
        → IfSome found (λ change. IsSome (changer_of policy f change))
    found_by rows None e = tt
    found_by rows (Some change) e = change_by rows change (sym e)
