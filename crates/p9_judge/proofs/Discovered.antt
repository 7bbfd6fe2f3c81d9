-- What passing a member discovers.
use Rattle.std.proofs.Common.{◌≡◌, ℕ, true, false, List, [], ◌∷◌, ◌++◌, map, Some, None, refl}
use Rattle.std.proofs.Common.{sym, ap, ◌∙◌, option_and_then, Option}
use Rattle.std.specs.Prelude.{if◌then◌else◌}
use Rattle.std.specs.Option.{option_map_or}
use Rattle.std.proofs.lemmas.List.{append_assoc}
use Rattle.std.proofs.lemmas.Bool.{and_parts}
use Rattle.p9_base.specs.declared.node_ref.NodeRef.{NodeRef}
use Rattle.p9_base.specs.NodeRef.{beside}
use Rattle.p9_tree.specs.Node.{Node, is_above, is_in}
use Rattle.p9_tree.specs.Server.{Server}
use Rattle.p9_tree.specs.Forest.{IsForest, child_in_after, node_of, server_at}
use Rattle.p9_tree.proofs.Lookups.{node_at-found, passes-found}
use Rattle.p9_inside.proofs.Forests.{server_ordered}
use Rattle.p9_inside.proofs.Looks.{in-parent}
use Rattle.p9_cert.specs.Listed.{is_passable}
use Rattle.p9_cert.specs.Policy.{Policy}
use Rattle.p9_cert.specs.Rows.{is_row}
use Rattle.p9_policy.proofs.Basics.{clash}
use Rattle.p9_cert.proofs.Children.{is_left, left-next, left_of, none_kept}
use Rattle.p9_judge.specs.declared.search.Place.{Place}
use Rattle.p9_judge.specs.Breach.{first_passer, passer_of}
use Rattle.p9_judge.specs.Search.{child_places, discovered}
use Rattle.p9_judge.proofs.Members.{passable-passer, passer-passable}

pub append_nil : {X : Type 0} (xs : List X) → xs ++ [] ≡ xs
append_nil [] = refl
append_nil (x ∷ xs) = ap (λ ys. x ∷ ys) (append_nil xs)

-- Who passes a member.

module _ (policy : Policy) (f : List Server) (at : NodeRef) (n : Node) (here : Some n ≡ node_of at f)
  where
    -- a directory that is passable has one who passes it
    pub passer-some : is_passable policy.users policy.groups n ≡ true
        → (user : List ℕ) × (passer_of policy f at ≡ Some user)
    passer-some t =
        let found = passable-passer policy f n t in
        (found.0, ap (option_and_then (first_passer policy)) (sym here) ∙ found.1)

    -- another node has none
    pub passer-none : is_passable policy.users policy.groups n ≡ false
        → passer_of policy f at ≡ None
    passer-none t =
        ap (option_and_then (first_passer policy)) (sym here) ∙ go (first_passer policy n) refl
      where
        go : (o : Option (List ℕ)) → first_passer policy n ≡ o → first_passer policy n ≡ None
        go None e = e
        go (Some user) e =
            clash (is_passable policy.users policy.groups n) (passer-passable policy f n user e) t

module _ (policy : Policy) (f : List Server) (from : ℕ) (passed : List NodeRef) (member : NodeRef)
    (user : List ℕ) (passer : passer_of policy f member ≡ Some user) where
  by_row : discovered policy f from passed member
      ≡ (if is_row passed member then [] else child_places f from member)
  by_row =
      ap (λ o. option_map_or
      (λ _. if is_row passed member then [] else child_places f from member) o []) passer

  -- for the first time
  pub discovered-new : (places more : List Place) → is_row passed member ≡ false
      → more ≡ places ++ child_places f from member
      → more ≡ places ++ discovered policy f from passed member
  discovered-new places more row e =
      e ∙ ap (λ ps. places ++ ps)
      (sym (by_row ∙ ap (λ b. if b then [] else child_places f from member) row))

  -- and again
  pub discovered-again : (places : List Place) → is_row passed member ≡ true
      → places ≡ places ++ discovered policy f from passed member
  discovered-again places row =
      sym (ap (λ ps. places ++ ps)
      (by_row ∙ ap (λ b. if b then [] else child_places f from member) row)
      ∙ append_nil places)

-- by nobody
pub discovered-none : (policy : Policy) (f : List Server) (from : ℕ) (passed : List NodeRef)
    (member : NodeRef) (places : List Place) → passer_of policy f member ≡ None
    → places ≡ places ++ discovered policy f from passed member
discovered-none policy f from passed member places none =
    sym (ap (λ o. places ++ option_map_or
    (λ _. if is_row passed member then [] else child_places f from member) o []) none
    ∙ append_nil places)

-- The children, one after another.

module _ (f : List Server) (sound : IsForest f) (dir : NodeRef) where
  -- the next child is in the directory
  pub after-child : (floor : Option ℕ) (n : Node)
      → child_in_after dir floor f ≡ Some n
      → (node_of (beside dir n.number) f ≡ Some n) × (n.parent ≡ Some dir.number)
  after-child floor n e =
      let passes = passes-found (is_left dir.number floor) (server_at dir.server f).nodes n e in
      let parts = and_parts (is_in dir.number n) (is_above floor n) passes in
      let there : node_of (beside dir n.number) f ≡ Some n =
      node_at-found (is_left dir.number floor) (server_at dir.server f).nodes n
      (server_ordered f sound dir.server).rising e in
      (there, in-parent dir.number n parts.0)

  module _ (place : Node → Place) (all : List Place) (floor : Option ℕ) where
    -- a child joins the places
    pub discovered-next : (old new : List Place) (x : Place) (m : Node) (k : ℕ)
        → new ≡ old ++ x ∷ [] → x ≡ place m → k ≡ m.number
        → child_in_after dir floor f ≡ Some m
        → old ++ map place (left_of dir floor f) ≡ all
        → new ++ map place (left_of dir (Some k) f) ≡ all
    discovered-next old new x m k a b n e kept =
        ap (λ ps. ps ++ map place (left_of dir (Some k) f)) a
        ∙ append_assoc old (x ∷ []) (map place (left_of dir (Some k) f))
        ∙ ap (λ j. old ++ (x ∷ map place (left_of dir (Some j) f))) n
        ∙ ap (λ y. old ++ (y ∷ map place (left_of dir (Some m.number) f))) b
        ∙ ap (λ ns. old ++ map place ns)
        (sym (left-next dir.number floor (server_at dir.server f).nodes m
        (server_ordered f sound dir.server).rising e))
        ∙ kept

    -- none is left
    pub discovered-end : (old : List Place) → child_in_after dir floor f ≡ None
        → old ++ map place (left_of dir floor f) ≡ all → old ≡ all
    discovered-end old e kept =
        sym (ap (λ ns. old ++ map place ns)
        (none_kept (is_left dir.number floor) (server_at dir.server f).nodes e)
        ∙ append_nil old)
        ∙ kept
