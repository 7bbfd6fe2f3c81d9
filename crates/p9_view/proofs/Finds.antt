-- The children of a directory, by their names and one after another.
use Rattle.std.proofs.Common.{◌≡◌, ℕ, Bool, true, false, cond, ◌&&◌, List, []}
use Rattle.std.proofs.Common.{◌∷◌, ◌++◌, Option, Some, None, map, refl, sym, ap, ◌∙◌}
use Rattle.std.proofs.Common.{append_assoc, append-nil}
use Rattle.std.specs.Prelude.{filter, find}
use Rattle.std.specs.Option.{option_map, option_or}
use Rattle.std.specs.Str.{bytes_eq}
use Rattle.p9_base.specs.declared.node_ref.NodeRef.{NodeRef}
use Rattle.p9_base.specs.NodeRef.{beside}
use Rattle.p9_tree.specs.Node.{Node, is_in}
use Rattle.p9_tree.specs.Server.{Server}
use Rattle.p9_tree.specs.Forest.{IsForest, child_in_after, children_of, server_at}
use Rattle.p9_inside.proofs.Forests.{server_ordered}
use Rattle.p9_space.specs.Walk.{child_ref}
use Rattle.p9_cert.proofs.Children.{is_left, left-all, left-next, left_of, none_kept}

-- Options.

pub or-none : {X : Type 0} (o : Option X) → option_or o None ≡ o
or-none None = refl
or-none (Some x) = refl

-- The children of a directory, by their names.

find-filter : (p q : Node → Bool) (xs : List Node)
    → find q (filter p xs) ≡ find (λ x. p x && q x) xs
find-filter p q [] = refl
find-filter p q (x ∷ xs) =
    elim (p x) as (λ b. find q (cond b (x ∷ filter p xs) (filter p xs))
    ≡ cond (b && q x) (Some x) (find (λ y. p y && q y) xs)) [
      | true ↦ ap (λ r. cond (q x) (Some x) r) (find-filter p q xs)
      | false ↦ find-filter p q xs
    ]

module _ (forest : List Server) (dir : NodeRef) (name : List ℕ) where
  -- the place of the first of some nodes of the directory that has the name
  abbrev pub named : List Node → Option NodeRef
  named nodes =
      option_map (λ n. beside dir n.number) (find (λ n. bytes_eq n.name name) nodes)

  pub named-all : named (left_of dir None forest) ≡ child_ref forest dir name
  named-all =
      ap named (left-all dir forest)
      ∙ ap (option_map (λ n. beside dir n.number))
      (find-filter (is_in dir.number) (λ n. bytes_eq n.name name)
      (server_at dir.server forest).nodes)

  named-more : (old : Option NodeRef) (m : Node) (rest : Option Node) (b : Bool)
      → option_or (option_or old (cond b (Some (beside dir m.number)) None))
      (option_map (λ n. beside dir n.number) rest)
      ≡ option_or old (option_map (λ n. beside dir n.number) (cond b (Some m) rest))
  named-more (Some p) m rest b = refl
  named-more None m rest true = refl
  named-more None m rest false = refl

  module _ (sound : IsForest forest) (floor : Option ℕ) (old all : Option NodeRef) where
    -- the next
    pub children-more : (new : Option NodeRef) (m : Node)
        → new ≡ option_or old (cond (bytes_eq m.name name) (Some (beside dir m.number)) None)
        → child_in_after dir floor forest ≡ Some m
        → option_or old (named (left_of dir floor forest)) ≡ all
        → option_or new (named (left_of dir (Some m.number) forest)) ≡ all
    children-more new m is next kept =
        let rest = left_of dir (Some m.number) forest in
        ap (λ o. option_or o (named rest)) is
        ∙ named-more old m (find (λ n. bytes_eq n.name name) rest) (bytes_eq m.name name)
        ∙ ap (λ ns. option_or old (named ns))
        (sym (left-next dir.number floor (server_at dir.server forest).nodes m
        (server_ordered forest sound dir.server).rising next))
        ∙ kept

    -- none is left
    pub children-end : child_in_after dir floor forest ≡ None
        → option_or old (named (left_of dir floor forest)) ≡ all → old ≡ all
    children-end none kept =
        sym (ap (λ ns. option_or old (named ns))
        (none_kept (is_left dir.number floor) (server_at dir.server forest).nodes none)
        ∙ or-none old)
        ∙ kept

-- What is kept of images of the children, one after another.

module _ {X : Type 0} (p : X → Bool) (f : Node → X) (forest : List Server) (dir : NodeRef) where
  pub images-all : (old : List X) → old ++ filter p (map f (left_of dir None forest))
      ≡ old ++ filter p (map f (children_of dir forest))
  images-all old = ap (λ ns. old ++ filter p (map f ns)) (left-all dir forest)

  one : (b : Bool) (x : X) (xs : List X) → cond b (x ∷ []) [] ++ xs ≡ cond b (x ∷ xs) xs
  one true x xs = refl
  one false x xs = refl

  module _ (sound : IsForest forest) (floor : Option ℕ) (old all : List X)
      (kept : old ++ filter p (map f (left_of dir floor forest)) ≡ all) where
    -- the next
    pub images-more : (new : List X) (x : X) (m : Node) (k : ℕ)
        → new ≡ old ++ cond (p x) (x ∷ []) [] → x ≡ f m → k ≡ m.number
        → child_in_after dir floor forest ≡ Some m
        → new ++ filter p (map f (left_of dir (Some k) forest)) ≡ all
    images-more new x m k is image number next =
        let rest = λ (j : ℕ). filter p (map f (left_of dir (Some j) forest)) in
        ap (λ xs. xs ++ rest k) is
        ∙ append_assoc old (cond (p x) (x ∷ []) []) (rest k)
        ∙ ap (λ xs. old ++ xs) (one (p x) x (rest k))
        ∙ ap (λ j. old ++ cond (p x) (x ∷ rest j) (rest j)) number
        ∙ ap (λ y. old ++ cond (p y) (y ∷ rest m.number) (rest m.number)) image
        ∙ ap (λ ns. old ++ filter p (map f ns))
        (sym (left-next dir.number floor (server_at dir.server forest).nodes m
        (server_ordered forest sound dir.server).rising next))
        ∙ kept

    -- none is left
    pub images-end : child_in_after dir floor forest ≡ None → old ≡ all
    images-end none =
        sym (ap (λ ns. old ++ filter p (map f ns))
        (none_kept (is_left dir.number floor) (server_at dir.server forest).nodes none)
        ∙ append-nil old)
        ∙ kept
