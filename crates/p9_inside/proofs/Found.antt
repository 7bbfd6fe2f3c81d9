-- What a look-up finds after a change of one server.
use Rattle.std.proofs.Common.{◌≡◌, ℕ, zero, suc, Bool, true, false, cond, eqb, List, [], ◌∷◌, ◌++◌}
use Rattle.std.proofs.Common.{◌⊎◌, inl, inr, Option, Some, None, refl, sym, ap, ◌∙◌, subst}
use Rattle.std.specs.Prelude.{slice_set}
use Rattle.std.specs.Option.{option_map, option_or}
use Rattle.std.proofs.lemmas.List.Folds.{find-append}
use Rattle.p9_base.specs.declared.node_ref.NodeRef.{NodeRef}
use Rattle.p9_tree.specs.Node.{Node, has_number}
use Rattle.p9_tree.specs.Server.{Server, added, changed_at, dropped_at, node_at, with_changed}
use Rattle.p9_tree.specs.Server.{with_dropped}
use Rattle.p9_tree.specs.Forest.{forest_changed_at, node_of, server_at, tree_changed_at}
use Rattle.p9_tree.proofs.Changed.{node_at-changed_at}
use Rattle.p9_tree.proofs.Dropped.{node_at-dropped_at}
use Rattle.p9_inside.specs.Changes.{KeepsParent}
use Rattle.p9_inside.proofs.Facts.{eq_of, not_some, some_same}
use Rattle.p9_inside.proofs.Looks.{Ordered}

-- a server after a change of one
pub set_cases : (k server : ℕ) (f : List Server) (t : Server)
    → (server_at k (slice_set f server t) ≡ server_at k f)
    ⊎ ((k ≡ server) × (server_at k (slice_set f server t) ≡ t))
set_cases k server [] t = inl refl
set_cases zero zero (s ∷ ss) t = inr (refl, refl)
set_cases zero (suc server) (s ∷ ss) t = inl refl
set_cases (suc k) zero (s ∷ ss) t = inl refl
set_cases (suc k) (suc server) (s ∷ ss) t =
    elim (set_cases k server ss t) [ inl same ↦ inl same | inr new ↦ inr (ap suc new.0, new.1) ]

-- what holds of every server holds after a change of one, if the change keeps it
pub at_each : (P : ℕ → Server → Type 0) (server : ℕ) (f : List Server) (change : Server → Server)
    → ((k : ℕ) → P k (server_at k f))
    → (P server (server_at server f) → P server (change (server_at server f)))
    → (k : ℕ) → P k (server_at k (tree_changed_at server change f))
at_each P server f change old new k =
    elim (set_cases k server f (change (server_at server f))) [
      | inl same ↦ subst (P k) (sym same) (old k)
      | inr there ↦ subst (λ j. P j (server_at k (tree_changed_at server change f))) (sym there.0)
          (subst (P server) (sym there.1) (new (old server)))
    ]

pub node_changed : (k j : ℕ) (g : Node → Node) → KeepsParent g → (xs : List Node) (y : Node)
    → node_at j (changed_at k g xs) ≡ Some y
    → (x : Node) × (node_at j xs ≡ Some x) × ((y ≡ x) ⊎ ((j ≡ k) × (y ≡ g x)))
node_changed k j g keeps xs y e = go (eqb j k) refl (node_at k xs) refl
  where
    is : node_at j (changed_at k g xs) ≡ cond (eqb j k) (option_map g (node_at k xs)) (node_at j xs)
    is = node_at-changed_at k g (record { number = keeps.number; parent = keeps.parent }) j xs

    go : (b : Bool) → eqb j k ≡ b → (o : Option Node) → node_at k xs ≡ o
        → (x : Node) × (node_at j xs ≡ Some x) × ((y ≡ x) ⊎ ((j ≡ k) × (y ≡ g x)))
    go false t o f =
        let old : node_at j xs ≡ Some y = sym (is ∙ rw t refl) ∙ e in (y, old, inl refl)
    go true t None f = not_some y (sym (is ∙ rw (t, f) refl) ∙ e)
    go true t (Some x) f =
        let same : j ≡ k = eq_of j k t in
        let new : g x ≡ y = some_same (g x) y (sym (is ∙ rw (t, f) refl) ∙ e) in
        (x, ap (λ n. node_at n xs) same ∙ f, inr (same, sym new))

pub node_edited : (f : List Server) (r q : NodeRef) (g : Node → Node) (y : Node) → KeepsParent g
    → node_of q (forest_changed_at r g f) ≡ Some y
    → (x : Node) × (node_of q f ≡ Some x) × ((y ≡ x) ⊎ ((q ≡ r) × (y ≡ g x)))
node_edited f r q g y keeps e =
    elim (set_cases q.server r.server f (with_changed r.number g (server_at r.server f))) [
      | inl same ↦ (y, sym (ap (λ (s : Server). node_at q.number s.nodes) same) ∙ e, inl refl)
      | inr there ↦ told there.0
          (node_changed r.number q.number g keeps (server_at r.server f).nodes y
          (sym (ap (λ (s : Server). node_at q.number s.nodes) there.1) ∙ e))
    ]
  where
    told : q.server ≡ r.server
        → (x : Node) × (node_at q.number (server_at r.server f).nodes ≡ Some x)
        × ((y ≡ x) ⊎ ((q.number ≡ r.number) × (y ≡ g x)))
        → (x : Node) × (node_of q f ≡ Some x) × ((y ≡ x) ⊎ ((q ≡ r) × (y ≡ g x)))
    told s w = (
      w.0,
      ap (λ t. node_at q.number (server_at t f).nodes) s ∙ w.1,
      elim w.2 [
        | inl same ↦ inl same
        | inr new ↦ inr ((λ i. record { server = s i; number = new.0 i }), new.1)
      ],
    )

pub node_dropped : (f : List Server) → Ordered f → (r q : NodeRef) (y : Node)
    → node_of q (tree_changed_at r.server (with_dropped r.number) f) ≡ Some y → node_of q f ≡ Some y
node_dropped f o r q y e =
    elim (set_cases q.server r.server f (with_dropped r.number (server_at r.server f))) [
      | inl same ↦ sym (ap (λ (s : Server). node_at q.number s.nodes) same) ∙ e
      | inr there ↦ ap (λ t. node_at q.number (server_at t f).nodes) there.0
          ∙ go (eqb q.number r.number) refl
          (sym (ap (λ (s : Server). node_at q.number s.nodes) there.1) ∙ e)
    ]
  where
    is : node_at q.number (dropped_at r.number (server_at r.server f).nodes)
        ≡ cond (eqb q.number r.number) None (node_at q.number (server_at r.server f).nodes)
    is = node_at-dropped_at r.number q.number (server_at r.server f).nodes (o.nodes r.server).rising

    go : (b : Bool) → eqb q.number r.number ≡ b
        → node_at q.number (dropped_at r.number (server_at r.server f).nodes) ≡ Some y
        → node_at q.number (server_at r.server f).nodes ≡ Some y
    go true t found = not_some y (sym (is ∙ rw t refl) ∙ found)
    go false t found = sym (is ∙ rw t refl) ∙ found

pub node_pushed : (j : ℕ) (xs : List Node) (x y : Node) → node_at j (xs ++ x ∷ []) ≡ Some y
    → (node_at j xs ≡ Some y) ⊎ ((j ≡ x.number) × (y ≡ x))
node_pushed j xs x y e = go (node_at j xs) refl
  where
    is : node_at j (xs ++ x ∷ []) ≡ option_or (node_at j xs) (node_at j (x ∷ []))
    is = find-append (has_number j) xs (x ∷ [])

    last : (b : Bool) → eqb x.number j ≡ b → cond b (Some x) None ≡ Some y
        → (node_at j xs ≡ Some y) ⊎ ((j ≡ x.number) × (y ≡ x))
    last true t f = inr (sym (eq_of x.number j t), sym (some_same x y f))
    last false t f = not_some y f

    go : (o : Option Node) → node_at j xs ≡ o
        → (node_at j xs ≡ Some y) ⊎ ((j ≡ x.number) × (y ≡ x))
    go (Some z) f = inl (f ∙ (sym (is ∙ rw f refl) ∙ e))
    go None f =
        last (eqb x.number j) refl
        (let here : option_or (node_at j xs) (node_at j (x ∷ [])) ≡ Some y =
        sym is ∙ e in rw f at here)

-- what is found after a node joined was there, or is that node
pub node_joined : (f : List Server) (s : ℕ) (x : Node) (q : NodeRef) (y : Node)
    → node_of q (tree_changed_at s (λ t. added t x) f) ≡ Some y
    → (node_of q f ≡ Some y) ⊎ ((q.server ≡ s) × (q.number ≡ x.number) × (y ≡ x))
node_joined f s x q y e =
    elim (set_cases q.server s f (added (server_at s f) x)) [
      | inl same ↦ inl (sym (ap (λ (t : Server). node_at q.number t.nodes) same) ∙ e)
      | inr there ↦ told there.0
          (node_pushed q.number (server_at s f).nodes x y
          (sym (ap (λ (t : Server). node_at q.number t.nodes) there.1) ∙ e))
    ]
  where
    told : q.server ≡ s
        → (node_at q.number (server_at s f).nodes ≡ Some y) ⊎ ((q.number ≡ x.number) × (y ≡ x))
        → (node_of q f ≡ Some y) ⊎ ((q.server ≡ s) × (q.number ≡ x.number) × (y ≡ x))
    told at (inl old) = inl (ap (λ t. node_at q.number (server_at t f).nodes) at ∙ old)
    told at (inr new) = inr (at, new.0, new.1)
