-- How the forest goes on by lawful changes: what is barred stays, and a node keeps its place, its
-- kind and, unless a listed user rules it, its rights.
use Rattle.std.proofs.Common.{◌≡◌, ℕ, ◌+◌, ◌<◌, ◌≤◌, Bool, true, false, ◌||◌, List, [], ◌∷◌, ◌⊎◌}
use Rattle.std.proofs.Common.{inl, inr, Some, refl, sym, ap, ◌∙◌, subst, arith, All}
use Rattle.std.specs.List.{list_any}
use Rattle.std.proofs.lemmas.Bool.{and_from, and_parts}
use Rattle.std.proofs.lemmas.List.Elements.{All-push, All-weaker}
use Rattle.p9_base.specs.declared.node_ref.NodeRef.{NodeRef}
use Rattle.p9_base.specs.NodeRef.{beside}
use Rattle.p9_tree.specs.Node.{Node, is_dir}
use Rattle.p9_tree.specs.Server.{Server, added, with_changed, with_dropped}
use Rattle.p9_tree.specs.Forest.{next_of, node_of, server_at}
use Rattle.p9_tree.specs.Inside.{hidden_on, is_barred, is_inside}
use Rattle.p9_inside.specs.Changes.{KeepsParent, Spares}
use Rattle.p9_inside.proofs.Pass.{IsOrdered}
use Rattle.p9_inside.proofs.Spared.{drop_spares_ordered}
use Rattle.p9_inside.proofs.SparedForests.{add_spares, change_spares, spares-server}
use Rattle.p9_inside.proofs.Facts.{clash}
use Rattle.p9_inside.proofs.Looks.{Ordered}
use Rattle.p9_inside.proofs.OrderKept.{changed_below, changed_ordered, dropped_all, dropped_ordered}
use Rattle.p9_inside.proofs.OrderKept.{joined_ordered}
use Rattle.p9_inside.proofs.Found.{at_each, node_dropped, node_edited, node_joined}
use Rattle.p9_space.specs.Rights.{may, rules, to_execute, to_write}
use Rattle.p9_step.specs.ForestChange.{AddNode, ForestChange, Cut, DropNode, Edit, EditNode, Mark, Overwrite}
use Rattle.p9_step.specs.ForestChange.{Rewrite, Touch, applied, edited}
use Rattle.p9_cert.specs.Listed.{is_alterable, is_open, is_owned, is_passable}
use Rattle.p9_cert.specs.Safe.{IsShut}
use Rattle.p9_guard_laws.specs.Guarded.{Premises}
use Rattle.p9_guard_laws.proofs.Held.{who_in}

-- the same owner, group and mode
pub record SameRights (x y : Node) : Type 0 where
  pub mode : y.mode ≡ x.mode
  pub uid : y.uid ≡ x.uid
  pub gid : y.gid ≡ x.gid

-- y is x later on
pub record SameStanding (premises : Premises) (x y : Node) : Type 0 where
  pub parent : y.parent ≡ x.parent
  pub kind : is_dir y ≡ is_dir x
  pub rights : SameRights x y
      ⊎ ((is_owned premises.policy.users premises.policy.groups x ≡ true)
      × (is_owned premises.policy.users premises.policy.groups y ≡ true))

pub stands-still : (premises : Premises) (x : Node) → SameStanding premises x x
stands-still premises x =
    record {
      parent = refl;
      kind = refl;
      rights =
          inl (record { mode = refl; uid = refl; gid = refl });
    }

-- who rules may do more
any_or : (p q : List ℕ → Bool) (users : List (List ℕ)) → list_any q users ≡ true
    → list_any (λ u. p u || q u) users ≡ true
any_or p q [] e = e
any_or p q (u ∷ us) e = grind (arith, any_or p q us)

module _ (premises : Premises) where
  pub owned_loose : (n : Node) → is_owned premises.policy.users premises.policy.groups n ≡ true
      → is_alterable premises.policy.users premises.policy.groups n ≡ true
  unfolding is_owned is_alterable
  owned_loose n e =
      any_or (λ u. may (who_in premises u) n to_write) (λ u. rules (who_in premises u) n)
      premises.policy.users e

  pub owned_passable : (n : Node) → is_dir n ≡ true
      → is_owned premises.policy.users premises.policy.groups n ≡ true
      → is_passable premises.policy.users premises.policy.groups n ≡ true
  unfolding is_owned is_passable
  owned_passable n d e = and_from (is_dir n) _ d (any_or (λ u. may (who_in premises u) n to_execute)
      (λ u. rules (who_in premises u) n) premises.policy.users e)

  pub passable_dir : (n : Node) → is_passable premises.policy.users premises.policy.groups n ≡ true
      → is_dir n ≡ true
  unfolding is_passable
  passable_dir n e = (and_parts (is_dir n) _ e).0

  module _ (x y : Node) (s : SameRights x y) where
    same_open : is_open premises.policy.users premises.policy.groups y
        ≡ is_open premises.policy.users premises.policy.groups x
    unfolding is_open
    same_open =
        λ i. is_open premises.policy.users premises.policy.groups
        (record x { mode = s.mode i; uid = s.uid i; gid = s.gid i })

    same_owned : is_owned premises.policy.users premises.policy.groups y
        ≡ is_owned premises.policy.users premises.policy.groups x
    unfolding is_owned
    same_owned =
        λ i. is_owned premises.policy.users premises.policy.groups
        (record x { mode = s.mode i; uid = s.uid i; gid = s.gid i })

    same_loose : is_alterable premises.policy.users premises.policy.groups y
        ≡ is_alterable premises.policy.users premises.policy.groups x
    unfolding is_alterable
    same_loose =
        λ i. is_alterable premises.policy.users premises.policy.groups
        (record x { mode = s.mode i; uid = s.uid i; gid = s.gid i })

    same_passable : is_passable premises.policy.users premises.policy.groups y
        ≡ is_passable premises.policy.users premises.policy.groups x
    unfolding is_passable
    same_passable =
        λ i. is_passable premises.policy.users premises.policy.groups
        (record x { mode = s.mode i; uid = s.uid i; gid = s.gid i })

  module _ (x y : Node) (stands : SameStanding premises x y) where
    pub shut_stays : IsShut premises.policy x → IsShut premises.policy y
    shut_stays shut = elim stands.rights [
      | inl s ↦
          record {
            unused = same_open x y s ∙ shut.unused;
            unruled = same_owned x y s
                ∙ shut.unruled;
          }
      | inr r ↦ clash (is_owned premises.policy.users premises.policy.groups x) r.0 shut.unruled
    ]

    pub loose_stays : is_alterable premises.policy.users premises.policy.groups x ≡ false
        → is_alterable premises.policy.users premises.policy.groups y ≡ false
    loose_stays tight = elim stands.rights [
      | inl s ↦ same_loose x y s ∙ tight
      | inr r ↦
          clash (is_alterable premises.policy.users premises.policy.groups x) (owned_loose x r.0) tight
    ]

    pub passable_was : is_passable premises.policy.users premises.policy.groups y ≡ true
        → is_passable premises.policy.users premises.policy.groups x ≡ true
    passable_was pass = elim stands.rights [
      | inl s ↦ sym (same_passable x y s) ∙ pass
      | inr r ↦ owned_passable x (sym stands.kind ∙ passable_dir y pass) r.0
    ]

-- Evolution.

module _ (premises : Premises) where
  -- a node that came, in a directory neither hidden nor inside
  pub record Newcomer (f : List Server) (q : NodeRef) (x : Node) : Type 0 where
    pub at_next : next_of q.server f ≤ q.number
    pub no_root : 0 < q.number
    pub under : ℕ
    pub parent : x.parent ≡ Some under
    pub open_parent : is_barred (beside q under) premises.policy.hidden f ≡ false

  pub record Evolves (f g : List Server) : Type 0 where
    pub barred : (r : NodeRef)
        → is_barred r premises.policy.hidden g ≡ is_barred r premises.policy.hidden f
    pub next : (s : ℕ) → next_of s f ≤ next_of s g
    pub node : (q : NodeRef) (y : Node) → node_of q g ≡ Some y
        → ((x : Node) × (node_of q f ≡ Some x) × SameStanding premises x y) ⊎ Newcomer f q y

  -- Lawful changes.

  pub record LawfulEdit (f : List Server) (r : NodeRef) (e : Edit) : Type 0 where
    pub outside : is_inside r premises.policy.hidden f ≡ false
    pub standing : (x : Node) → node_of r f ≡ Some x → SameStanding premises x (edited e x)

  pub record LawfulAdd (f : List Server) (s : ℕ) (x : Node) : Type 0 where
    pub at_next : x.number ≡ next_of s f
    pub under : ℕ
    pub parent : x.parent ≡ Some under
    pub below : under < x.number
    pub open_parent : is_barred (record { server = s; number = under }) premises.policy.hidden f
        ≡ false

  abbrev pub LawfulChange : List Server → ForestChange → Type 0
  LawfulChange f (EditNode r e) = LawfulEdit f r e
  LawfulChange f (AddNode s x) = LawfulAdd f s x
  LawfulChange f (DropNode r) = is_inside r premises.policy.hidden f ≡ false

  abbrev pub Lawful : List Server → List ForestChange → Type 0
  Lawful f [] = Unit {0}
  Lawful f (c ∷ cs) = LawfulChange f c × Lawful (applied c f) cs

pub edit_keeps : (e : Edit) → KeepsParent (edited e)
unfolding edited
edit_keeps (Mark user now) = record { number = λ n. refl; parent = λ n. refl }
edit_keeps (Touch now) = record { number = λ n. refl; parent = λ n. refl }
edit_keeps (Overwrite offset bytes) = record { number = λ n. refl; parent = λ n. refl }
edit_keeps (Cut size) = record { number = λ n. refl; parent = λ n. refl }
edit_keeps (Rewrite change) = record { number = λ n. refl; parent = λ n. refl }

module _ (premises : Premises) (f : List Server) (o : Ordered f) where
  -- a lawful change spares the insides
  pub spares : (c : ForestChange) → LawfulChange premises f c → Spares premises.policy.hidden (applied c) f
  unfolding applied is_inside
  spares (EditNode r e) l =
      change_spares premises.policy.hidden f r (edited e) (edit_keeps e) l.outside
  spares (AddNode s x) l =
      add_spares premises.policy.hidden f (record { server = s; number = l.under }) (λ k. x)
      (λ k. l.parent)
      l.open_parent
  spares (DropNode r) l =
      spares-server premises.policy.hidden f r.server (with_dropped r.number)
      (drop_spares_ordered (hidden_on r.server premises.policy.hidden) (server_at r.server f) r.number
      (o.nodes r.server) l)

  next_stays : (c : ForestChange) (s : ℕ) → next_of s f ≤ next_of s (applied c f)
  unfolding applied
  next_stays (EditNode r e) s =
      at_each (λ k t. next_of k f ≤ t.next) r.server f (with_changed r.number (edited e))
      (λ k. omega arith) (λ l. l) s
  next_stays (AddNode server x) s =
      at_each (λ k t. next_of k f ≤ t.next) server f (λ t. added t x) (λ k. omega arith)
      (λ l. omega arith) s
  next_stays (DropNode r) s =
      at_each (λ k t. next_of k f ≤ t.next) r.server f (with_dropped r.number) (λ k. omega arith)
      (λ l. l) s

  node_stays : (c : ForestChange) → LawfulChange premises f c → (q : NodeRef) (y : Node)
      → node_of q (applied c f) ≡ Some y
      → ((x : Node) × (node_of q f ≡ Some x) × SameStanding premises x y) ⊎ Newcomer premises f q y
  unfolding applied
  node_stays (EditNode r e) l q y found =
      inl (told (node_edited f r q (edited e) y (edit_keeps e) found))
    where
      told : (x : Node) × (node_of q f ≡ Some x) × ((y ≡ x) ⊎ ((q ≡ r) × (y ≡ edited e x)))
          → (x : Node) × (node_of q f ≡ Some x) × SameStanding premises x y
      told w = (
        w.0,
        w.1,
        elim w.2 [
          | inl same ↦
              subst (λ (z : Node). SameStanding premises w.0 z) (sym same) (stands-still premises w.0)
          | inr new ↦ subst (λ (z : Node). SameStanding premises w.0 z) (sym new.1)
              (l.standing w.0 (ap (λ p. node_of p f) (sym new.0) ∙ w.1))
        ],
      )
  node_stays (AddNode s x) l q y found = elim (node_joined f s x q y found) [
    | inl old ↦ inl (y, old, stands-still premises y)
    | inr new ↦ inr (record {
      at_next = (let a : next_of s f ≤ x.number = (let e = l.at_next in omega arith) in
          subst (λ t. next_of t f ≤ q.number) (sym new.0)
          (subst (λ k. next_of s f ≤ k) (sym new.1) a));
      no_root =
          (let b : l.under < x.number = l.below in let n : q.number ≡ x.number =
          new.1 in omega arith);
      under = l.under;
      parent = ap (λ (z : Node). z.parent) new.2 ∙ l.parent;
      open_parent =
          ap (λ t. is_barred (record { server = t; number = l.under }) premises.policy.hidden f) new.0
          ∙ l.open_parent;
    })
  ]
  node_stays (DropNode r) l q y found = inl (y, node_dropped f o r q y found, stands-still premises y)

  pub evolves : (c : ForestChange) → LawfulChange premises f c → Evolves premises f (applied c f)
  evolves c l = record {
    barred = (spares c l).barred;
    next = next_stays c;
    node = node_stays c l;
  }

-- and after a lawful change numbers rise as before
pub ordered-applied : (premises : Premises) (f : List Server) → Ordered f → (c : ForestChange)
    → LawfulChange premises f c → Ordered (applied c f)
unfolding applied
ordered-applied premises f o (EditNode r e) l = record {
  nodes =
      at_each (λ k t. IsOrdered t.nodes) r.server f (with_changed r.number (edited e)) o.nodes
      (λ h. changed_ordered r.number (edited e) (edit_keeps e) (server_at r.server f).nodes h);
  below =
      at_each (λ k t. All (λ n. n.number < t.next) t.nodes) r.server f
      (with_changed r.number (edited e)) o.below
      (λ h. changed_below r.number (edited e) (edit_keeps e) (next_of r.server f)
      (server_at r.server f).nodes h);
}
ordered-applied premises f o (AddNode s x) l = record {
  nodes =
      at_each (λ k t. IsOrdered t.nodes) s f (λ t. added t x) o.nodes
      (λ h. joined_ordered (server_at s f).nodes x l.under h
      (All-weaker (λ n. n.number < next_of s f) (λ n. n.number < x.number)
      (λ n lt. let e = l.at_next in omega arith) (server_at s f).nodes (o.below s))
      l.parent l.below);
  below =
      at_each (λ k t. All (λ n. n.number < t.next) t.nodes) s f (λ t. added t x) o.below
      (λ h. All-push (λ n. n.number < next_of s f + 1) (server_at s f).nodes x
      (All-weaker (λ n. n.number < next_of s f) (λ n. n.number < next_of s f + 1)
      (λ n lt. omega arith) (server_at s f).nodes h)
      (let e = l.at_next in omega arith));
}
ordered-applied premises f o (DropNode r) l = record {
  nodes =
      at_each (λ k t. IsOrdered t.nodes) r.server f (with_dropped r.number) o.nodes
      (λ h. dropped_ordered r.number (server_at r.server f).nodes h);
  below =
      at_each (λ k t. All (λ n. n.number < t.next) t.nodes) r.server f (with_dropped r.number)
      o.below
      (λ h. dropped_all (λ n. n.number < next_of r.server f) r.number
      (server_at r.server f).nodes h);
}
