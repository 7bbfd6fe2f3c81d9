-- Tours: what stays as entries are added, and what an entry more brings.
use Rattle.std.proofs.Common.{◌≡◌, ◌≢◌, ℕ, zero, suc, ◌+◌, ◌<◌, ◌==◌, true, false, cond}
use Rattle.std.proofs.Common.{List, [], ◌∷◌, ◌++◌, Option, Some, None, ◌⊎◌, inl, inr, length, map}
use Rattle.std.proofs.Common.{refl, sym, ap, ◌∙◌, subst, append_assoc, append-nil, arith}
use Rattle.std.specs.Prelude.{slice_get}
use Rattle.std.specs.Option.{option_map}
use Rattle.std.proofs.lemmas.Bool.Decides.{nat_tests}
use Rattle.std.proofs.lemmas.List.{length-append, length-map, map-append}
use Rattle.std.proofs.lemmas.List.Elements.{filter_map-append}
use Rattle.p9_base.specs.declared.node_ref.NodeRef.{NodeRef}
use Rattle.p9_tree.specs.Server.{Server}
use Rattle.p9_space.specs.Rights.{Who}
use Rattle.p9_space.specs.Table.{MountRow}
use Rattle.p9_policy.proofs.Basics.{not_some, some_same}
use Rattle.p9_judge.proofs.Lists.{at-within, kept_at, map_at, new_at, split_at}
use Rattle.p9_view.specs.declared.met.Met.{Met}
use Rattle.p9_view.specs.declared.tour.Entry.{Entry}
use Rattle.p9_view.specs.declared.tour.Origin.{Origin}
use Rattle.p9_view.specs.declared.way.Access.{Access}
use Rattle.p9_view.specs.declared.way.Way.{Way}
use Rattle.p9_view.specs.Met.{met_at, nodes_at}
use Rattle.p9_view.specs.Tour.{AreInOrder, AreSame, CanFollow, IsEntered, IsTour, entry_below, onward}
use Rattle.p9_view.specs.Tour.{parents_of, root_entry, way_below, way_from, ways_below}
use Rattle.p9_view.specs.Visit.{IsUnderway, entries_below}
use Rattle.p9_view.specs.Way.{ways_from}
use Rattle.p9_view.proofs.Mets.{nodes-cases}
use Rattle.p9_view.proofs.Orders.{order-more, order-root}

-- Lists.

-- the last of a list, and those before
pub last_at : {X : Type 0} (xs : List X) (x : X) (i : ℕ) (y : X)
    → slice_get (xs ++ x ∷ []) i ≡ Some y
    → (slice_get xs i ≡ Some y) ⊎ ((i ≡ length xs) × (x ≡ y))
last_at xs x i y e = elim (split_at xs (x ∷ []) i y e) [
  | inl old ↦ inl old
  | inr new ↦ inr (only new.0 new.1 new.2)
]
  where
    only : (j : ℕ) → i ≡ length xs + j → slice_get (x ∷ []) j ≡ Some y
        → (i ≡ length xs) × (x ≡ y)
    only zero at f = (omega arith, some_same x y f)
    only (suc j) at f = not_some y f

pub new_last : {X : Type 0} (xs : List X) (x : X) → slice_get (xs ++ x ∷ []) (length xs) ≡ Some x
new_last xs x =
    let index : length xs + 0 ≡ length xs = omega arith in
    ap (slice_get (xs ++ x ∷ [])) (sym index) ∙ new_at xs (x ∷ []) 0 x refl

-- the first of a list is that of a longer one
first_kept : {X : Type 0} (xs ys zs : List X) → 0 < length xs
    → slice_get (xs ++ ys) 0 ≡ slice_get (xs ++ zs) 0
first_kept [] ys zs lt = absurd (omega arith)
first_kept (x ∷ xs) ys zs lt = refl

nil_left : {X : Type 0} (xs ys : List X) → xs ++ ys ≡ [] → xs ≡ []
nil_left [] ys e = refl
nil_left (x ∷ xs) ys e = let no : x ∷ (xs ++ ys) ≡ [] = e in absurd (cc)

nil_right : {X : Type 0} (xs ys : List X) → xs ++ ys ≡ [] → ys ≡ []
nil_right [] ys e = e
nil_right (x ∷ xs) ys e = let no : x ∷ (xs ++ ys) ≡ [] = e in absurd (cc)

-- A tour with an entry more.

pub tour-pushed : (entries : List Entry) (e : Entry) → IsTour entries → CanFollow (length entries) e
    → IsTour (entries ++ e ∷ [])
tour-pushed entries e tour follows = record {
  first = λ i f at none. elim (last_at entries e i f at) [
    | inl old ↦ tour.first i f old none
    | inr new ↦ new.0 ∙ follows.first (ap (λ x. x.origin) new.1 ∙ none)
  ];
  earlier = λ i f origin at is. elim (last_at entries e i f at) [
    | inl old ↦ tour.earlier i f origin old is
    | inr new ↦ subst (λ n. origin.parent < n) (sym new.0)
        (follows.earlier origin (ap (λ x. x.origin) new.1 ∙ is))
  ];
  same = λ i f j at is. elim (last_at entries e i f at) [
    | inl old ↦ tour.same i f j old is
    | inr new ↦ subst (λ n. j < n) (sym new.0) (follows.same j (ap (λ x. x.same) new.1 ∙ is))
  ];
}

-- What is below entries.

below-append : (i : ℕ) (xs ys : List Entry)
    → ways_below i (xs ++ ys) ≡ ways_below i xs ++ ways_below i ys
below-append i xs ys =
    filter_map-append (λ e. way_from i e.origin e.place e.access) xs ys

-- ways that lead on from one entry are below that
entries-below : (n : ℕ) (above : Access) (ws : List Way)
    → ways_below n (entries_below n above ws) ≡ map (way_below above) ws
entries-below n above [] = refl
entries-below n above (w ∷ ws) =
    let yes : (n == n) ≡ true = grind (arith, nat_tests) in
    rw yes (ap (λ vs. way_below above w ∷ vs) (entries-below n above ws))

-- and below no other
entries-apart : (n i : ℕ) (above : Access) (ws : List Way) → i ≢ n
    → ways_below i (entries_below n above ws) ≡ []
entries-apart n i above [] apart = refl
entries-apart n i above (w ∷ ws) apart =
    let no : (n == i) ≡ false = grind (arith, nat_tests) in
    rw no (entries-apart n i above ws apart)

-- what is at a position among them
entry_at : (n : ℕ) (above : Access) (ws : List Way) (k : ℕ) (e : Entry)
    → slice_get (entries_below n above ws) k ≡ Some e
    → (w : Way) × (entry_below n (way_below above w) ≡ e)
entry_at n above [] k e at = not_some e at
entry_at n above (w ∷ ws) zero e at = (w, some_same (entry_below n (way_below above w)) e at)
entry_at n above (w ∷ ws) (suc k) e at = entry_at n above ws k e at

-- Below which entries they are.

parents-append : (xs ys : List Entry) → parents_of (xs ++ ys) ≡ parents_of xs ++ parents_of ys
parents-append xs ys =
    map-append (λ (e : Entry). option_map (λ (o : Origin). o.parent) e.origin) xs ys

parents-length : (xs : List Entry) → length (parents_of xs) ≡ length xs
parents-length xs =
    length-map xs (λ (e : Entry). option_map (λ (o : Origin). o.parent) e.origin)

-- that of each of the ways that lead on from one entry
parent_below : (n : ℕ) (above : Access) (ws : List Way) (k : ℕ) (x : Option ℕ)
    → slice_get (parents_of (entries_below n above ws)) k ≡ Some x → x ≡ Some n
parent_below n above [] k x at = not_some x at
parent_below n above (w ∷ ws) zero x at = sym (some_same (Some n) x at)
parent_below n above (w ∷ ws) (suc k) x at = parent_below n above ws k x at

-- an entry that is below another
parent_there : (xs : List Entry) (k p : ℕ) → slice_get (parents_of xs) k ≡ Some (Some p)
    → (e : Entry) × (o : Origin) × (slice_get xs k ≡ Some e) × (e.origin ≡ Some o) × (o.parent ≡ p)
parent_there xs k p at =
    let image = map_at (λ (e : Entry). option_map (λ (o : Origin). o.parent) e.origin) xs k (Some p) at in
    go image.0 image.1 image.0.origin refl image.2
  where
    go : (e : Entry) → slice_get xs k ≡ Some e → (origin : Option Origin) → e.origin ≡ origin
        → option_map (λ (o : Origin). o.parent) origin ≡ Some p
        → (e : Entry) × (o : Origin) × (slice_get xs k ≡ Some e) × (e.origin ≡ Some o)
        × (o.parent ≡ p)
    go e there None none f = not_some p f
    go e there (Some o) some f = (e, o, there, some, some_same o.parent p f)

module _ (forest : List Server) (table : List MountRow) (who : Option Who) where
  -- an entry that the tour goes on from
  entered-kept : (entries more : List Entry) (i : ℕ) (nodes : List NodeRef)
      → IsEntered forest table who entries i nodes
      → IsEntered forest table who (entries ++ more) i nodes
  entered-kept entries more i nodes t = record {
    e = t.e;
    at = kept_at entries more i t.e t.at;
    new = t.new;
    nodes_of = t.nodes_of;
  }

  entered-within : (entries : List Entry) (i : ℕ) (nodes : List NodeRef)
      → IsEntered forest table who entries i nodes → i < length entries
  entered-within entries i nodes t = at-within entries i t.e t.at

  -- an entry more: it is among those before, or is the new one
  entered-split : (entries : List Entry) (e : Entry) (i : ℕ) (nodes : List NodeRef)
      → IsEntered forest table who (entries ++ e ∷ []) i nodes
      → IsEntered forest table who entries i nodes
      ⊎ ((i ≡ length entries) × (e.same ≡ None) × (nodes_at e.place table ≡ nodes))
  entered-split entries e i nodes t = elim (last_at entries e i t.e t.at) [
    | inl old ↦ inl (record { e = t.e; at = old; new = t.new; nodes_of = t.nodes_of })
    | inr new ↦ inr (
      new.0,
      ap (λ x. x.same) new.1 ∙ t.new,
      ap (λ (x : Entry). nodes_at x.place table) new.1 ∙ t.nodes_of,
    )
  ]

  same-kept : (entries : List Entry) (e : Entry) → AreSame forest table who entries
      → ((j : ℕ) → e.same ≡ Some j
      → IsEntered forest table who entries j (nodes_at e.place table))
      → AreSame forest table who (entries ++ e ∷ [])
  same-kept entries e same last i j f at is = elim (last_at entries e i f at) [
    | inl old ↦
        let before = same i j f old is in
        (before.0, entered-kept entries (e ∷ []) j (nodes_at f.place table) before.1)
    | inr new ↦
        let there = last j (ap (λ x. x.same) new.1 ∙ is) in
        let low = entered-within entries j (nodes_at e.place table) there in (
          subst (λ n. j < n) (sym new.0) low,
          subst (λ (x : Entry). IsEntered forest table who (entries ++ e ∷ []) j
              (nodes_at x.place table)) new.1
              (entered-kept entries (e ∷ []) j (nodes_at e.place table) there),
        )
  ]

  module _ {Z : Type 0} where
    -- no entry yet
    pub underway-root : (met : Met Z) → ((nodes : List NodeRef) → met_at met nodes ≡ None)
        → IsUnderway forest table who [] (root_entry ∷ []) met
    underway-root met empty = record {
      root = refl;
      below = λ i e at. not_some e at;
      ahead = λ i low. refl;
      order = order-root;
      first = only;
      earlier = λ k e origin at is. none k e origin at is;
      new = fresh;
      found = λ nodes i e. not_some i (sym (empty nodes) ∙ e);
      known = λ nodes i t. not_some t.e t.at;
      same = λ i j e at is. not_some e at;
    }
      where
        only : (k : ℕ) (e : Entry) → slice_get (root_entry ∷ []) k ≡ Some e → e.origin ≡ None
            → 0 + k ≡ 0
        only zero e at is = omega arith
        only (suc k) e at is = not_some e at

        none : (k : ℕ) (e : Entry) (origin : Origin) → slice_get (root_entry ∷ []) k ≡ Some e
            → e.origin ≡ Some origin → origin.parent < 0
        none zero e origin at is =
            not_some origin (ap (λ x. x.origin) (some_same root_entry e at) ∙ is)
        none (suc k) e origin at is = not_some e at

        fresh : (k : ℕ) (e : Entry) → slice_get (root_entry ∷ []) k ≡ Some e → e.same ≡ None
        fresh zero e at = sym (ap (λ x. x.same) (some_same root_entry e at))
        fresh (suc k) e at = not_some e at

    module _ (entries rest : List Entry) (e : Entry) (met : Met Z)
        (underway : IsUnderway forest table who entries (e ∷ rest) met) where
      -- the next may be added
      pub can_follow : CanFollow (length entries) e
      can_follow = record {
        first = λ none. let zero_at = underway.first 0 e refl none in omega arith;
        earlier = λ origin is. underway.earlier 0 e origin refl is;
        same = λ j is. not_some j (sym (underway.new 0 e refl) ∙ is);
      }

      length-more : (f : Entry) → length (entries ++ f ∷ []) ≡ length entries + 1
      length-more f = length-append entries (f ∷ [])

      -- what is first among those that wait after it
      later-first : (k : ℕ) (f : Entry) → slice_get rest k ≡ Some f → f.origin ≡ None → ⊥
      later-first k f at none =
          let zero_at = underway.first (suc k) f at none in absurd (omega arith)

      -- the next has the members of an earlier entry
      module _ (j : ℕ) (met_before : met_at met (nodes_at e.place table) ≡ Some j) where
        abbrev again : Entry
        again = record e { same = Some j }

        there : IsEntered forest table who entries j (nodes_at e.place table)
        there = underway.found (nodes_at e.place table) j met_before

        some : 0 < length entries
        some = let low = entered-within entries j (nodes_at e.place table) there in omega arith

        within : j < length entries
        within = entered-within entries j (nodes_at e.place table) there

        pub can_follow-same : CanFollow (length entries) (record e { same = Some j })
        can_follow-same = record {
          first = can_follow.first;
          earlier = can_follow.earlier;
          same = λ i is. subst (λ n. n < length entries) (some_same j i is) within;
        }

        joined : (i : ℕ) → ways_below i ((entries ++ again ∷ []) ++ rest)
            ≡ ways_below i (entries ++ e ∷ rest)
        joined i =
            ap (ways_below i) (append_assoc entries (again ∷ []) rest)
            ∙ below-append i entries (again ∷ rest)
            ∙ sym (below-append i entries (e ∷ rest))

        parents-same : parents_of ((entries ++ again ∷ []) ++ rest)
            ≡ parents_of (entries ++ e ∷ rest)
        parents-same =
            ap parents_of (append_assoc entries (again ∷ []) rest)
            ∙ parents-append entries (again ∷ rest) ∙ sym (parents-append entries (e ∷ rest))

        below-same : (i : ℕ) (f : Entry) → slice_get (entries ++ again ∷ []) i ≡ Some f
            → ways_below i ((entries ++ again ∷ []) ++ rest) ≡ onward forest table who f
        below-same i f at = elim (last_at entries again i f at) [
          | inl old ↦ joined i ∙ underway.below i f old
          | inr new ↦
              joined i
              ∙ underway.ahead i (let at_end = new.0 in omega arith)
              ∙ ap (onward forest table who) new.1
        ]

        found-same : (nodes : List NodeRef) (i : ℕ) → met_at met nodes ≡ Some i
            → IsEntered forest table who (entries ++ again ∷ []) i nodes
        found-same nodes i is =
            entered-kept entries (again ∷ []) i nodes (underway.found nodes i is)

        known-same : (nodes : List NodeRef) (i : ℕ)
            → IsEntered forest table who (entries ++ again ∷ []) i nodes
            → met_at met nodes ≡ Some i
        known-same nodes i t = elim (entered-split entries again i nodes t) [
          | inl old ↦ underway.known nodes i old
          | inr new ↦ not_some j (sym new.1)
        ]

        pub underway-same : IsUnderway forest table who (entries ++ record e { same = Some j } ∷ [])
            rest met
        underway-same =
            let len = length-more again in record {
              root = ap (λ es. slice_get es 0) (append_assoc entries (again ∷ []) rest)
                  ∙ first_kept entries (again ∷ rest) (e ∷ rest) some ∙ underway.root;
              below = below-same;
              ahead = λ i low. joined i ∙ underway.ahead i (omega arith);
              order = subst AreInOrder (sym parents-same) underway.order;
              first = λ k f at none. absurd (later-first k f at none);
              earlier = λ k f origin at is.
                  let low = underway.earlier (suc k) f origin at is in omega arith;
              new = λ k f at. underway.new (suc k) f at;
              found = found-same;
              known = known-same;
              same = same-kept entries again underway.same
                  (λ i is. subst (λ n. IsEntered forest table who entries n
                  (nodes_at e.place table)) (some_same j i is) there);
            }

      -- the next has members that were not met
      module _ (new_met : Met Z)
          (not_met : met_at met (nodes_at e.place table) ≡ None)
          (at_new : met_at new_met (nodes_at e.place table) ≡ Some (length entries))
          (others : (nodes : List NodeRef) → nodes ≢ nodes_at e.place table
          → met_at new_met nodes ≡ met_at met nodes) where
        ways : List Way
        ways = ways_from forest table who e.place

        more : List Entry
        more = entries_below (length entries) e.access (ways_from forest table who e.place)

        grown : (i : ℕ)
            → ways_below i ((entries ++ e ∷ [])
            ++ (entries_below (length entries) e.access (ways_from forest table who e.place) ++ rest))
            ≡ ways_below i (entries ++ e ∷ [])
            ++ (ways_below i (entries_below (length entries) e.access
            (ways_from forest table who e.place)) ++ ways_below i rest)
        grown i =
            let added = entries_below (length entries) e.access (ways_from forest table who e.place) in
            below-append i (entries ++ e ∷ []) (added ++ rest)
            ∙ ap (λ ws. ways_below i (entries ++ e ∷ []) ++ ws) (below-append i added rest)

        before : (i : ℕ) → ways_below i (entries ++ e ∷ []) ++ ways_below i rest
            ≡ ways_below i (entries ++ e ∷ rest)
        before i =
            sym (below-append i (entries ++ e ∷ []) rest)
            ∙ ap (ways_below i) (append_assoc entries (e ∷ []) rest)

        -- nothing more is below the other entries
        grown-other : (i : ℕ) → i ≢ length entries
            → ways_below i ((entries ++ e ∷ [])
            ++ (entries_below (length entries) e.access (ways_from forest table who e.place) ++ rest))
            ≡ ways_below i (entries ++ e ∷ rest)
        grown-other i apart =
            grown i
            ∙ ap (λ ws. ways_below i (entries ++ e ∷ []) ++ (ws ++ ways_below i rest))
            (entries-apart (length entries) i e.access (ways_from forest table who e.place) apart)
            ∙ before i

        -- all ways are below the new one
        grown-new : ways_below (length entries) ((entries ++ e ∷ [])
            ++ (entries_below (length entries) e.access (ways_from forest table who e.place) ++ rest))
            ≡ onward forest table who e
        grown-new =
            let n = length entries in
            let ws = map (way_below e.access) (ways_from forest table who e.place) in
            let none : ways_below n (entries ++ e ∷ []) ++ ways_below n rest ≡ [] =
            before n ∙ underway.ahead n (omega arith) in
            let left = nil_left (ways_below n (entries ++ e ∷ [])) (ways_below n rest) none in
            let right = nil_right (ways_below n (entries ++ e ∷ [])) (ways_below n rest) none in
            grown n
            ∙ ap (λ vs. vs ++ (ways_below n (entries_below n e.access
            (ways_from forest table who e.place)) ++ ways_below n rest)) left
            ∙ ap (λ vs. ways_below n (entries_below n e.access
            (ways_from forest table who e.place)) ++ vs) right
            ∙ append-nil (ways_below n (entries_below n e.access
            (ways_from forest table who e.place)))
            ∙ entries-below n e.access (ways_from forest table who e.place)
            ∙ ap (λ o. cond (Rattle.std.specs.Prelude.is_some o) [] ws)
            (sym (underway.new 0 e refl))

        below-new : (i : ℕ) (f : Entry) → slice_get (entries ++ e ∷ []) i ≡ Some f
            → ways_below i ((entries ++ e ∷ [])
            ++ (entries_below (length entries) e.access (ways_from forest table who e.place) ++ rest))
            ≡ onward forest table who f
        below-new i f at = elim (last_at entries e i f at) [
          | inl old ↦
              let low = at-within entries i f old in
              grown-other i (λ same. absurd (omega arith)) ∙ underway.below i f old
          | inr new ↦
              subst (λ k. ways_below k ((entries ++ e ∷ [])
              ++ (entries_below (length entries) e.access (ways_from forest table who e.place) ++ rest))
              ≡ onward forest table who f) (sym new.0)
              (grown-new ∙ ap (onward forest table who) new.1)
        ]

        -- what is new stands after the entry, and before what is below earlier ones
        order-new : AreInOrder (parents_of ((entries ++ e ∷ [])
            ++ (entries_below (length entries) e.access (ways_from forest table who e.place) ++ rest)))
        order-new =
            let added = entries_below (length entries) e.access
            (ways_from forest table who e.place) in
            let before = parents_of (entries ++ e ∷ []) in
            subst AreInOrder
            (sym (parents-append (entries ++ e ∷ []) (added ++ rest)
            ∙ ap (λ ps. before ++ ps) (parents-append added rest)))
            (order-more before (parents_of added) (parents_of rest) (length entries)
            (parents-length (entries ++ e ∷ []) ∙ length-more e)
            (parent_below (length entries) e.access (ways_from forest table who e.place))
            (λ k p at.
            let there = parent_there rest k p at in
            subst (λ m. m < length entries) there.4
            (underway.earlier (suc k) there.0 there.1 there.2 there.3))
            (subst AreInOrder
            (ap parents_of (sym (append_assoc entries (e ∷ []) rest))
            ∙ parents-append (entries ++ e ∷ []) rest) underway.order))

        -- what waits: the new ones, which are below the new entry, and those that waited before
        waiting-new : (P : Entry → Type 0)
            → ((w : Way) → P (entry_below (length entries) (way_below e.access w)))
            → ((k : ℕ) (f : Entry) → slice_get rest k ≡ Some f → P f)
            → (k : ℕ) (f : Entry)
            → slice_get (entries_below (length entries) e.access (ways_from forest table who e.place)
            ++ rest) k ≡ Some f → P f
        waiting-new P is_new was k f at =
            elim (split_at (entries_below (length entries) e.access
            (ways_from forest table who e.place)) rest k f at) [
              | inl added ↦
                  let w = entry_at (length entries) e.access (ways_from forest table who e.place) k f
                  added in
                  subst P w.1 (is_new w.0)
              | inr old ↦ was old.0 f old.2
            ]

        found-new : (nodes : List NodeRef) (i : ℕ) → met_at new_met nodes ≡ Some i
            → IsEntered forest table who (entries ++ e ∷ []) i nodes
        found-new nodes i is = elim (nodes-cases nodes (nodes_at e.place table)) [
          | inl same ↦
              let at : length entries ≡ i =
              some_same (length entries) i (sym at_new ∙ ap (met_at new_met) (sym same) ∙ is) in
              record {
                e = e;
                at = ap (slice_get (entries ++ e ∷ [])) (sym at) ∙ new_last entries e;
                new = underway.new 0 e refl;
                nodes_of = sym same;
              }
          | inr apart ↦
              entered-kept entries (e ∷ []) i nodes
              (underway.found nodes i (sym (others nodes apart) ∙ is))
        ]

        known-new : (nodes : List NodeRef) (i : ℕ)
            → IsEntered forest table who (entries ++ e ∷ []) i nodes
            → met_at new_met nodes ≡ Some i
        known-new nodes i t = elim (entered-split entries e i nodes t) [
          | inl old ↦
              let was = underway.known nodes i old in
              others nodes
              (λ same. not_some i (sym (ap (met_at met) same ∙ not_met) ∙ was))
              ∙ was
          | inr new ↦ ap (met_at new_met) (sym new.2) ∙ at_new ∙ ap Some (sym new.0)
        ]

        pub underway-new : IsUnderway forest table who (entries ++ e ∷ [])
            (entries_below (length entries) e.access (ways_from forest table who e.place) ++ rest)
            new_met
        underway-new =
            let len = length-more e in
            let added = entries_below (length entries) e.access
            (ways_from forest table who e.place) in record {
              root = root entries underway.root;
              below = below-new;
              ahead = λ i low.
                  grown-other i (λ same. absurd (omega arith)) ∙ underway.ahead i (omega arith);
              order = order-new;
              first = λ k f at none.
                  absurd (waiting-new (λ x. x.origin ≡ None → ⊥)
                  (λ w is. not_some (record { parent = length entries; name = w.name }) (sym is))
                  later-first k f at none);
              earlier = λ k f origin at is.
                  waiting-new (λ x. x.origin ≡ Some origin → origin.parent < length (entries ++ e ∷ []))
                  (λ w is. subst (λ (o : Origin). o.parent < length (entries ++ e ∷ []))
                  (some_same (record { parent = length entries; name = w.name }) origin is)
                  (omega arith))
                  (λ j x there is.
                  let low = underway.earlier (suc j) x origin there is in omega arith) k f at is;
              new = λ k f at.
                  waiting-new (λ x. x.same ≡ None) (λ w. refl)
                  (λ j x there. underway.new (suc j) x there) k f at;
              found = found-new;
              known = known-new;
              same = same-kept entries e underway.same
                  (λ j is. not_some j (sym (underway.new 0 e refl) ∙ is));
            }
          where
            root : (xs : List Entry) → slice_get (xs ++ e ∷ rest) 0 ≡ Some root_entry
                → slice_get ((xs ++ e ∷ [])
                ++ (entries_below (length entries) e.access (ways_from forest table who e.place)
                ++ rest)) 0 ≡ Some root_entry
            root [] is = is
            root (x ∷ xs) is = is
