-- Walks along the paths of a tour's entries.
use Rattle.std.proofs.Common.{◌≡◌, ℕ, zero, suc, ◌+◌, ◌<◌, ◌≤◌, ◌==◌, Bool, true, false, cond, not, ◌&&◌}
use Rattle.std.proofs.Common.{◌||◌, List, [], ◌∷◌, ◌++◌, Option, Some, None, Result, Ok, Err, inl, inr}
use Rattle.std.proofs.Common.{length, map, refl, sym, ap, ◌∙◌, subst, append_assoc, append-nil, arith}
use Rattle.std.specs.Prelude.{codes, filter, is_some, nat_le, slice_get}
use Rattle.std.specs.List.{cons_option, filter_map, list_any}
use Rattle.std.specs.Option.{option_map, option_map_or, option_or}
use Rattle.std.specs.Str.{bytes_eq}
use Rattle.std.proofs.lemmas.Bool.Decides.{nat_tests}
use Rattle.std.proofs.lemmas.Grind.{common_steps}
use Rattle.std.proofs.lemmas.List.{length-append}
use Rattle.std.proofs.lemmas.Slice.Eq.{bytes_eq-Decides}
use Rattle.p9_base.specs.declared.fault.Fault.{Fault}
use Rattle.p9_base.specs.declared.fault.Fault.TheVariants.{NotDirectory, NotFound, PathTooDeep}
use Rattle.p9_base.specs.declared.fault.Fault.TheVariants.{PermissionDenied, PhaseError}
use Rattle.p9_base.specs.declared.node_ref.NodeRef.{NodeRef}
use Rattle.p9_base.specs.Name.{is_name, is_slash, name_max}
use Rattle.p9_base.specs.NodeRef.{beside}
use Rattle.p9_base.specs.Results.{and_then}
use Rattle.p9_base.specs.Text.{is_text}
use Rattle.p9_tree.specs.Node.{Node, is_dir}
use Rattle.p9_tree.specs.Server.{Server}
use Rattle.p9_tree.specs.Forest.{IsForest, child_in, children_of, node_of}
use Rattle.p9_table.specs.declared.row.Member.{Member}
use Rattle.p9_table.specs.declared.trail.Step.{Step}
use Rattle.p9_table.specs.declared.trail.Step.TheVariants.{To, Up}
use Rattle.p9_space.specs.Place.{file_of, root_place}
use Rattle.p9_space.specs.Rights.{Who}
use Rattle.p9_space.specs.Table.{MountRow, members_of}
use Rattle.p9_space.specs.Trail.{here, places_max, stepped}
use Rattle.p9_space.specs.Walk.{arrived, child_among, child_ref, is_alive, is_alive_dir}
use Rattle.p9_space.specs.Walk.{is_searched, may_search, step_among, step_of, walk}
use Rattle.p9_space.proofs.Names.{child_among-invalid}
use Rattle.p9_policy.proofs.Basics.{clash, not_some, some_same}
use Rattle.p9_judge.proofs.Found.{child_at, named_child}
use Rattle.p9_judge.proofs.Lists.{map_at, split_at}
use Rattle.p9_view.specs.declared.met.Met.{Met}
use Rattle.p9_view.specs.declared.tour.Entry.{Entry}
use Rattle.p9_view.specs.declared.tour.Origin.{Origin}
use Rattle.p9_view.specs.declared.way.Access.{Access}
use Rattle.p9_view.specs.declared.way.Access.TheVariants.{AfterMode, Behind, Now}
use Rattle.p9_view.specs.declared.way.Way.{Way}
use Rattle.p9_view.specs.Passing.{is_passed}
use Rattle.p9_view.specs.Tour.{AreInOrder, IsPathTo, IsTourOf, IsWalkTo, access_below, names_max, onward}
use Rattle.p9_view.specs.Tour.{parents_of, root_entry, way_below, way_from, ways_below}
use Rattle.p9_view.specs.Tour.IsPathTo.{Root, Below}
use Rattle.p9_view.specs.Visit.{IsUnderway}
use Rattle.p9_view.specs.Way.{access_by, arrives, way_by, ways_among, ways_from, ways_into}
use Rattle.p9_view.specs.Way.{ways_through}

-- Lists.

-- what is kept passes the test, and was there
filter_at : {X : Type 0} (p : X → Bool) (xs : List X) (k : ℕ) (x : X)
    → slice_get (filter p xs) k ≡ Some x
    → (p x ≡ true) × ((j : ℕ) × (slice_get xs j ≡ Some x))
filter_at p [] k x e = not_some x e
filter_at {X} p (y ∷ ys) k x e = go (p y) refl (filter_at p ys) k e
  where
    go : (b : Bool) → p y ≡ b
        → ((k : ℕ) (x : X) → slice_get (filter p ys) k ≡ Some x
        → (p x ≡ true) × ((j : ℕ) × (slice_get ys j ≡ Some x)))
        → (k : ℕ) → slice_get (cond b (y ∷ filter p ys) (filter p ys)) k ≡ Some x
        → (p x ≡ true) × ((j : ℕ) × (slice_get (y ∷ ys) j ≡ Some x))
    go true t later zero f =
        let same = some_same y x f in (subst (λ z. p z ≡ true) same t, (0, f))
    go true t later (suc k) f = let r = later k x f in (r.0, (suc r.1.0, r.1.1))
    go false t later k f = let r = later k x f in (r.0, (suc r.1.0, r.1.1))

-- what an item gives is there
filter_map_at : {X Y : Type 0} (f : X → Option Y) (xs : List X) (i : ℕ) (x : X) (y : Y)
    → slice_get xs i ≡ Some x → f x ≡ Some y → (k : ℕ) × (slice_get (filter_map f xs) k ≡ Some y)
filter_map_at f [] i x y at is = not_some x at
filter_map_at {X} {Y} f (z ∷ zs) zero x y at is =
    go (f z) (ap f (some_same z x at) ∙ is)
  where
    go : (o : Option Y) → o ≡ Some y
        → (k : ℕ) × (slice_get (cons_option o (filter_map f zs)) k ≡ Some y)
    go None e = not_some y e
    go (Some w) e = (0, e)
filter_map_at {X} {Y} f (z ∷ zs) (suc i) x y at is = go (f z) (filter_map_at f zs i x y at is)
  where
    go : (o : Option Y) → (k : ℕ) × (slice_get (filter_map f zs) k ≡ Some y)
        → (k : ℕ) × (slice_get (cons_option o (filter_map f zs)) k ≡ Some y)
    go None later = later
    go (Some w) later = (suc later.0, later.1)

-- where all that pass one test pass another
any_weaker : {X : Type 0} (p q : X → Bool) → ((x : X) → p x ≡ true → q x ≡ true) → (xs : List X)
    → list_any p xs ≡ true → list_any q xs ≡ true
any_weaker p q h [] e = e
any_weaker p q h (x ∷ xs) e = go (p x) (q x) refl refl (any_weaker p q h xs) e
  where
    go : (a b : Bool) → p x ≡ a → q x ≡ b → (list_any p xs ≡ true → list_any q xs ≡ true)
        → (a || list_any p xs) ≡ true → (b || list_any q xs) ≡ true
    go a true s t rest e = refl
    go true false s t rest e = clash (q x) (h x s) t
    go false false s t rest e = rest e

-- A step to a child.

-- the last place of a trail that goes on
here-pushed : (trail : List NodeRef) (place : NodeRef) → here (trail ++ place ∷ []) ≡ place
here-pushed trail place = grind (arith, common_steps)

module _ (forest : List Server) (who : Option Who) where
  -- a member that is searched is alive, and a directory
  searched-alive : (m : Member) → is_searched forest who m ≡ true → is_alive forest m ≡ true
  searched-alive m e = go (node_of m.node forest) e
    where
      go : (o : Option Node) → option_map_or (λ n. is_dir n && may_search who n) o false ≡ true
          → is_some o ≡ true
      go None e = e
      go (Some n) e = refl

  searched-dir : (m : Member) → is_searched forest who m ≡ true → is_alive_dir forest m ≡ true
  searched-dir m e = go (node_of m.node forest) e
    where
      left : (a b : Bool) → (a && b) ≡ true → a ≡ true
      left true b e = refl
      left false b e = e

      go : (o : Option Node) → option_map_or (λ n. is_dir n && may_search who n) o false ≡ true
          → option_map_or is_dir o false ≡ true
      go None e = e
      go (Some n) e = left (is_dir n) (may_search who n) e

  -- a child is in a member that is searched
  child-searched : (name : List ℕ) (place : NodeRef) (ms : List Member)
      → child_among forest who name ms ≡ Some place → list_any (is_searched forest who) ms ≡ true
  child-searched name place [] e = let no : None ≡ Some place = e in absurd (cc)
  child-searched name place (m ∷ ms) e =
      go (is_searched forest who m) (child-searched name place ms) e
    where
      go : (b : Bool)
          → (child_among forest who name ms ≡ Some place
          → list_any (is_searched forest who) ms ≡ true)
          → option_or (cond b (child_ref forest m.node name) None) (child_among forest who name ms)
          ≡ Some place
          → (b || list_any (is_searched forest who) ms) ≡ true
      go true rest e = refl
      go false rest e = rest e

  -- the children of the first members come first
  child_among-append : (name : List ℕ) (xs ys : List Member)
      → child_among forest who name (xs ++ ys)
      ≡ option_or (child_among forest who name xs) (child_among forest who name ys)
  child_among-append name [] ys = refl
  child_among-append name (x ∷ xs) ys =
      ap (λ o. option_or (cond (is_searched forest who x) (child_ref forest x.node name) None) o)
      (child_among-append name xs ys)
      ∙ or-or (cond (is_searched forest who x) (child_ref forest x.node name) None)
      (child_among forest who name xs) (child_among forest who name ys)
    where
      or-or : (a b c : Option NodeRef) → option_or a (option_or b c) ≡ option_or (option_or a b) c
      or-or None b c = refl
      or-or (Some x) b c = refl

module _ (forest : List Server) (table : List MountRow) (who : Option Who) (trail : List NodeRef)
  where
    leads : (alive dir up searched deep : Bool) (child : Option NodeRef) (place : NodeRef)
        → alive ≡ true → dir ≡ true → up ≡ false → searched ≡ true → deep ≡ false
        → child ≡ Some place
        → cond (not alive) (Err PhaseError) (cond (not dir) (Err NotDirectory) (cond up (Ok Up)
        (cond (not searched) (Err PermissionDenied)
        (option_map_or (λ place. cond deep (Err PathTooDeep) (Ok (To place))) child
        (Err NotFound))))) ≡ Ok (To place)
    leads alive dir up searched deep child place a d u s l c = rw (a, d, u, s, l, c) refl

    -- a child is a step where its place has a file
    step-to : IsForest forest → length trail < places_max → (name : List ℕ) (place : NodeRef)
        → child_among forest who name (members_of (here trail) table) ≡ Some place
        → is_some (file_of place table forest) ≡ true
        → step_of forest table who trail name ≡ Ok (To place)
    step-to sound few name place e file =
        let ms = members_of (here trail) table in
        let searched = child-searched forest who name place ms e in
        let deep : (length trail == places_max) ≡ false = grind (arith, nat_tests) in
        let among : step_among forest who trail name ms ≡ Ok (To place) =
        leads (list_any (is_alive forest) ms) (list_any (is_alive_dir forest) ms)
        (bytes_eq name (codes "..")) (list_any (is_searched forest who) ms)
        (length trail == places_max) (child_among forest who name ms) place
        (any_weaker (is_searched forest who) (is_alive forest) (searched-alive forest who) ms searched)
        (any_weaker (is_searched forest who) (is_alive_dir forest) (searched-dir forest who) ms
        searched)
        (other (bytes_eq name (codes "..")) refl) searched deep e in
        ap (λ r. and_then r (arrived forest table trail)) among
        ∙ ap (λ p. cond (is_some (file_of p table forest)) (Ok (To place)) (Err PhaseError))
        (here-pushed trail place)
        ∙ ap (λ b. cond b (Ok (To place)) (Err PhaseError)) file
      where
        other : (b : Bool) → bytes_eq name (codes "..") ≡ b → b ≡ false
        other false t = refl
        other true t =
            let ms = members_of (here trail) table in
            let dots : name ≡ codes ".." = (bytes_eq-Decides name (codes "..")).0 t in
            let none : child_among forest who name ms ≡ None =
            child_among-invalid forest who name sound (λ h. bad dots h) ms in
            let no : None ≡ Some place = sym none ∙ e in
            absurd (cc)
          where
            last : (a b c : Bool) → c ≡ true → (a && not (b || c)) ≡ true → ⊥
            last true true c t h = let no : false ≡ true = h in absurd (cc)
            last true false c t h =
                let no : not c ≡ false = ap not t in clash (not c) h no
            last false b c t h = let no : false ≡ true = h in absurd (cc)

            bad : name ≡ codes ".." → is_name name ≡ true → ⊥
            bad dots h =
                last
                (nat_le 1 (length name) && nat_le (length name) name_max && is_text name
                && not (list_any is_slash name))
                (bytes_eq name (codes ".")) (bytes_eq name (codes "..")) t h

-- A way of now leads to the child that a walk comes to.

now-by : (behind searched : Bool) → access_by behind searched ≡ Now
    → (behind ≡ false) × (searched ≡ true)
now-by true searched e = let no : Behind ≡ Now = e in absurd (cc)
now-by false true e = (refl, refl)
now-by false false e = let no : AfterMode ≡ Now = e in absurd (cc)

now-below : (above own : Access) → access_below above own ≡ Now → (above ≡ Now) × (own ≡ Now)
now-below Now own e = (refl, e)
now-below AfterMode Now e = let no : AfterMode ≡ Now = e in absurd (cc)
now-below AfterMode AfterMode e = let no : AfterMode ≡ Now = e in absurd (cc)
now-below AfterMode Behind e = let no : Behind ≡ Now = e in absurd (cc)
now-below Behind own e = let no : Behind ≡ Now = e in absurd (cc)

none-of : {X : Type 0} (o : Option X) → is_some o ≡ false → o ≡ None
none-of None e = refl
none-of (Some x) e = let no : true ≡ false = e in absurd (cc)

module _ (forest : List Server) (table : List MountRow) (who : Option Who) (sound : IsForest forest)
  where
    -- the child of a member and of those before and after it
    through-child : (earlier ms : List Member) (m : Member) (k : ℕ) (w : Way)
        → slice_get (ways_through forest table who earlier m) k ≡ Some w → w.access ≡ Now
        → (child_among forest who w.name (earlier ++ m ∷ ms) ≡ Some w.place)
        × (arrives forest table w ≡ true)
    through-child earlier ms m k w at now = go (is_passed forest who m) at
      where
        behind : List ℕ → Bool
        behind name = is_some (child_among forest who name earlier)

        go : (b : Bool)
            → slice_get (cond b (ways_into forest table
            (λ name. is_some (child_among forest who name earlier)) (is_searched forest who m) m.node)
            []) k ≡ Some w
            → (child_among forest who w.name (earlier ++ m ∷ ms) ≡ Some w.place)
            × (arrives forest table w ≡ true)
        go false e = not_some w e
        go true e =
            let kept = filter_at (arrives forest table)
            (map (way_by (λ name. is_some (child_among forest who name earlier))
            (is_searched forest who m) m.node) (children_of m.node forest)) k w e in
            let image = map_at (way_by (λ name. is_some (child_among forest who name earlier))
            (is_searched forest who m) m.node) (children_of m.node forest) kept.1.0 w kept.1.1 in
            let n = image.0 in
            let there = child_at forest sound m.node kept.1.0 n image.1 in
            let found : child_in m.node n.name forest ≡ Some n =
            named_child forest sound m.node n there.0 there.1 in
            let is_now : access_by (is_some (child_among forest who n.name earlier))
            (is_searched forest who m) ≡ Now = ap (λ (v : Way). v.access) image.2 ∙ now in
            let facts = now-by (is_some (child_among forest who n.name earlier))
            (is_searched forest who m) is_now in
            let none : child_among forest who n.name earlier ≡ None =
            none-of (child_among forest who n.name earlier) facts.0 in
            let by_number : child_among forest who n.name (earlier ++ m ∷ ms)
            ≡ Some (beside m.node n.number) =
            child_among-append forest who n.name earlier (m ∷ ms)
            ∙ ap (λ o. option_or o (child_among forest who n.name (m ∷ ms))) none
            ∙ ap (λ b. option_or (cond b (child_ref forest m.node n.name) None)
            (child_among forest who n.name ms)) facts.1
            ∙ ap (λ o. option_or (option_map (λ (x : Node). beside m.node x.number) o)
            (child_among forest who n.name ms)) found in (
              subst (λ (v : Way). child_among forest who v.name (earlier ++ m ∷ ms) ≡ Some v.place)
                  image.2 by_number,
              kept.0,
            )

    among-child : (earlier ms : List Member) (k : ℕ) (w : Way)
        → slice_get (ways_among forest table who earlier ms) k ≡ Some w → w.access ≡ Now
        → (child_among forest who w.name (earlier ++ ms) ≡ Some w.place)
        × (arrives forest table w ≡ true)
    among-child earlier [] k w at now = not_some w at
    among-child earlier (m ∷ ms) k w at now =
        elim (split_at (ways_through forest table who earlier m)
        (ways_among forest table who (earlier ++ m ∷ []) ms) k w at) [
          | inl here ↦ through-child earlier ms m k w here now
          | inr later ↦
              let r = among-child (earlier ++ m ∷ []) ms later.0 w later.2 now in (
                ap (child_among forest who w.name) (sym (append_assoc earlier (m ∷ []) ms)) ∙ r.0,
                r.1,
              )
        ]

    -- Walks.

    -- one name more
    walk-more : (names : List (List ℕ)) (name : List ℕ) (start trail : List NodeRef)
        (place : NodeRef)
        → walk forest table who start names ≡ Ok trail
        → step_of forest table who trail name ≡ Ok (To place)
        → walk forest table who start (names ++ name ∷ []) ≡ Ok (trail ++ place ∷ [])
    walk-more [] name start trail place walked step =
        let same : start ≡ trail = cc in
        ap (λ r. and_then r (λ s. Ok (stepped start s)))
        (ap (λ t. step_of forest table who t name) same ∙ step)
        ∙ ap (λ t. Ok (t ++ place ∷ [])) same
    walk-more (first ∷ names) name start trail place walked step =
        go (step_of forest table who start first)
        (λ next walked. walk-more names name next trail place walked step) walked
      where
        go : (r : Result Step Fault)
            → ((next : List NodeRef) → walk forest table who next names ≡ Ok trail
            → walk forest table who next (names ++ name ∷ []) ≡ Ok (trail ++ place ∷ []))
            → and_then r (λ s. walk forest table who (stepped start s) names) ≡ Ok trail
            → and_then r (λ s. walk forest table who (stepped start s) (names ++ name ∷ []))
            ≡ Ok (trail ++ place ∷ [])
        go (Ok s) rest walked = rest (stepped start s) walked
        go (Err f) rest walked = let no : Err f ≡ Ok trail = walked in absurd (cc)

    module _ (entries : List Entry) (root : slice_get entries 0 ≡ Some root_entry)
        (below : (i : ℕ) (e : Entry) → slice_get entries i ≡ Some e
        → ways_below i entries ≡ onward forest table who e) where
      -- a path leads to an entry
      path-there : (i : ℕ) (names : List (List ℕ)) → IsPathTo entries i names
          → (e : Entry) × (slice_get entries i ≡ Some e)
      path-there i names Root = (root_entry, root)
      path-there i names (Below _ e origin before at is path) = (e, at)

      -- an entry is a way from the one that it is below
      way-there : (i : ℕ) (e : Entry) (origin : Origin) → slice_get entries i ≡ Some e
          → e.origin ≡ Some origin
          → (k : ℕ) × (slice_get (ways_below origin.parent entries) k
          ≡ Some (record { name = origin.name; place = e.place; access = e.access }))
      way-there i e origin at is =
          let same : (origin.parent == origin.parent) ≡ true = grind (arith, nat_tests) in
          filter_map_at (λ x. way_from origin.parent x.origin x.place x.access) entries i e
          (record { name = origin.name; place = e.place; access = e.access }) at
          (ap (λ o. way_from origin.parent o e.place e.access) is
          ∙ ap (λ b. cond b (Some (record { name = origin.name; place = e.place; access = e.access }))
          None) same)

      -- of an entry that the tour goes on from
      way-onward : (e : Entry) (k : ℕ) (w : Way) → slice_get (onward forest table who e) k ≡ Some w
          → (v : Way) × (slice_get (ways_from forest table who e.place) k ≡ Some v)
          × (way_below e.access v ≡ w)
      way-onward e k w at = go (is_some e.same) at
        where
          go : (b : Bool)
              → slice_get (cond b [] (map (way_below e.access) (ways_from forest table who e.place))) k
              ≡ Some w
              → (v : Way) × (slice_get (ways_from forest table who e.place) k ≡ Some v)
              × (way_below e.access v ≡ w)
          go true f = not_some w f
          go false f =
              map_at (way_below e.access) (ways_from forest table who e.place) k w f

      pub record IsTrailTo (names : List (List ℕ)) (place : NodeRef) : Type 0 where
        pub trail : List NodeRef
        pub walked : walk forest table who (root_place ∷ []) names ≡ Ok trail
        pub arrived : here trail ≡ place
        pub long : length trail ≡ length names + 1

      path-trail : (i : ℕ) (names : List (List ℕ)) → IsPathTo entries i names → (e : Entry)
          → slice_get entries i ≡ Some e → e.access ≡ Now → length names ≤ names_max
          → IsTrailTo names e.place
      path-trail i names Root e at now few = record {
        trail = root_place ∷ [];
        walked = refl;
        arrived = ap (λ (x : Entry). x.place) (some_same root_entry e (sym root ∙ at));
        long = refl;
      }
      path-trail i names (Below _ f origin before there is path) e at now few =
          let same : f ≡ e = some_same f e (sym there ∙ at) in
          let above = path-there origin.parent before path in
          let way = way-there i e origin at (ap (λ (x : Entry). x.origin) (sym same) ∙ is) in
          let from = way-onward above.0 way.0
          (record { name = origin.name; place = e.place; access = e.access })
          (ap (λ ws. slice_get ws way.0) (sym (below origin.parent above.0 above.1)) ∙ way.1) in
          let v = from.0 in
          let both = now-below above.0.access v.access
          (ap (λ (x : Way). x.access) from.2 ∙ now) in
          let name_same : v.name ≡ origin.name = ap (λ (x : Way). x.name) from.2 in
          let place_same : v.place ≡ e.place = ap (λ (x : Way). x.place) from.2 in
          let longer = length-append before (origin.name ∷ []) in
          let trail = path-trail origin.parent before path above.0 above.1 both.0 (omega arith) in
          let child = among-child [] (members_of above.0.place table) way.0 v from.1 both.1 in
          let count = trail.long in
          let step : step_of forest table who trail.trail origin.name ≡ Ok (To e.place) =
          step-to forest table who trail.trail sound (omega arith) origin.name e.place
          (ap (λ p. child_among forest who origin.name (members_of p table)) trail.arrived
          ∙ ap (λ n. child_among forest who n (members_of above.0.place table)) (sym name_same)
          ∙ child.0 ∙ ap Some place_same)
          (ap (λ p. is_some (file_of p table forest)) (sym place_same) ∙ child.1) in
          let more = length-append trail.trail (e.place ∷ []) in
          record {
            trail = trail.trail ++ e.place ∷ [];
            walked = walk-more before origin.name (root_place ∷ []) trail.trail e.place trail.walked
                step;
            arrived = here-pushed trail.trail e.place;
            long = omega arith;
          }

      pub path-walks : (i : ℕ) (e : Entry) (names : List (List ℕ)) → slice_get entries i ≡ Some e
          → e.access ≡ Now → IsPathTo entries i names → length names ≤ names_max
          → IsWalkTo forest table who names e.place
      path-walks i e names at now path few =
          let t = path-trail i names path e at now few in
          record { trail = t.trail; walked = t.walked; arrived = t.arrived }

    -- Whole tours.

    -- nothing waits
    pub tour-whole : {Z : Type 0} (entries : List Entry) (met : Met Z)
        → IsUnderway forest table who entries [] met → IsTourOf forest table who entries
    tour-whole entries met underway =
        let root : slice_get entries 0 ≡ Some root_entry =
        ap (λ es. slice_get es 0) (sym (append-nil entries)) ∙ underway.root in
        let below : (i : ℕ) (e : Entry) → slice_get entries i ≡ Some e
        → ways_below i entries ≡ onward forest table who e =
        λ i e at. ap (ways_below i) (sym (append-nil entries)) ∙ underway.below i e at in
        record {
          root = root;
          below = below;
          order = subst (λ es. AreInOrder (parents_of es)) (append-nil entries) underway.order;
          same = underway.same;
          once = λ i j nodes a b.
              some_same i j (sym (underway.known nodes i a) ∙ underway.known nodes j b);
          walks = path-walks entries root below;
        }
