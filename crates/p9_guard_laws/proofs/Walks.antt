-- A walk of a listed user over safe places is the same without what is inside, and stays on safe
-- places.
use Rattle.std.proofs.Common.{◌≡◌, ℕ, zero, suc, ◌-◌, ◌<◌, Bool, true, false, not, ◌&&◌, List, []}
use Rattle.std.proofs.Common.{◌∷◌, ◌++◌, Option, Some, None, Result, Ok, Err, refl, ap, ◌∙◌, subst}
use Rattle.std.proofs.Common.{arith, length, take, is_some, codes}
use Rattle.std.specs.Prelude.{◌==◌, if◌then◌else◌, nat_lt, slice_index_or}
use Rattle.std.specs.List.{AllByRecursion, list_any}
use Rattle.std.specs.Option.{option_map, option_map_or, option_or}
use Rattle.std.specs.Str.{bytes_eq}
use Rattle.std.proofs.lemmas.Bool.{and_from, and_parts, or_left}
use Rattle.p9_base.specs.declared.node_ref.NodeRef.{NodeRef}
use Rattle.p9_base.specs.declared.fault.Fault.{Fault}
use Rattle.p9_base.specs.declared.fault.Fault.TheVariants.{NotDirectory, NotFound, PermissionDenied}
use Rattle.p9_base.specs.declared.fault.Fault.TheVariants.{PathTooDeep, PhaseError}
use Rattle.p9_base.specs.NodeRef.{beside}
use Rattle.p9_base.specs.Results.{and_then}
use Rattle.p9_base.specs.declared.qid.Qid.{Qid}
use Rattle.p9_base.specs.User.{is_listed_user}
use Rattle.p9_tree.specs.Node.{Node, is_child, is_dir, is_in}
use Rattle.p9_tree.specs.Forest.{child_in, next_of, node_of, server_at}
use Rattle.p9_tree.specs.Inside.{is_barred}
use Rattle.p9_tree.proofs.Lookups.{passes-found}
use Rattle.p9_inside.proofs.Forests.{keeps_child, keeps_node}
use Rattle.p9_inside.proofs.Facts.{lt_test, not_some, some_same}
use Rattle.p9_inside.proofs.Looks.{found_node, in-parent, inside_at, node_below, not_barred}
use Rattle.p9_table.specs.declared.row.Member.{Member}
use Rattle.p9_table.specs.declared.trail.Step.{Step}
use Rattle.p9_table.specs.declared.trail.Step.TheVariants.{To, Up}
use Rattle.p9_space.specs.Place.{file_of, file_ref, first_node}
use Rattle.p9_space.specs.Rights.{Who, may, rules, to_execute}
use Rattle.p9_space.specs.Table.{members_of}
use Rattle.p9_space.specs.Trail.{here, places_max, stepped, upward}
use Rattle.p9_space.specs.Walk.{arrived, child_among, child_ref, is_alive, is_alive_dir}
use Rattle.p9_space.specs.Walk.{is_searched, may_search, step_among, step_down, step_of, walk}
use Rattle.p9_table.proofs.Tables.{members_of-some}
use Rattle.p9_step.specs.State.{who_of}
use Rattle.p9_step.specs.Qid.{qid_at}
use Rattle.p9_step.specs.Walk.{Arrival, arrival, arrived_by, step_and_rest, trail_after, walked}
use Rattle.p9_cert.specs.Listed.{is_passable, may_pass}
use Rattle.p9_cert.specs.Safe.{IsSafe, IsSafeMember, Set}
use Rattle.p9_guard_laws.specs.Grown.{grown}
use Rattle.p9_guard_laws.proofs.Scene.{Scene, premises_in, outer_of}
use Rattle.p9_guard_laws.proofs.Held.{HeldPlace}
use Rattle.p9_guard_laws.proofs.Basics.{each_weaker, some_may}

-- two values under a test that need be equal only where it passes
pub same_if : {X : Type 0} (b : Bool) (x y z : X) → (b ≡ true → x ≡ y)
    → (if b then x else z) ≡ (if b then y else z)
same_if true x y z h = h refl
same_if false x y z h = refl

pub ok_same : {X Y : Type 0} (x y : X) → ◌≡◌ {A = Result X Y} (Ok x) (Ok y) → x ≡ y
ok_same x y e = cc

pub err_ok : {X Y Z : Type 0} (x : X) (y : Y) → ◌≡◌ {A = Result X Y} (Err y) (Ok x) → Z
err_ok x y e = cc

module _ (P : NodeRef → Type 0) where
  pub each_at : (xs : List NodeRef) (i : ℕ) (d : NodeRef) → AllByRecursion P xs → P d
      → P (slice_index_or xs i d)
  each_at [] i d all other = other
  each_at (x ∷ xs) zero d all other = all.0
  each_at (x ∷ xs) (suc i) d all other = each_at xs i d all.1 other

  pub each_take : (n : ℕ) (xs : List NodeRef) → AllByRecursion P xs → AllByRecursion P (take n xs)
  each_take zero xs all = tt
  each_take (suc n) [] all = tt
  each_take (suc n) (x ∷ xs) all = (all.0, each_take n xs all.1)

  pub each_push : (xs : List NodeRef) (x : NodeRef) → AllByRecursion P xs → P x
      → AllByRecursion P (xs ++ x ∷ [])
  each_push [] x all new = (new, tt)
  each_push (y ∷ ys) x all new = (all.0, each_push ys x all.1 new)

module _ (scene : Scene) where
  abbrev pub certified : Set
  certified = grown (premises_in scene).policy.hidden scene.start scene.forest

  abbrev pub SafeMember : NodeRef → Type 0
  SafeMember = IsSafeMember (premises_in scene).policy scene.forest certified

  abbrev pub SafePlace : NodeRef → Type 0
  SafePlace = HeldPlace (premises_in scene) scene.start scene.forest

  abbrev pub SafeTrail : List NodeRef → Type 0
  SafeTrail trail = AllByRecursion SafePlace trail

  abbrev pub SafeMembers : List Member → Type 0
  SafeMembers ms = AllByRecursion (λ m. SafeMember m.node) ms

  pub node-outer : (r : NodeRef) → SafeMember r
      → node_of r (outer_of scene) ≡ node_of r scene.forest
  node-outer r h = keeps_node scene.hidden scene.forest r h.outside

  -- the file of a safe place
  pub file_safe : (p : NodeRef)
      → IsSafe (premises_in scene).policy scene.forest (premises_in scene).table certified p
      → SafeMember (file_ref p scene.setting.table)
  file_safe p h =
      go (members_of p scene.setting.table) h
      (members_of-some p scene.setting.table scene.good.kept.table)
    where
      go : (ms : List Member) → SafeMembers ms → 0 < length ms → SafeMember (first_node p ms)
      go [] all some = absurd (omega arith)
      go (m ∷ ms) all some = all.0

  pub file-outer : (p : NodeRef)
      → IsSafe (premises_in scene).policy scene.forest (premises_in scene).table certified p
      → file_of p scene.setting.table (outer_of scene) ≡ file_of p scene.setting.table scene.forest
  file-outer p h = node-outer (file_ref p scene.setting.table) (file_safe p h)

  -- where a safe trail ends
  pub here_safe : (trail : List NodeRef) → SafeTrail trail
      → IsSafe (premises_in scene).policy scene.forest (premises_in scene).table certified (here trail)
  here_safe trail all =
      each_at (IsSafe (premises_in scene).policy scene.forest (premises_in scene).table certified) trail
      (length trail - 1)
      (record { server = 0; number = 0 })
      (each_weaker SafePlace
      (IsSafe (premises_in scene).policy scene.forest (premises_in scene).table certified)
      (λ p h. h.safe) trail
      all)
      scene.good.kept.closed.root

  -- Members.

  pub any-outer : (t : Option Node → Bool) (ms : List Member) → SafeMembers ms
      → list_any (λ m. t (node_of m.node (outer_of scene))) ms
      ≡ list_any (λ m. t (node_of m.node scene.forest)) ms
  any-outer t [] h = refl
  any-outer t (m ∷ ms) h = rw (node-outer m.node h.0, any-outer t ms h.1) refl

  module _ (user : List ℕ) (listed : is_listed_user scene.setting.users user ≡ true) where
    abbrev walker : Option Who
    walker = Some (who_of scene.setting user)

    -- a directory that a listed user may search is in the certificate
    searched : (m : Member) → SafeMember m.node
        → is_searched scene.forest walker m ≡ true → certified m.node ≡ true
    unfolding is_passable
    searched m h s = go (node_of m.node scene.forest) refl s
      where
        go : (o : Option Node) → node_of m.node scene.forest ≡ o
            → option_map_or (λ n. is_dir n && may_search walker n) o
            false ≡ true
            → certified m.node ≡ true
        go None e t = let b : false ≡ true = t in cc
        go (Some x) e t =
            let who = who_of scene.setting user in
            let parts = and_parts (is_dir x) (may who x to_execute) t in
            let any =
            some_may (λ u. may_pass x (who_of scene.setting u)) scene.setting.users user listed
            (or_left (may who x to_execute) (rules who x) parts.1) in
            h.covered x e (and_from (is_dir x) _ parts.0 any)

    -- and so neither hidden nor inside
    open_dir : (r : NodeRef) → certified r ≡ true → is_barred r scene.hidden scene.forest ≡ false
    open_dir r c =
        let w = scene.good.kept.closed.rows r c in
        not_barred scene.hidden scene.forest scene.good.ordered r w.not_hidden w.outside

    child_one-outer : (name : List ℕ) (m : Member) → SafeMember m.node
        → (if is_searched (outer_of scene) walker m
        then child_ref (outer_of scene) m.node name else None)
        ≡ (if is_searched scene.forest walker m
        then child_ref scene.forest m.node name else None)
    child_one-outer name m h =
        ap
        (λ o. if option_map_or (λ n. is_dir n && may_search walker n) o
        false
        then child_ref (outer_of scene) m.node name else None) (node-outer m.node h)
        ∙ same_if (is_searched scene.forest walker m) _ _ None
        (λ s. ap (option_map (λ n. record { server = m.node.server; number = n.number }))
        (keeps_child scene.hidden scene.forest m.node name (open_dir m.node (searched m h s))))

    child-outer : (name : List ℕ) (ms : List Member) → SafeMembers ms
        → child_among (outer_of scene) walker name ms ≡ child_among scene.forest walker name ms
    child-outer name [] h = refl
    child-outer name (m ∷ ms) h = rw (child_one-outer name m h.0, child-outer name ms h.1) refl

    child_safe : (name : List ℕ) (ms : List Member) → SafeMembers ms → (r : NodeRef)
        → child_among scene.forest walker name ms ≡ Some r → SafePlace r
    child_safe name [] h r e = not_some r e
    child_safe name (m ∷ ms) h r e =
        go (is_searched scene.forest walker m) refl
        (child_in m.node name scene.forest) refl
        (child_safe name ms h.1 r) e
      where
        go : (b : Bool) → is_searched scene.forest walker m ≡ b
            → (o : Option Node) → child_in m.node name scene.forest ≡ o
            → (child_among scene.forest walker name ms ≡ Some r → SafePlace r) → option_or
            (if b then option_map (λ n. record { server = m.node.server; number = n.number }) o
            else None)
            (child_among scene.forest walker name ms) ≡ Some r
            → SafePlace r
        go false s o c later t = later t
        go true s None c later t = later t
        go true s (Some x) c later t =
            let same : beside m.node x.number ≡ r = some_same (beside m.node x.number) r t in
            let there : node_of (beside m.node x.number) scene.forest ≡ Some x =
            found_node scene.forest scene.good.ordered m.node.server (is_child m.node.number name) x
            c in
            let passes =
            passes-found (is_child m.node.number name) (server_at m.node.server scene.forest).nodes
            x c in
            let in_dir : x.parent ≡ Some m.node.number =
            in-parent m.node.number x
            (and_parts (is_in m.node.number x) (bytes_eq x.name name) passes).0 in
            subst SafePlace same (record {
              given =
                  lt_test x.number (next_of m.node.server scene.forest)
                  (node_below scene.forest scene.good.ordered (beside m.node x.number) x there);
              outside =
                  inside_at scene.hidden scene.forest (beside m.node x.number) x m.node.number there
                  in_dir
                  ∙ open_dir m.node (searched m h.0 s);
              safe =
                  scene.good.kept.closed.children m.node x.number x (searched m h.0 s) there in_dir;
            })

    -- Steps.

    abbrev SafeStep : List NodeRef → Result Step Fault → Type 0
    SafeStep trail r = (s : Step) → r ≡ Ok s → SafeTrail (stepped trail s)

    down-outer : (trail : List NodeRef) (name : List ℕ) (ms : List Member) → SafeMembers ms
        → step_down (outer_of scene) walker trail name ms
        ≡ step_down scene.forest walker trail name ms
    down-outer trail name ms h =
        rw (
          any-outer
              (λ o. option_map_or (λ n. is_dir n && may_search walker n)
              o
              false) ms h,
          child-outer name ms h,
        ) refl

    down_safe : (trail : List NodeRef) (name : List ℕ) (ms : List Member) → SafeMembers ms
        → SafeTrail trail → SafeStep trail
        (step_down scene.forest walker trail name ms)
    down_safe trail name ms h all s e =
        go (list_any (is_searched scene.forest walker) ms)
        (child_among scene.forest walker name ms) refl e
      where
        go : (b : Bool) (o : Option NodeRef)
            → child_among scene.forest walker name ms ≡ o
            → (if not b then Err PermissionDenied else option_map_or
            (λ place. if length trail == places_max then Err PathTooDeep else Ok (To place)) o
            (Err NotFound)) ≡ Ok s → SafeTrail (stepped trail s)
        go false o c t = err_ok s PermissionDenied t
        go true None c t = err_ok s NotFound t
        go true (Some r) c t = deep (length trail == places_max) t
          where
            deep : (d : Bool)
                → ◌≡◌ {A = Result Step Fault} (if d then Err PathTooDeep else Ok (To r)) (Ok s)
                → SafeTrail (stepped trail s)
            deep true t = err_ok s PathTooDeep t
            deep false t =
                subst (λ q. SafeTrail (stepped trail q)) (ok_same (To r) s t)
                (each_push SafePlace trail r all (child_safe name ms h r c))

    up_safe : (trail : List NodeRef) → SafeTrail trail → SafeTrail (upward trail)
    up_safe trail all = go (nat_lt 1 (length trail))
      where
        go : (b : Bool) → SafeTrail (if b then take (length trail - 1) trail else trail)
        go true = each_take SafePlace (length trail - 1) trail all
        go false = all

    among-outer : (trail : List NodeRef) (name : List ℕ) (ms : List Member) → SafeMembers ms
        → step_among (outer_of scene) walker trail name ms
        ≡ step_among scene.forest walker trail name ms
    among-outer trail name ms h =
        rw (
          any-outer is_some ms h,
          any-outer (λ o. option_map_or is_dir o false) ms h,
          down-outer trail name ms h,
        ) refl

    among_safe : (trail : List NodeRef) (name : List ℕ) (ms : List Member) → SafeMembers ms
        → SafeTrail trail → SafeStep trail
        (step_among scene.forest walker trail name ms)
    among_safe trail name ms h all s e =
        go (list_any (is_alive scene.forest) ms) (list_any (is_alive_dir scene.forest) ms)
        (bytes_eq name (codes "..")) e
      where
        go : (a b c : Bool)
            → (if not a then Err PhaseError else if not b then Err NotDirectory else if c then Ok Up
            else step_down scene.forest walker trail name ms) ≡ Ok s
            → SafeTrail (stepped trail s)
        go false b c t = err_ok s PhaseError t
        go true false c t = err_ok s NotDirectory t
        go true true true t =
            subst (λ q. SafeTrail (stepped trail q)) (ok_same Up s t) (up_safe trail all)
        go true true false t = down_safe trail name ms h all s t

    arrived-outer : (trail : List NodeRef) (r : Result Step Fault) → SafeStep trail r
        → and_then r (arrived (outer_of scene) scene.setting.table trail)
        ≡ and_then r (arrived scene.forest scene.setting.table trail)
    arrived-outer trail (Err fault) safe = refl
    arrived-outer trail (Ok s) safe =
        rw (file-outer (here (stepped trail s)) (here_safe (stepped trail s) (safe s refl))) refl

    arrived_from : (trail : List NodeRef) (r : Result Step Fault) (s : Step)
        → and_then r (arrived scene.forest scene.setting.table trail) ≡ Ok s → r ≡ Ok s
    arrived_from trail (Err fault) s e = e
    arrived_from trail (Ok q) s e =
        go (is_some (file_of (here (stepped trail q)) scene.setting.table scene.forest)) e
      where
        go : (b : Bool) → ◌≡◌ {A = Result Step Fault} (if b then Ok q else Err PhaseError) (Ok s)
            → ◌≡◌ {A = Result Step Fault} (Ok q) (Ok s)
        go true t = t
        go false t = err_ok s PhaseError t

    step-outer : (trail : List NodeRef) (name : List ℕ) → SafeTrail trail
        → step_of (outer_of scene) scene.setting.table walker trail name
        ≡ step_of scene.forest scene.setting.table walker trail name
    step-outer trail name all =
        let ms = here_safe trail all in
        ap (λ r. and_then r (arrived (outer_of scene) scene.setting.table trail))
        (among-outer trail name (members_of (here trail) scene.setting.table) ms)
        ∙ arrived-outer trail
        (step_among scene.forest walker trail name
        (members_of (here trail) scene.setting.table))
        (among_safe trail name (members_of (here trail) scene.setting.table) ms all)

    step_safe : (trail : List NodeRef) (name : List ℕ) → SafeTrail trail
        → SafeStep trail
        (step_of scene.forest scene.setting.table walker trail name)
    step_safe trail name all s e =
        among_safe trail name (members_of (here trail) scene.setting.table) (here_safe trail all)
        all s
        (arrived_from trail
        (step_among scene.forest walker trail name
        (members_of (here trail) scene.setting.table)) s e)

    -- Walks to their end.

    pub walk-outer : (trail : List NodeRef) (names : List (List ℕ)) → SafeTrail trail
        → walk (outer_of scene) scene.setting.table walker trail names
        ≡ walk scene.forest scene.setting.table walker trail names
    walk-outer trail [] all = refl
    walk-outer trail (name ∷ names) all =
        ap (λ r. and_then r (λ s.
        walk (outer_of scene) scene.setting.table walker
        (stepped trail s) names))
        (step-outer trail name all)
        ∙ go
        (step_of scene.forest scene.setting.table walker trail name)
        (step_safe trail name all) (λ next safe. walk-outer next names safe)
      where
        go : (r : Result Step Fault) → SafeStep trail r
            → ((next : List NodeRef) → SafeTrail next
            → walk (outer_of scene) scene.setting.table walker next
            names ≡ walk scene.forest scene.setting.table walker next names)
            → and_then r (λ s.
            walk (outer_of scene) scene.setting.table walker
            (stepped trail s) names) ≡ and_then r (λ s.
            walk scene.forest scene.setting.table walker
            (stepped trail s) names)
        go (Err fault) safe later = refl
        go (Ok s) safe later = later (stepped trail s) (safe s refl)

    pub walk_safe : (trail : List NodeRef) (names : List (List ℕ)) → SafeTrail trail
        → (last : List NodeRef) → walk scene.forest scene.setting.table walker trail names ≡ Ok last
        → SafeTrail last
    walk_safe trail [] all last e = subst SafeTrail (ok_same trail last e) all
    walk_safe trail (name ∷ names) all last e =
        go (step_of scene.forest scene.setting.table walker trail name)
        (step_safe trail name all) (λ next safe. walk_safe next names safe last) e
      where
        go : (r : Result Step Fault) → SafeStep trail r
            → ((next : List NodeRef) → SafeTrail next
            → walk scene.forest scene.setting.table walker next names ≡ Ok last → SafeTrail last)
            → and_then r (λ s.
            walk scene.forest scene.setting.table walker
            (stepped trail s) names) ≡ Ok last
            → SafeTrail last
        go (Err fault) safe later t = err_ok last fault t
        go (Ok s) safe later t = later (stepped trail s) (safe s refl) t

    -- Walks up to the first refusal.

    abbrev SafeArrival : Result Arrival Fault → Type 0
    SafeArrival r = (a : Arrival) → r ≡ Ok a → SafeTrail a.trail

    arrival-outer : (trail : List NodeRef) (r : Result Step Fault) → SafeStep trail r
        → and_then r (arrival scene.setting (outer_of scene) trail)
        ≡ and_then r (arrival scene.setting scene.forest trail)
    arrival-outer trail (Err fault) safe = refl
    arrival-outer trail (Ok s) safe =
        rw (file-outer (here (stepped trail s)) (here_safe (stepped trail s) (safe s refl))) refl

    arrival_safe : (trail : List NodeRef) (r : Result Step Fault) → SafeStep trail r
        → SafeArrival (and_then r (arrival scene.setting scene.forest trail))
    arrival_safe trail (Err fault) safe a e = err_ok a fault e
    arrival_safe trail (Ok s) safe a e =
        go (qid_at scene.setting.table scene.forest (here (stepped trail s))) e
      where
        go : (o : Option Qid) → ◌≡◌ {A = Result Arrival Fault}
            (option_map_or (λ qid. Ok (record { trail = stepped trail s; qid = qid })) o
            (Err PhaseError)) (Ok a)
            → SafeTrail a.trail
        go None t = err_ok a PhaseError t
        go (Some qid) t =
            let same : record { trail = stepped trail s; qid = qid } ≡ a = ok_same _ a t in
            subst (λ (b : Arrival). SafeTrail b.trail) same (safe s refl)

    arrived_by-outer : (trail : List NodeRef) (name : List ℕ) → SafeTrail trail
        → arrived_by scene.setting (outer_of scene) user trail name
        ≡ arrived_by scene.setting scene.forest user trail name
    arrived_by-outer trail name all =
        ap (λ r. and_then r (arrival scene.setting (outer_of scene) trail))
        (step-outer trail name all)
        ∙ arrival-outer trail
        (step_of scene.forest scene.setting.table walker trail name)
        (step_safe trail name all)

    arrived_by_safe : (trail : List NodeRef) (name : List ℕ) → SafeTrail trail
        → SafeArrival (arrived_by scene.setting scene.forest user trail name)
    arrived_by_safe trail name all =
        arrival_safe trail
        (step_of scene.forest scene.setting.table walker trail name)
        (step_safe trail name all)

    -- a walk is the same, and leads to safe places
    pub walked-outer : (trail : List NodeRef) (names : List (List ℕ)) → SafeTrail trail
        → walked scene.setting (outer_of scene) user trail names
        ≡ walked scene.setting scene.forest user trail names
    walked-outer trail [] all = refl
    walked-outer trail (name ∷ names) all =
        ap
        (λ r. step_and_rest trail r
        (walked scene.setting (outer_of scene) user
        (trail_after trail r) names))
        (arrived_by-outer trail name all)
        ∙ go (arrived_by scene.setting scene.forest user trail name)
        (arrived_by_safe trail name all)
        (λ next safe. walked-outer next names safe)
      where
        go : (r : Result Arrival Fault) → SafeArrival r
            → ((next : List NodeRef) → SafeTrail next
            → walked scene.setting (outer_of scene) user next names
            ≡ walked scene.setting scene.forest user next names)
            → step_and_rest trail r
            (walked scene.setting (outer_of scene) user
            (trail_after trail r) names)
            ≡ step_and_rest trail r
            (walked scene.setting scene.forest user
            (trail_after trail r) names)
        go (Err fault) safe later = refl
        go (Ok a) safe later = rw (later a.trail (safe a refl)) refl

    pub walked_safe : (trail : List NodeRef) (names : List (List ℕ)) → SafeTrail trail
        → SafeTrail (walked scene.setting scene.forest user trail names).trail
    walked_safe trail [] all = all
    walked_safe trail (name ∷ names) all =
        go (arrived_by scene.setting scene.forest user trail name) (arrived_by_safe trail name all)
        (λ next safe. walked_safe next names safe)
      where
        go : (r : Result Arrival Fault) → SafeArrival r
            → ((next : List NodeRef) → SafeTrail next
            → SafeTrail (walked scene.setting scene.forest user next names).trail) → SafeTrail
            (step_and_rest trail r
            (walked scene.setting scene.forest user
            (trail_after trail r) names)).trail
        go (Err fault) safe later = all
        go (Ok a) safe later = later a.trail (safe a refl)
