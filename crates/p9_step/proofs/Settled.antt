-- What is kept of fids, while the forest evolves and when they are put in and changed.
use Rattle.p9_step.specs.State.{who_of}
use Rattle.p9_space.specs.Rights.{Who}
use Rattle.std.proofs.Common.{Bool, Err, List, None, Ok, Option, Result, Some, [], ap, arith, false}
use Rattle.std.proofs.Common.{is_some, length, refl, subst, suc, sym, take, true, zero, ℕ, ◌++◌}
use Rattle.std.proofs.Common.{◌-◌, ◌<◌, ◌∙◌, ◌∷◌, ◌≡◌}
use Rattle.std.proofs.lemmas.Bool.{and_parts, or_left, or_right}
use Rattle.std.proofs.lemmas.Bool.Decides.{nat_tests}
use Rattle.std.proofs.lemmas.List.{length-append, length-take}
use Rattle.std.proofs.lemmas.Slice.Eq.{bytes_eq-Decides}
use Rattle.std.specs.List.{AllByRecursion, list_all, list_any}
use Rattle.std.specs.Option.{option_or}
use Rattle.std.specs.Prelude.{codes, nat_lt, ◌==◌}
use Rattle.std.specs.Str.{bytes_eq}
use Rattle.p9_base.specs.NodeRef.{beside, same_node}
use Rattle.p9_base.specs.User.{is_listed_user, is_user}
use Rattle.p9_base.specs.declared.fault.Fault.{Fault}
use Rattle.p9_base.specs.declared.fault.Fault.TheVariants.{NotDirectory, NotFound, PathTooDeep}
use Rattle.p9_base.specs.declared.fault.Fault.TheVariants.{PermissionDenied, PhaseError}
use Rattle.p9_base.specs.declared.node_ref.NodeRef.{NodeRef}
use Rattle.p9_base.specs.declared.qid.Qid.{Qid}
use Rattle.p9_tree.specs.Forest.{IsForest, child_in, node_of, server_at}
use Rattle.p9_tree.specs.Node.{Node, is_child}
use Rattle.p9_tree.specs.Server.{Server}
use Rattle.p9_space.specs.Given.{is_given, is_row_given, is_table_given}
use Rattle.p9_space.specs.Place.{file_of}
use Rattle.p9_space.specs.Table.{MountRow, members_of, row_of}
use Rattle.p9_space.specs.Trail.{IsTrail, here, places_max, stepped, upward}
use Rattle.p9_space.specs.Walk.{arrived, child_among, child_ref, is_alive, is_alive_dir}
use Rattle.p9_space.specs.Walk.{is_searched, step_among, step_down, step_of}
use Rattle.p9_table.specs.declared.row.Member.{Member}
use Rattle.p9_table.specs.declared.trail.Step.{Step}
use Rattle.p9_table.specs.declared.trail.Step.TheVariants.{To, Up}
use Rattle.p9_fids.specs.Fid.{Fid, FidRow}
use Rattle.p9_step.specs.Attach.{listed_user}
use Rattle.p9_step.specs.Qid.{qid_at}
use Rattle.p9_step.specs.Sound.{AreWellOpen, IsFid, IsSession, IsSetting}
use Rattle.p9_step.specs.State.{Session, SessionRow, Setting}
use Rattle.p9_step.specs.Walk.{Arrival, arrival, arrived_by, step_and_rest, trail_after, walked}
use Rattle.p9_step.proofs.Evolves.{Evolves}
use Rattle.p9_step.proofs.Members.{found-member}
use Rattle.p9_step.proofs.NodeRefs.{member-given, node_of-given, same-is}
use Rattle.p9_step.proofs.OpenFids.{fit-evolved}

-- a number that was given stays given
pub given-evolved : (f g : List Server) → Evolves f g → (at : NodeRef) → is_given f at ≡ true
    → is_given g at ≡ true
given-evolved f g evolves at given =
    let more = (evolves.server at.server).next in grind (arith, nat_tests)

-- so do those of many
pub all_given-evolved : (f g : List Server) → Evolves f g → (places : List NodeRef)
    → list_all (is_given f) places ≡ true → list_all (is_given g) places ≡ true
all_given-evolved f g evolves [] given = refl
all_given-evolved f g evolves (p ∷ ps) given =
    let parts = and_parts (is_given f p) (list_all (is_given f) ps) given in
    rw (given-evolved f g evolves p parts.0, all_given-evolved f g evolves ps parts.1) refl

members-evolved : (f g : List Server) → Evolves f g → (ms : List Member)
    → list_all (λ m. is_given f m.node) ms ≡ true → list_all (λ m. is_given g m.node) ms ≡ true
members-evolved f g evolves [] given = refl
members-evolved f g evolves (m ∷ ms) given =
    let parts = and_parts (is_given f m.node) (list_all (λ m'. is_given f m'.node) ms) given in
    rw (given-evolved f g evolves m.node parts.0, members-evolved f g evolves ms parts.1) refl

-- and those of the table
pub table-evolved : (f g : List Server) → Evolves f g → (table : List MountRow)
    → is_table_given f table ≡ true → is_table_given g table ≡ true
table-evolved f g evolves [] given = refl
table-evolved f g evolves (row ∷ rows) given =
    let parts = and_parts (is_row_given f row) (is_table_given f rows) given in
    let here = and_parts (is_given f row.0) (list_all (λ m. is_given f m.node) row.1) parts.0 in
    rw (
      given-evolved f g evolves row.0 here.0,
      members-evolved f g evolves row.1 here.1,
      table-evolved f g evolves rows parts.1,
    ) refl

module _ (setting : Setting) (f g : List Server) (sound : IsForest f) (evolves : Evolves f g) where
  -- a fid
  pub fid-evolved : (v : Fid) → IsFid setting f v → IsFid setting g v
  fid-evolved v its = record {
    listed = its.listed;
    trail = its.trail;
    given = all_given-evolved f g evolves v.trail its.given;
    opened = fit-evolved setting.table f g sound evolves v its.opened;
  }

  -- each of the fids
  pub each-evolved : (fids : List FidRow) → AllByRecursion (λ row. IsFid setting f row.1) fids
      → AllByRecursion (λ row. IsFid setting g row.1) fids
  each-evolved [] each = each
  each-evolved (row ∷ rows) each = (fid-evolved row.1 each.0, each-evolved rows each.1)

  -- a session
  pub session-evolved : (session : Session) → IsSession setting f session
      → IsSession setting g session
  session-evolved session its = record {
    msize = its.msize;
    fids = its.fids;
    each = each-evolved session.fids its.each;
  }

  -- and all sessions
  pub sessions-evolved : (rows : List SessionRow)
      → AllByRecursion (λ row. IsSession setting f row.1) rows
      → AllByRecursion (λ row. IsSession setting g row.1) rows
  sessions-evolved [] each = each
  sessions-evolved (row ∷ rows) each =
      (session-evolved row.1 each.0, sessions-evolved rows each.1)

-- what is kept of open fids
pub fits-of : (setting : Setting) (forest : List Server) (fids : List FidRow)
    → AllByRecursion (λ row. IsFid setting forest row.1) fids
    → AreWellOpen setting.table forest fids
fits-of setting forest [] each = tt
fits-of setting forest (row ∷ rows) each = (each.0.opened, fits-of setting forest rows each.1)

-- whoever is listed is a user
pub listed-user : (users : List (List ℕ)) (user : List ℕ) → list_all is_user users ≡ true
    → is_listed_user users user ≡ true → is_user user ≡ true
listed-user [] user all listed = let no : false ≡ true = listed in absurd (cc)
listed-user (u ∷ us) user all listed =
    let parts = and_parts (is_user u) (list_all is_user us) all in
    go (bytes_eq u user) refl parts.0 (listed-user us user parts.1)
  where
    go : (b : Bool) → bytes_eq u user ≡ b → is_user u ≡ true
        → (is_listed_user us user ≡ true → is_user user ≡ true) → is_user user ≡ true
    go true e here later =
        subst (λ w. is_user w ≡ true) ((bytes_eq-Decides u user).0 e) here
    go false e here later = later (rw e at listed)

-- so is whoever holds a fid
pub users-of : (setting : Setting) (forest : List Server) (fids : List FidRow) → IsSetting setting
    → AllByRecursion (λ row. IsFid setting forest row.1) fids
    → AllByRecursion (λ row. is_user row.1.user ≡ true) fids
users-of setting forest [] fixed each = tt
users-of setting forest (row ∷ rows) fixed each = (
  listed-user setting.users row.1.user fixed.users each.0.listed,
  users-of setting forest rows fixed each.1,
)

-- a user who is found among those that are listed is listed
pub found-listed : (uname : List ℕ) (users : List (List ℕ)) (user : List ℕ)
    → listed_user uname users ≡ Some user → is_listed_user users user ≡ true
found-listed uname [] user found = let none : None ≡ Some user = found in absurd (cc)
found-listed uname (u ∷ us) user found =
    go (bytes_eq u uname) refl (found-listed uname us user)
  where
    go : (b : Bool) → bytes_eq u uname ≡ b
        → (listed_user uname us ≡ Some user → is_listed_user us user ≡ true)
        → is_listed_user (u ∷ us) user ≡ true
    go true e later =
        let here : Some u ≡ Some user = rw e at found in
        let same : u ≡ user = cc in
        or_left (bytes_eq u user) (is_listed_user us user) ((bytes_eq-Decides u user).1 same)
    go false e later =
        or_right (bytes_eq u user) (is_listed_user us user) (later (rw e at found))

-- Places.

-- the number of a place whose file exists was given
pub place-given : (forest : List Server) (table : List MountRow) (place : NodeRef) (n : Node)
    → IsForest forest → is_table_given forest table ≡ true → file_of place table forest ≡ Some n
    → is_given forest place ≡ true
place-given forest table place n sound given found = go (row_of place table) refl
  where
    key_given : (rows : List MountRow) (ms : List Member) → is_table_given forest rows ≡ true
        → row_of place rows ≡ Some ms → is_given forest place ≡ true
    key_given [] ms all e = let none : None ≡ Some ms = e in absurd (cc)
    key_given (row ∷ rows) ms all e =
        let parts = and_parts (is_row_given forest row) (is_table_given forest rows) all in
        let here =
        and_parts (is_given forest row.0) (list_all (λ m. is_given forest m.node) row.1) parts.0 in
        by (same_node place row.0) refl here.0 (key_given rows ms parts.1)
      where
        by : (b : Bool) → same_node place row.0 ≡ b → is_given forest row.0 ≡ true
            → (row_of place rows ≡ Some ms → is_given forest place ≡ true)
            → is_given forest place ≡ true
        by true t its later =
            subst (λ r. is_given forest r ≡ true) (sym (same-is place row.0 t)) its
        by false t its later = later (rw t at e)

    go : (o : Option (List Member)) → row_of place table ≡ o → is_given forest place ≡ true
    go None e =
        let alone : node_of place forest ≡ Some n = rw e at found in
        let lt = node_of-given forest place n sound alone in
        grind (arith, nat_tests)
    go (Some ms) e = key_given table ms given e

list_all-take : {X : Type 0} (p : X → Bool) (k : ℕ) (xs : List X) → list_all p xs ≡ true
    → list_all p (take k xs) ≡ true
list_all-take p zero xs all = refl
list_all-take p (suc k) [] all = refl
list_all-take p (suc k) (x ∷ xs) all =
    let parts = and_parts (p x) (list_all p xs) all in
    rw (parts.0, list_all-take p k xs parts.1) refl

list_all-joined : {X : Type 0} (p : X → Bool) (xs : List X) (y : X) → list_all p xs ≡ true
    → p y ≡ true → list_all p (xs ++ y ∷ []) ≡ true
list_all-joined p [] y all new = rw new refl
list_all-joined p (x ∷ xs) y all new =
    let parts = and_parts (p x) (list_all p xs) all in
    rw (parts.0, list_all-joined p xs y parts.1 new) refl

-- a trail, and its places' numbers
pub record IsGivenTrail (forest : List Server) (trail : List NodeRef) : Type 0 where
  pub sizes : IsTrail trail
  pub given : list_all (is_given forest) trail ≡ true

-- a trail goes on to a place
pub trail-pushed : (forest : List Server) (trail : List NodeRef) (place : NodeRef)
    → IsGivenTrail forest trail → length trail < places_max → is_given forest place ≡ true
    → IsGivenTrail forest (trail ++ place ∷ [])
trail-pushed forest trail place its room given = record {
  sizes = record {
    some = omega (arith, length-append trail (place ∷ []));
    few = omega (arith, length-append trail (place ∷ []));
  };
  given = list_all-joined (is_given forest) trail place its.given given;
}

-- and back by one
pub trail-upward : (forest : List Server) (trail : List NodeRef) → IsGivenTrail forest trail
    → IsGivenTrail forest (upward trail)
trail-upward forest trail its = go (nat_lt 1 (length trail)) refl
  where
    go : (b : Bool) → nat_lt 1 (length trail) ≡ b → IsGivenTrail forest (upward trail)
    go false e = rw e its
    go true e =
        let more : 1 < length trail = grind (arith, nat_tests, e) in
        let few = its.sizes.few in
        rw e (record {
          sizes = record {
            some = omega (arith, length-take (length trail - 1) trail);
            few = omega (arith, length-take (length trail - 1) trail);
          };
          given = list_all-take (is_given forest) (length trail - 1) trail its.given;
        })

module _ (forest : List Server) (who : Option Who) (sound : IsForest forest) where
  -- a child that is found was given
  child-given : (dir place : NodeRef) (name : List ℕ) → child_ref forest dir name ≡ Some place
      → is_given forest place ≡ true
  child-given dir place name found = go (child_in dir name forest) refl
    where
      go : (o : Option Node) → child_in dir name forest ≡ o → is_given forest place ≡ true
      go None e = let none : None ≡ Some place = rw e at found in absurd (cc)
      go (Some n) e =
          let here : Some (beside dir n.number) ≡ Some place = rw e at found in
          let same : beside dir n.number ≡ place = cc in
          let in_server =
          (found-member (is_child dir.number name) (server_at dir.server forest).nodes n e).0 in
          let lt = member-given forest dir.server n sound in_server in
          subst (λ r. is_given forest r ≡ true) same (grind (arith, nat_tests, lt))

  among-given : (name : List ℕ) (ms : List Member) (place : NodeRef)
      → child_among forest who name ms ≡ Some place → is_given forest place ≡ true
  among-given name [] place found = let none : None ≡ Some place = found in absurd (cc)
  among-given name (m ∷ ms) place found =
      go (is_searched forest who m) refl (among-given name ms place)
    where
      by_child : (o : Option NodeRef) → child_ref forest m.node name ≡ o
          → option_or o (child_among forest who name ms) ≡ Some place
          → (child_among forest who name ms ≡ Some place → is_given forest place ≡ true)
          → is_given forest place ≡ true
      by_child None e here later = later here
      by_child (Some r) e here later =
          let same : Some r ≡ Some place = here in
          child-given m.node place name (e ∙ same)

      go : (b : Bool) → is_searched forest who m ≡ b
          → (child_among forest who name ms ≡ Some place → is_given forest place ≡ true)
          → is_given forest place ≡ true
      go true e later =
          by_child (child_ref forest m.node name) refl (rw e at found) later
      go false e later = later (rw e at found)

  -- where a step by a name goes on
  pub record GoesTo (trail : List NodeRef) (place : NodeRef) : Type 0 where
    pub room : (length trail == places_max) ≡ false
    pub given : is_given forest place ≡ true

  down-goes : (trail : List NodeRef) (name : List ℕ) (ms : List Member) (place : NodeRef)
      → step_down forest who trail name ms ≡ Ok (To place) → GoesTo trail place
  down-goes trail name ms place e = by_test (list_any (is_searched forest who) ms) refl
    where
      by_room : (r : NodeRef) → child_among forest who name ms ≡ Some r
          → list_any (is_searched forest who) ms ≡ true → (b : Bool)
          → (length trail == places_max) ≡ b → GoesTo trail place
      by_room r found searched true full =
          let no : Err PathTooDeep ≡ Ok (To place) = rw (searched, found, full) at e in absurd (cc)
      by_room r found searched false room =
          let here : Ok (To r) ≡ Ok (To place) = rw (searched, found, room) at e in
          let same : r ≡ place = cc in
          record { room = room; given = among-given name ms place (found ∙ ap Some same) }

      by_child : list_any (is_searched forest who) ms ≡ true → (o : Option NodeRef)
          → child_among forest who name ms ≡ o → GoesTo trail place
      by_child searched None found =
          let no : Err NotFound ≡ Ok (To place) = rw (searched, found) at e in absurd (cc)
      by_child searched (Some r) found =
          by_room r found searched (length trail == places_max) refl

      by_test : (b : Bool) → list_any (is_searched forest who) ms ≡ b → GoesTo trail place
      by_test false t =
          let no : Err PermissionDenied ≡ Ok (To place) = rw t at e in absurd (cc)
      by_test true t = by_child t (child_among forest who name ms) refl

  among-goes : (trail : List NodeRef) (name : List ℕ) (ms : List Member) (place : NodeRef)
      → step_among forest who trail name ms ≡ Ok (To place) → GoesTo trail place
  among-goes trail name ms place e = by_alive (list_any (is_alive forest) ms) refl
    where
      by_name : list_any (is_alive forest) ms ≡ true → list_any (is_alive_dir forest) ms ≡ true
          → (b : Bool) → bytes_eq name (codes "..") ≡ b → GoesTo trail place
      by_name alive dir true t =
          let no : Ok Up ≡ Ok (To place) = rw (alive, dir, t) at e in absurd (cc)
      by_name alive dir false t = down-goes trail name ms place (rw (alive, dir, t) at e)

      by_dir : list_any (is_alive forest) ms ≡ true → (b : Bool)
          → list_any (is_alive_dir forest) ms ≡ b → GoesTo trail place
      by_dir alive false t =
          let no : Err NotDirectory ≡ Ok (To place) = rw (alive, t) at e in absurd (cc)
      by_dir alive true t = by_name alive t (bytes_eq name (codes "..")) refl

      by_alive : (b : Bool) → list_any (is_alive forest) ms ≡ b → GoesTo trail place
      by_alive false t =
          let no : Err PhaseError ≡ Ok (To place) = rw t at e in absurd (cc)
      by_alive true t = by_dir t (list_any (is_alive_dir forest) ms) refl

  -- the trail after a step is a trail, of places that were given
  pub trail-stepped : (table : List MountRow) (trail : List NodeRef) (name : List ℕ) (step : Step)
      → IsGivenTrail forest trail → step_of forest table who trail name ≡ Ok step
      → IsGivenTrail forest (stepped trail step)
  trail-stepped table trail name step its e =
      by_step (step_among forest who trail name (members_of (here trail) table)) refl
    where
      along : (s : Step)
          → step_among forest who trail name (members_of (here trail) table) ≡ Ok s → s ≡ step
          → IsGivenTrail forest (stepped trail step)
      along Up found same = subst (λ s. IsGivenTrail forest (stepped trail s)) same
          (trail-upward forest trail its)
      along (To place) found same =
          let goes = among-goes trail name (members_of (here trail) table) place found in
          let few = its.sizes.few in
          let room = goes.room in
          subst (λ s. IsGivenTrail forest (stepped trail s)) same
          (trail-pushed forest trail place its (grind (arith, nat_tests, room, few)) goes.given)

      arrives : (s : Step) → arrived forest table trail s ≡ Ok step → s ≡ step
      arrives s there = by_file (is_some (file_of (here (stepped trail s)) table forest)) refl
        where
          by_file : (b : Bool) → is_some (file_of (here (stepped trail s)) table forest) ≡ b
              → s ≡ step
          by_file true t = let same : Ok s ≡ Ok step = rw t at there in cc
          by_file false t = let no : Err PhaseError ≡ Ok step = rw t at there in absurd (cc)

      by_step : (r : Result Step Fault)
          → step_among forest who trail name (members_of (here trail) table) ≡ r
          → IsGivenTrail forest (stepped trail step)
      by_step (Err fault) t = let no : Err fault ≡ Ok step = rw t at e in absurd (cc)
      by_step (Ok s) t = along s t (arrives s (rw t at e))

-- so is the trail where a walk leads
pub trail-walked : (setting : Setting) (forest : List Server) → IsForest forest
    → (user : List ℕ) (trail : List NodeRef) (names : List (List ℕ)) → IsGivenTrail forest trail
    → IsGivenTrail forest (walked setting forest user trail names).trail
trail-walked setting forest sound user trail [] its = its
trail-walked setting forest sound user trail (name ∷ names) its =
    by_arrival (arrived_by setting forest user trail name) refl
    (λ next. trail-walked setting forest sound user next names)
  where
    by_arrival : (r : Result Arrival Fault) → arrived_by setting forest user trail name ≡ r
        → ((next : List NodeRef) → IsGivenTrail forest next
        → IsGivenTrail forest (walked setting forest user next names).trail)
        → IsGivenTrail forest
        (step_and_rest trail r
        (walked setting forest user (trail_after trail r) names)).trail
    by_arrival (Err fault) e later = its
    by_arrival (Ok a) e later = later a.trail (by_step
        (step_of forest setting.table (Some (who_of setting user)) trail name) refl)
      where
        by_qid : (step : Step) (o : Option Qid)
            → qid_at setting.table forest (here (stepped trail step)) ≡ o
            → arrival setting forest trail step ≡ Ok a
            → step_of forest setting.table (Some (who_of setting user)) trail name ≡ Ok step
            → IsGivenTrail forest a.trail
        by_qid step None q t s =
            let no : Err PhaseError ≡ Ok a = rw q at t in absurd (cc)
        by_qid step (Some qid) q t s =
            let here_is : Ok (record { trail = stepped trail step; qid = qid }) ≡ Ok a =
            rw q at t in
            let same : stepped trail step ≡ a.trail = cc in
            subst (IsGivenTrail forest) same
            (trail-stepped forest (Some (who_of setting user)) sound setting.table trail name step its s)

        by_step : (r : Result Step Fault)
            → step_of forest setting.table (Some (who_of setting user)) trail name ≡ r
            → IsGivenTrail forest a.trail
        by_step (Err fault) t = let no : Err fault ≡ Ok a = rw t at e in absurd (cc)
        by_step (Ok step) t =
            by_qid step (qid_at setting.table forest (here (stepped trail step))) refl
            (rw t at e) t
