-- What holds of the places of a trail, and of each place where a name leads from such a trail, holds
-- of the places where a walk leads.
use Rattle.std.proofs.Common.{◌≡◌, ℕ, ◌-◌, Bool, true, false, not, List, [], ◌∷◌, Option, Some}
use Rattle.std.proofs.Common.{None, Result, Ok, Err, refl, subst, length, take, is_some, codes}
use Rattle.std.specs.Prelude.{◌==◌, if◌then◌else◌, nat_lt}
use Rattle.std.specs.List.{AllByRecursion, list_any}
use Rattle.std.specs.Option.{option_map_or}
use Rattle.std.specs.Str.{bytes_eq}
use Rattle.p9_base.specs.Results.{and_then}
use Rattle.p9_base.specs.declared.fault.Fault.{Fault}
use Rattle.p9_base.specs.declared.fault.Fault.TheVariants.{NotDirectory, NotFound, PermissionDenied}
use Rattle.p9_base.specs.declared.fault.Fault.TheVariants.{PathTooDeep, PhaseError}
use Rattle.p9_base.specs.declared.node_ref.NodeRef.{NodeRef}
use Rattle.p9_base.specs.declared.qid.Qid.{Qid}
use Rattle.p9_tree.specs.Server.{Server}
use Rattle.p9_space.specs.Place.{file_of}
use Rattle.p9_space.specs.Rights.{Who}
use Rattle.p9_space.specs.Table.{members_of}
use Rattle.p9_space.specs.Trail.{here, places_max, stepped, upward}
use Rattle.p9_space.specs.Walk.{arrived, child_among, is_alive, is_alive_dir, is_searched}
use Rattle.p9_space.specs.Walk.{step_among, step_down, step_of, walk}
use Rattle.p9_table.specs.declared.row.Member.{Member}
use Rattle.p9_table.specs.declared.trail.Step.{Step}
use Rattle.p9_table.specs.declared.trail.Step.TheVariants.{To, Up}
use Rattle.p9_step.specs.Qid.{qid_at}
use Rattle.p9_step.specs.State.{Setting, who_of}
use Rattle.p9_step.specs.Walk.{Arrival, arrival, arrived_by, step_and_rest, trail_after, walked}
use Rattle.p9_guard_laws.proofs.Walks.{each_push, each_take, err_ok, ok_same}

module _ (setting : Setting) (forest : List Server) (user : List ℕ) (P : NodeRef → Type 0) where
  abbrev walker : Option Who
  walker = Some (who_of setting user)

  -- of each place of a trail
  abbrev pub Along : List NodeRef → Type 0
  Along trail = AllByRecursion P trail

  -- of each place where a name leads from such a trail
  abbrev pub LeadsOn : Type 0
  LeadsOn = (trail : List NodeRef) (name : List ℕ) (r : NodeRef) → Along trail
      → child_among forest walker name (members_of (here trail) setting.table) ≡ Some r → P r

  module _ (on : LeadsOn) where
    abbrev AfterStep : List NodeRef → Result Step Fault → Type 0
    AfterStep trail r = (s : Step) → r ≡ Ok s → Along (stepped trail s)

    up_along : (trail : List NodeRef) → Along trail → Along (upward trail)
    up_along trail all = go (nat_lt 1 (length trail))
      where
        go : (b : Bool) → Along (if b then take (length trail - 1) trail else trail)
        go true = each_take P (length trail - 1) trail all
        go false = all

    module _ (trail : List NodeRef) (name : List ℕ) (all : Along trail) where
      abbrev ms : List Member
      ms = members_of (here trail) setting.table

      down_along : AfterStep trail (step_down forest walker trail name ms)
      down_along s e =
          go (list_any (is_searched forest walker) ms) (child_among forest walker name ms) refl e
        where
          deep : (r : NodeRef) → child_among forest walker name ms ≡ Some r → (b : Bool)
              → ◌≡◌ {A = Result Step Fault} (if b then Err PathTooDeep else Ok (To r)) (Ok s)
              → Along (stepped trail s)
          deep r found true t = err_ok s PathTooDeep t
          deep r found false t =
              subst (λ q. Along (stepped trail q)) (ok_same (To r) s t)
              (each_push P trail r all (on trail name r all found))

          go : (b : Bool) (o : Option NodeRef) → child_among forest walker name ms ≡ o
              → (if not b then Err PermissionDenied else option_map_or
              (λ place. if length trail == places_max then Err PathTooDeep else Ok (To place)) o
              (Err NotFound)) ≡ Ok s → Along (stepped trail s)
          go false o c t = err_ok s PermissionDenied t
          go true None c t = err_ok s NotFound t
          go true (Some r) c t = deep r c (length trail == places_max) t

      among_along : AfterStep trail (step_among forest walker trail name ms)
      among_along s e =
          go (list_any (is_alive forest) ms) (list_any (is_alive_dir forest) ms)
          (bytes_eq name (codes "..")) e
        where
          go : (a b c : Bool)
              → (if not a then Err PhaseError else if not b then Err NotDirectory else if c
              then Ok Up else step_down forest walker trail name ms) ≡ Ok s
              → Along (stepped trail s)
          go false b c t = err_ok s PhaseError t
          go true false c t = err_ok s NotDirectory t
          go true true true t =
              subst (λ q. Along (stepped trail q)) (ok_same Up s t) (up_along trail all)
          go true true false t = down_along s t

      step_along : AfterStep trail (step_of forest setting.table walker trail name)
      step_along s e = among_along s (from (step_among forest walker trail name ms) e)
        where
          from : (r : Result Step Fault) → and_then r (arrived forest setting.table trail) ≡ Ok s
              → r ≡ Ok s
          from (Err fault) e = e
          from (Ok q) e = go (is_some (file_of (here (stepped trail q)) setting.table forest)) e
            where
              go : (b : Bool)
                  → ◌≡◌ {A = Result Step Fault} (if b then Ok q else Err PhaseError) (Ok s)
                  → ◌≡◌ {A = Result Step Fault} (Ok q) (Ok s)
              go true t = t
              go false t = err_ok s PhaseError t

      arrived_along : (a : Arrival) → arrived_by setting forest user trail name ≡ Ok a
          → Along a.trail
      arrived_along a e =
          by_step (step_of forest setting.table walker trail name) step_along e
        where
          by_qid : (s : Step) → Along (stepped trail s) → (o : Option Qid)
              → ◌≡◌ {A = Result Arrival Fault}
              (option_map_or (λ qid. Ok (record { trail = stepped trail s; qid = qid })) o
              (Err PhaseError)) (Ok a) → Along a.trail
          by_qid s its None t = err_ok a PhaseError t
          by_qid s its (Some qid) t =
              let same : record { trail = stepped trail s; qid = qid } ≡ a = ok_same _ a t in
              subst (λ (b : Arrival). Along b.trail) same its

          by_step : (r : Result Step Fault) → AfterStep trail r
              → and_then r (arrival setting forest trail) ≡ Ok a → Along a.trail
          by_step (Err fault) after t = err_ok a fault t
          by_step (Ok s) after t =
              by_qid s (after s refl) (qid_at setting.table forest (here (stepped trail s))) t

    -- a walk to its end
    pub walk_along : (trail : List NodeRef) (names : List (List ℕ)) → Along trail
        → (last : List NodeRef) → walk forest setting.table walker trail names ≡ Ok last
        → Along last
    walk_along trail [] all last e = subst Along (ok_same trail last e) all
    walk_along trail (name ∷ names) all last e =
        go (step_of forest setting.table walker trail name) (step_along trail name all)
        (λ next its. walk_along next names its last) e
      where
        go : (r : Result Step Fault) → AfterStep trail r
            → ((next : List NodeRef) → Along next
            → walk forest setting.table walker next names ≡ Ok last → Along last)
            → and_then r (λ s. walk forest setting.table walker (stepped trail s) names) ≡ Ok last
            → Along last
        go (Err fault) after later t = err_ok last fault t
        go (Ok s) after later t = later (stepped trail s) (after s refl) t

    -- a walk up to the first refusal
    pub walked_along : (trail : List NodeRef) (names : List (List ℕ)) → Along trail
        → Along (walked setting forest user trail names).trail
    walked_along trail [] all = all
    walked_along trail (name ∷ names) all =
        go (arrived_by setting forest user trail name) (arrived_along trail name all)
        (λ next its. walked_along next names its)
      where
        go : (r : Result Arrival Fault) → ((a : Arrival) → r ≡ Ok a → Along a.trail)
            → ((next : List NodeRef) → Along next
            → Along (walked setting forest user next names).trail)
            → Along
            (step_and_rest trail r
            (walked setting forest user (trail_after trail r) names)).trail
        go (Err fault) after later = all
        go (Ok a) after later = later a.trail (after a refl)
