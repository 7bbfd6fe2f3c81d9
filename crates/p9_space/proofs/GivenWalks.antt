-- Walks lead only to nodes that were made.
use Rattle.std.proofs.Common.{◌≡◌, ℕ, ◌-◌, ◌<◌, Bool, true, false, List, [], ◌∷◌, ◌++◌, Option}
use Rattle.std.proofs.Common.{Some, None, Result, Ok, Err, length, not, take, is_some, codes}
use Rattle.std.proofs.Common.{unwrap_or, refl, sym, subst}
use Rattle.std.specs.Prelude.{◌==◌, if◌then◌else◌, nat_lt, slice_get}
use Rattle.std.specs.List.{list_all, list_any}
use Rattle.std.specs.Option.{option_map, option_map_or, option_or}
use Rattle.std.specs.Result.{IfOk}
use Rattle.std.specs.Str.{bytes_eq}
use Rattle.std.proofs.lemmas.Bool.{lt-ltb}
use Rattle.p9_base.specs.declared.fault.Fault.{Fault}
use Rattle.p9_base.specs.declared.fault.Fault.TheVariants.{NotDirectory, NotFound, PermissionDenied}
use Rattle.p9_base.specs.declared.fault.Fault.TheVariants.{PhaseError, PathTooDeep}
use Rattle.p9_base.specs.declared.node_ref.NodeRef.{NodeRef}
use Rattle.p9_base.specs.Results.{and_then}
use Rattle.p9_tree.specs.Node.{Node, is_child}
use Rattle.p9_tree.specs.Server.{Server, child_of}
use Rattle.p9_tree.specs.Forest.{IsForest, child_in, no_server}
use Rattle.p9_tree.proofs.Lookups.{All-node_at, node_at-found}
use Rattle.p9_table.specs.Rights.{Who}
use Rattle.p9_table.specs.declared.row.Member.{Member}
use Rattle.p9_table.specs.declared.trail.Step.{Step}
use Rattle.p9_table.specs.declared.trail.Step.TheVariants.{Up, To}
use Rattle.p9_table.specs.Given.{is_given}
use Rattle.p9_table.specs.Place.{file_of}
use Rattle.p9_table.specs.Table.{MountRow, members_of}
use Rattle.p9_table.specs.Trail.{here, stepped, upward, places_max}
use Rattle.p9_space.specs.Walk.{arrived, child_among, child_ref, is_alive, is_alive_dir}
use Rattle.p9_space.specs.Walk.{is_searched, step_among, step_down, step_of, walk}
use Rattle.p9_table.proofs.GivenLists.{all-append, all-cons, all-index_or, all-take}

module _ (forest : List Server) (sound : IsForest forest) where
  -- a directory's child was made
  child-given : (dir : NodeRef) (name : List ℕ) (n : Node) → child_in dir name forest ≡ Some n
      → is_given forest (record { server = dir.server; number = n.number }) ≡ true
  child-given dir name n found = by (slice_get forest dir.server) refl
    where
      by : (s : Option Server) → slice_get forest dir.server ≡ s → is_given forest (record {
        server = dir.server;
        number = n.number;
      }) ≡ true
      by None e = let none : None ≡ Some n = rw e at found in absurd (cc)
      by (Some s) e =
          let here : child_of dir.number name s.nodes ≡ Some n = rw e at found in
          let well = sound.servers dir.server s e in
          let at = node_at-found (is_child dir.number name) s.nodes n well.rising here in
          let below : n.number < s.next =
          All-node_at (λ m. m.number < s.next) n.number s.nodes n well.below at in
          subst (λ s. nat_lt n.number (unwrap_or s no_server).next ≡ true) (sym e)
          (lt-ltb n.number s.next below)

  module _ (who : Option Who) where
    -- what is found among members was made
    abbrev IsMade : Option NodeRef → Type 0
    IsMade None = Unit {0}
    IsMade (Some place) = is_given forest place ≡ true

    child_ref-given : (dir : NodeRef) (name : List ℕ) → IsMade (child_ref forest dir name)
    child_ref-given dir name = by (child_in dir name forest) refl
      where
        by : (n : Option Node) → child_in dir name forest ≡ n → IsMade (option_map (λ n. record {
          server = dir.server;
          number = n.number;
        }) n)
        by None e = tt
        by (Some n) e = child-given dir name n e

    child_among-given : (name : List ℕ) (ms : List Member)
        → IsMade (child_among forest who name ms)
    child_among-given name [] = tt
    child_among-given name (m ∷ ms) =
        by (is_searched forest who m) (child_ref forest m.node name) (child_ref-given m.node name)
        (child_among-given name ms)
      where
        by : (b : Bool) (place : Option NodeRef) → IsMade place
            → IsMade (child_among forest who name ms)
            → IsMade (option_or (if b then place else None) (child_among forest who name ms))
        by true None made rest = rest
        by true (Some place) made rest = made
        by false place made rest = rest

    -- where a step leads
    abbrev LeadsToMade : Result Step Fault → Type 0
    LeadsToMade (Ok Up) = Unit {0}
    LeadsToMade (Ok (To place)) = is_given forest place ≡ true
    LeadsToMade (Err fault) = Unit {0}

    by_test : (b : Bool) (fault : Fault) (step : Result Step Fault) → LeadsToMade step
        → LeadsToMade (if b then Err fault else step)
    by_test true fault step made = tt
    by_test false fault step made = made

    step_down-given : (trail : List NodeRef) (name : List ℕ) (ms : List Member)
        → LeadsToMade (step_down forest who trail name ms)
    step_down-given trail name ms =
        by_test (not (list_any (is_searched forest who) ms)) PermissionDenied
        (option_map_or (λ place. if length trail == places_max then Err PathTooDeep
        else Ok (To place)) (child_among forest who name ms) (Err NotFound))
        (by (child_among forest who name ms) (child_among-given name ms))
      where
        by : (place : Option NodeRef) → IsMade place
            → LeadsToMade
            (option_map_or (λ place. if length trail == places_max then Err PathTooDeep
            else Ok (To place)) place (Err NotFound))
        by None made = tt
        by (Some place) made = by_test (length trail == places_max) PathTooDeep (Ok (To place)) made

    step_among-given : (trail : List NodeRef) (name : List ℕ) (ms : List Member)
        → LeadsToMade (step_among forest who trail name ms)
    step_among-given trail name ms =
        let down = step_down forest who trail name ms in
        let step = if bytes_eq name (codes "..") then Ok Up else down in
        by_test (not (list_any (is_alive forest) ms)) PhaseError
        (if not (list_any (is_alive_dir forest) ms) then Err NotDirectory else step)
        (by_test (not (list_any (is_alive_dir forest) ms)) NotDirectory step
        (by (bytes_eq name (codes ".."))))
      where
        by : (b : Bool) → LeadsToMade (if b then Ok Up else step_down forest who trail name ms)
        by true = tt
        by false = step_down-given trail name ms

    module _ (table : List MountRow) where
      step-given : (trail : List NodeRef) (name : List ℕ)
          → LeadsToMade (step_of forest table who trail name)
      step-given trail name =
          by (step_among forest who trail name (members_of (here trail) table))
          (step_among-given trail name (members_of (here trail) table))
        where
          by : (step : Result Step Fault) → LeadsToMade step
              → LeadsToMade (and_then step (arrived forest table trail))
          by (Err fault) made = tt
          by (Ok step) made = at (is_some (file_of (here (stepped trail step)) table forest))
            where
              at : (b : Bool) → LeadsToMade (if b then Ok step else Err PhaseError)
              at true = made
              at false = tt

      -- the places of a trail that a walk makes of such places
      pub walk-given : (trail : List NodeRef) (names : List (List ℕ))
          → list_all (is_given forest) trail ≡ true
          → IfOk (walk forest table who trail names) (λ t. list_all (is_given forest) t ≡ true)
      walk-given trail [] all = all
      walk-given trail (name ∷ names) all =
          by (step_of forest table who trail name) (step-given trail name)
          (λ t. walk-given t names)
        where
          up : (b : Bool)
              → list_all (is_given forest) (if b then take (length trail - 1) trail else trail)
              ≡ true
          up true = all-take (is_given forest) (length trail - 1) trail all
          up false = all

          by : (step : Result Step Fault) → LeadsToMade step
              → ((t : List NodeRef) → list_all (is_given forest) t ≡ true
              → IfOk (walk forest table who t names) (λ t. list_all (is_given forest) t ≡ true))
              → IfOk (and_then step (λ step. walk forest table who (stepped trail step) names))
              (λ t. list_all (is_given forest) t ≡ true)
          by (Err fault) made rest = tt
          by (Ok Up) made rest = rest (upward trail) (up (nat_lt 1 (length trail)))
          by (Ok (To place)) made rest =
              rest (trail ++ place ∷ [])
              (all-append (is_given forest) trail (place ∷ []) all
              (all-cons (is_given forest) place [] made refl))

-- the last place of a trail, or the root place, which stands for the last of no places
pub here-given : (forest : List Server) (trail : List NodeRef) → is_given forest (record {
  server = 0;
  number = 0;
}) ≡ true → list_all (is_given forest) trail ≡ true → is_given forest (here trail) ≡ true
here-given forest trail root all =
    all-index_or (is_given forest) trail (length trail - 1) (record { server = 0; number = 0 }) all
    root
