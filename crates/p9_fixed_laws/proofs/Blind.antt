-- What two forests that are the same apart from times of last access have in common.
use Rattle.std.proofs.Common.{◌≡◌, ◌∙◌, ℕ, Bool, false, ◌&&◌, List, [], ◌∷◌, Option, Some, None}
use Rattle.std.proofs.Common.{Result, Ok, Err, refl, sym, ap, is_some}
use Rattle.std.specs.Prelude.{option_map}
use Rattle.std.specs.List.{list_any}
use Rattle.std.specs.Option.{option_map_or}
use Rattle.p9_base.proofs.Views.{find-map}
use Rattle.p9_base.specs.NodeRef.{beside}
use Rattle.p9_base.specs.Results.{and_then}
use Rattle.p9_base.specs.declared.fault.Fault.{Fault}
use Rattle.p9_base.specs.declared.node_ref.NodeRef.{NodeRef}
use Rattle.p9_tree.specs.Forest.{child_in, node_of, server_at}
use Rattle.p9_tree.specs.Node.{Node, is_child, is_dir, touched}
use Rattle.p9_tree.specs.Server.{Server, child_of}
use Rattle.p9_tree.specs.Unread.{all_unread}
use Rattle.p9_space.specs.Place.{file_ref}
use Rattle.p9_space.specs.Rights.{Who, may, to_write}
use Rattle.p9_space.specs.Table.{MountRow, members_of}
use Rattle.p9_space.specs.Trail.{here, stepped}
use Rattle.p9_space.specs.Walk.{arrived, child_among, child_ref, is_alive, is_alive_dir, is_searched}
use Rattle.p9_space.specs.Walk.{may_search, step_among, step_down, step_of, walk}
use Rattle.p9_table.specs.declared.row.Member.{Member}
use Rattle.p9_table.specs.declared.trail.Step.{Step}
use Rattle.p9_step.specs.Qid.{qid_at, qid_of}
use Rattle.p9_step.specs.Rights.{may_write_parent}
use Rattle.p9_step.specs.State.{Setting, who_of}
use Rattle.p9_step.specs.Walk.{Arrival, arrival, arrived_by, step_and_rest, trail_after, walked}
use Rattle.p9_fixed_laws.proofs.Unread.{both-unread, nodes-unread}

module _ (f g : List Server) (same : all_unread f ≡ all_unread g) where
  -- what is asked of a look-up that does not tell a time of last access
  pub asked : {X : Type 0} (h : Option Node → X)
      → ((o : Option Node) → h (option_map (touched 0) o) ≡ h o) → (at : NodeRef)
      → h (node_of at f) ≡ h (node_of at g)
  asked h blind at =
      sym (blind (node_of at f)) ∙ ap h (both-unread f g same at) ∙ blind (node_of at g)

  -- the same of a test of the node
  pub tested : (t : Node → Bool) → ((n : Node) → t (touched 0 n) ≡ t n) → (at : NodeRef)
      → option_map_or t (node_of at f) false ≡ option_map_or t (node_of at g) false
  tested t blind at = asked (λ o. option_map_or t o false) go at
    where
      go : (o : Option Node) → option_map_or t (option_map (touched 0) o) false
          ≡ option_map_or t o false
      go None = refl
      go (Some n) = blind n

  -- whether it is there
  pub there-same : (at : NodeRef) → is_some (node_of at f) ≡ is_some (node_of at g)
  there-same at = asked is_some go at
    where
      go : (o : Option Node) → is_some (option_map (touched 0) o) ≡ is_some o
      go None = refl
      go (Some n) = refl

  -- a child, by its name
  child-unread : (forest : List Server) (dir : NodeRef) (name : List ℕ)
      → child_in dir name (all_unread forest) ≡ option_map (touched 0) (child_in dir name forest)
  child-unread forest dir name =
      ap (child_of dir.number name) (nodes-unread dir.server forest)
      ∙ sym (find-map (touched 0) (is_child dir.number name) (server_at dir.server forest).nodes)

  pub child-asked : {X : Type 0} (h : Option Node → X)
      → ((o : Option Node) → h (option_map (touched 0) o) ≡ h o) → (dir : NodeRef)
      (name : List ℕ) → h (child_in dir name f) ≡ h (child_in dir name g)
  child-asked h blind dir name =
      sym (blind (child_in dir name f)) ∙ ap h (sym (child-unread f dir name))
      ∙ ap (λ forest. h (child_in dir name forest)) same ∙ ap h (child-unread g dir name)
      ∙ blind (child_in dir name g)

  child_ref-same : (dir : NodeRef) (name : List ℕ) → child_ref f dir name ≡ child_ref g dir name
  child_ref-same dir name =
      child-asked (option_map (λ n. beside dir n.number)) go dir name
    where
      go : (o : Option Node)
          → option_map (λ n. beside dir n.number) (option_map (touched 0) o)
          ≡ option_map (λ n. beside dir n.number) o
      go None = refl
      go (Some n) = refl

  -- who may write the directory that a node is in
  pub may_write_parent-same : (who : Who) (at : NodeRef) (n : Node)
      → may_write_parent who f at n ≡ may_write_parent who g at n
  may_write_parent-same who at n = go n.parent
    where
      go : (o : Option ℕ)
          → option_map_or (λ parent.
          option_map_or (λ d. may who d to_write) (node_of (beside at parent) f) false) o false
          ≡ option_map_or (λ parent.
          option_map_or (λ d. may who d to_write) (node_of (beside at parent) g) false) o false
      go None = refl
      go (Some p) = tested (λ d. may who d to_write) (λ d. refl) (beside at p)

  -- Members.

  pub alive-same : (ms : List Member) → list_any (is_alive f) ms ≡ list_any (is_alive g) ms
  alive-same [] = refl
  alive-same (m ∷ ms) = rw (there-same m.node, alive-same ms) refl

  pub alive_dir-same : (ms : List Member)
      → list_any (is_alive_dir f) ms ≡ list_any (is_alive_dir g) ms
  alive_dir-same [] = refl
  alive_dir-same (m ∷ ms) = rw (tested is_dir (λ n. refl) m.node, alive_dir-same ms) refl

  module _ (who : Option Who) where
    searched-same : (m : Member) → is_searched f who m ≡ is_searched g who m
    searched-same m = tested (λ n. is_dir n && may_search who n) (λ n. refl) m.node

    any_searched-same : (ms : List Member)
        → list_any (is_searched f who) ms ≡ list_any (is_searched g who) ms
    any_searched-same [] = refl
    any_searched-same (m ∷ ms) = rw (searched-same m, any_searched-same ms) refl

    child_among-same : (name : List ℕ) (ms : List Member)
        → child_among f who name ms ≡ child_among g who name ms
    child_among-same name [] = refl
    child_among-same name (m ∷ ms) =
        rw (searched-same m, child_ref-same m.node name, child_among-same name ms) refl

    step_down-same : (trail : List NodeRef) (name : List ℕ) (ms : List Member)
        → step_down f who trail name ms ≡ step_down g who trail name ms
    step_down-same trail name ms = rw (any_searched-same ms, child_among-same name ms) refl

    step_among-same : (trail : List NodeRef) (name : List ℕ) (ms : List Member)
        → step_among f who trail name ms ≡ step_among g who trail name ms
    step_among-same trail name ms =
        rw (alive-same ms, alive_dir-same ms, step_down-same trail name ms) refl

    module _ (table : List MountRow) where
      arrived-same : (trail : List NodeRef) (r : Result Step Fault)
          → and_then r (arrived f table trail) ≡ and_then r (arrived g table trail)
      arrived-same trail (Err fault) = refl
      arrived-same trail (Ok s) = rw (there-same (file_ref (here (stepped trail s)) table)) refl

      pub step_of-same : (trail : List NodeRef) (name : List ℕ)
          → step_of f table who trail name ≡ step_of g table who trail name
      step_of-same trail name =
          ap (λ r. and_then r (arrived f table trail))
          (step_among-same trail name (members_of (here trail) table))
          ∙ arrived-same trail (step_among g who trail name (members_of (here trail) table))

      -- a walk
      pub walk-same : (trail : List NodeRef) (names : List (List ℕ))
          → walk f table who trail names ≡ walk g table who trail names
      walk-same trail [] = refl
      walk-same trail (name ∷ names) =
          ap (λ r. and_then r (λ s. walk f table who (stepped trail s) names))
          (step_of-same trail name)
          ∙ go (step_of g table who trail name) (λ next. walk-same next names)
        where
          go : (r : Result Step Fault)
              → ((next : List NodeRef) → walk f table who next names ≡ walk g table who next names)
              → and_then r (λ s. walk f table who (stepped trail s) names)
              ≡ and_then r (λ s. walk g table who (stepped trail s) names)
          go (Err fault) later = refl
          go (Ok s) later = later (stepped trail s)

  module _ (setting : Setting) (user : List ℕ) where
    qid_at-same : (place : NodeRef)
        → qid_at setting.table f place ≡ qid_at setting.table g place
    qid_at-same place =
        asked (option_map (qid_of (file_ref place setting.table))) go
        (file_ref place setting.table)
      where
        go : (o : Option Node)
            → option_map (qid_of (file_ref place setting.table)) (option_map (touched 0) o)
            ≡ option_map (qid_of (file_ref place setting.table)) o
        go None = refl
        go (Some n) = refl

    arrival-same : (trail : List NodeRef) (r : Result Step Fault)
        → and_then r (arrival setting f trail) ≡ and_then r (arrival setting g trail)
    arrival-same trail (Err fault) = refl
    arrival-same trail (Ok s) = rw (qid_at-same (here (stepped trail s))) refl

    arrived_by-same : (trail : List NodeRef) (name : List ℕ)
        → arrived_by setting f user trail name ≡ arrived_by setting g user trail name
    arrived_by-same trail name =
        ap (λ r. and_then r (arrival setting f trail))
        (step_of-same (Some (who_of setting user)) setting.table trail name)
        ∙ arrival-same trail (step_of g setting.table (Some (who_of setting user)) trail name)

    -- a walk up to the first refusal
    pub walked-same : (trail : List NodeRef) (names : List (List ℕ))
        → walked setting f user trail names ≡ walked setting g user trail names
    walked-same trail [] = refl
    walked-same trail (name ∷ names) =
        ap (λ r. step_and_rest trail r (walked setting f user (trail_after trail r) names))
        (arrived_by-same trail name)
        ∙ go (arrived_by setting g user trail name) (λ next. walked-same next names)
      where
        go : (r : Result Arrival Fault)
            → ((next : List NodeRef)
            → walked setting f user next names ≡ walked setting g user next names)
            → step_and_rest trail r (walked setting f user (trail_after trail r) names)
            ≡ step_and_rest trail r (walked setting g user (trail_after trail r) names)
        go (Err fault) later = refl
        go (Ok a) later = rw (later a.trail) refl
