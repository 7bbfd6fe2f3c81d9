-- The files that a namespace file finds were made.
use Rattle.std.proofs.Common.{◌≡◌, ℕ, zero, suc, ◌<◌, ◌≤◌, Bool, true, false, cond, List, [], ◌∷◌}
use Rattle.std.proofs.Common.{Option, Some, None, Result, Ok, Err, length, position, take, refl}
use Rattle.std.proofs.Common.{sym, subst, arith, length-take}
use Rattle.std.specs.Prelude.{if◌then◌else◌, nat_lt, slice_get, unwrap_or}
use Rattle.std.specs.List.{after_first, before_first, list_all, position_or_len}
use Rattle.std.specs.Option.{option_map_or}
use Rattle.std.specs.Result.{IfOk}
use Rattle.std.specs.Str.{bytes_eq}
use Rattle.std.proofs.lemmas.Bool.{lt-ltb}
use Rattle.std.proofs.lemmas.Bool.Decides.{nat_tests}
use Rattle.p9_base.specs.declared.fault.Fault.{Fault}
use Rattle.p9_base.specs.declared.node_ref.NodeRef.{NodeRef}
use Rattle.p9_base.specs.Results.{and_then}
use Rattle.p9_base.specs.Name.{slash, is_slash}
use Rattle.p9_clean.specs.Path.{cleaned_elements, is_rooted}
use Rattle.p9_tree.specs.Node.{Node, is_dir}
use Rattle.p9_tree.specs.Server.{Server, node_at}
use Rattle.p9_tree.specs.Forest.{IsForest, no_server}
use Rattle.p9_tree.proofs.Lookups.{All-node_at, number-node_at}
use Rattle.p9_space.specs.Given.{is_given, is_table_given}
use Rattle.p9_space.specs.Place.{file_ref, root_place}
use Rattle.p9_space.specs.Trail.{here}
use Rattle.p9_space.specs.Walk.{walk}
use Rattle.p9_table.proofs.GivenTables.{file-given}
use Rattle.p9_space.proofs.GivenWalks.{here-given, walk-given}
use Rattle.p9_nsline.specs.declared.fault.OpFault.TheVariants.{UnknownServer}
use Rattle.p9_base.specs.declared.node_ref.TheConstants.{SERVERS_MAX}
use Rattle.p9_nsline.specs.Find.{behind_hash, found, found_at, found_file, found_from}
use Rattle.p9_nsline.specs.Find.{found_on_server, path_fault, server_root, walked_along}
use Rattle.p9_nsline.specs.Flags.{Word}
use Rattle.p9_nsline.specs.Environment.{Environment}
use Rattle.p9_nsline.specs.Space.{Space}
use Rattle.p9_nsline.specs.Variable.{expanded}

-- what comes of a value of which something holds
pub holds-then : {X Y E : Type 0} (P : X → Type 0) (Q : Y → Type 0) (r : Result X E)
    (next : X → Result Y E) → IfOk r P → ((x : X) → P x → IfOk (next x) Q)
    → IfOk (and_then r next) Q
holds-then P Q (Ok x) next holds goes_on = goes_on x holds
holds-then P Q (Err e) next holds goes_on = tt

-- a place within a list
position-within : {X : Type 0} (p : X → Bool) (xs : List X) (i : ℕ) → position p xs ≡ Some i
    → i < length xs
position-within p xs i found = by (nat_lt (position_or_len p xs) (length xs)) refl found
  where
    by : (b : Bool) → nat_lt (position_or_len p xs) (length xs) ≡ b
        → cond b (Some (position_or_len p xs)) None ≡ Some i → i < length xs
    by true within is = let same : position_or_len p xs ≡ i = cc in grind (arith, nat_tests)
    by false past is = let none : None ≡ Some i = is in absurd (cc)

-- a position within a list has a value
get-within : {X : Type 0} (xs : List X) (i : ℕ) → i < length xs
    → (x : X) × (slice_get xs i ≡ Some x)
get-within [] i within = absurd (omega arith)
get-within (x ∷ xs) zero within = (x, refl)
get-within (x ∷ xs) (suc i) within = get-within xs i (omega arith)

module _ (environment : Environment) (sound : IsForest environment.forest) where
  -- each server's root was made
  pub root-given : (k : ℕ) → k < length environment.forest → is_given environment.forest (record {
    server = k;
    number = 0;
  }) ≡ true
  root-given k within =
      let there = get-within environment.forest k within in
      let well = sound.servers k there.0 there.1 in
      let below : 0 < there.0.next =
      by there.0 (node_at 0 there.0.nodes) refl well.root
      (λ n found. (
        number-node_at 0 there.0.nodes n found,
        All-node_at (λ m. m.number < there.0.next) 0
            there.0.nodes n well.below found,
      )) in
      subst (λ s. nat_lt 0 (unwrap_or s no_server).next ≡ true) (sym there.1)
      (lt-ltb 0 there.0.next below)
    where
      by : (s : Server) (node : Option Node) → node_at 0 s.nodes ≡ node
          → option_map_or is_dir node false ≡ true
          → ((n : Node) → node_at 0 s.nodes ≡ Some n → (n.number ≡ 0) × (n.number < s.next))
          → 0 < s.next
      by s None e dir its = let none : false ≡ true = dir in absurd (cc)
      by s (Some n) e dir its =
          let both = its n e in let zero_is = both.0 in let lt = both.1 in omega arith

  module _ (some : 0 < length environment.forest)
      (named : length environment.servers ≤ length environment.forest) where
    pub server_root-given : (name : Word)
        → IfOk (server_root environment.servers name) (λ root. is_given environment.forest root ≡ true)
    server_root-given name =
        by (position (λ server. bytes_eq server name) (take SERVERS_MAX environment.servers)) refl
      where
        by : (number : Option ℕ)
            → position (λ server. bytes_eq server name) (take SERVERS_MAX environment.servers) ≡ number
            → IfOk (option_map_or (λ number. Ok (record { server = number; number = 0 })) number
            (Err UnknownServer)) (λ root. is_given environment.forest root ≡ true)
        by None e = tt
        by (Some k) e =
            let within : k < length (take SERVERS_MAX environment.servers) =
            position-within (λ server. bytes_eq server name) (take SERVERS_MAX environment.servers)
            k e in
            root-given k (omega (arith, length-take SERVERS_MAX environment.servers))

    -- of a name space, what its table and its current directory name was made
    pub record IsSpaceGiven (space : Space) : Type 0 where
      pub table : is_table_given environment.forest space.table ≡ true
      pub current : list_all (is_given environment.forest) space.current ≡ true

    abbrev pub IsTrailGiven : List NodeRef → Type 0
    IsTrailGiven trail = list_all (is_given environment.forest) trail ≡ true

    abbrev pub root_trail-given : IsTrailGiven (root_place ∷ [])
    root_trail-given = rw (root-given 0 some) refl

    pub last-given : (trail : List NodeRef) → IsTrailGiven trail
        → is_given environment.forest (here trail) ≡ true
    last-given trail all = here-given environment.forest trail (root-given 0 some) all

    module _ (space : Space) (made : IsSpaceGiven space) where
      walked-given : (start : List NodeRef) (path : Word) → IsTrailGiven start
          → IfOk (walked_along environment space start path) IsTrailGiven
      walked-given start path all =
          by (walk environment.forest space.table None start (cleaned_elements path))
          (walk-given environment.forest sound None space.table start (cleaned_elements path) all)
        where
          by : (trail : Result (List NodeRef) Fault) → IfOk trail IsTrailGiven
              → IfOk (path_fault trail) IsTrailGiven
          by (Ok trail) all = all
          by (Err fault) all = tt

      found_from-given : (path : Word) → IfOk (found_from environment space path) IsTrailGiven
      found_from-given path =
          walked-given (if is_rooted path then root_place ∷ [] else space.current) path
          (by (is_rooted path))
        where
          by : (b : Bool) → IsTrailGiven (if b then root_place ∷ [] else space.current)
          by true = root_trail-given
          by false = made.current

      found_on_server-given : (path : Word) → IfOk (found_on_server environment space path) IsTrailGiven
      found_on_server-given path =
          holds-then (λ root. is_given environment.forest root ≡ true) IsTrailGiven
          (server_root environment.servers (before_first is_slash path))
          (λ root. walked_along environment space (root ∷ []) (slash ∷ after_first is_slash path))
          (server_root-given (before_first is_slash path))
          (λ root is. walked-given (root ∷ []) (slash ∷ after_first is_slash path) (rw is refl))

      pub found-given : (word : Word) → IfOk (found environment space word) IsTrailGiven
      found-given word = by (expanded environment.vars word)
        where
          by : (path : Word) → IfOk (found_at environment space path) IsTrailGiven
          by path = at (behind_hash path)
            where
              at : (rest : Option Word)
                  → IfOk (option_map_or (found_on_server environment space) rest
                  (found_from environment space path)) IsTrailGiven
              at None = found_from-given path
              at (Some rest) = found_on_server-given rest

      pub found_file-given : (word : Word)
          → IfOk (found_file environment space word) (λ file. is_given environment.forest file ≡ true)
      found_file-given word =
          holds-then IsTrailGiven (λ file. is_given environment.forest file ≡ true)
          (found environment space word) (λ trail. Ok (file_ref (here trail) space.table))
          (found-given word)
          (λ trail all. file-given environment.forest space.table made.table (here trail)
          (last-given trail all))
