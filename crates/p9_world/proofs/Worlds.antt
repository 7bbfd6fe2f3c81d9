-- What keeps a world's trees, names and hidden numbers together.
use Rattle.std.proofs.Common.{◌≡◌, ◌≢◌, ℕ, zero, suc, ◌-◌, ◌<◌, ◌≤◌, Bool, true, false}
use Rattle.std.proofs.Common.{List, [], ◌∷◌, ◌++◌, length, get_or, set, Option, Some, None, refl}
use Rattle.std.proofs.Common.{sym, ap, ◌∙◌, subst, arith, length-append, is_some, get_or-set_same}
use Rattle.std.proofs.Common.{All, map, nat_lt, string_bytes, Result, Ok, Err}
use Rattle.std.specs.declared.string.String.{String}
use Rattle.std.specs.List.{list_all, position_or_len}
use Rattle.std.specs.Str.{bytes_eq}
use Rattle.std.proofs.lemmas.Bool.{lt-ltb, ltb-true}
use Rattle.std.proofs.lemmas.Bool.Decides.{nat_tests}
use Rattle.std.proofs.lemmas.Slice.Eq.{bytes_eq-Decides}
use Rattle.std.proofs.lemmas.List.{length-set, length-map}
use Rattle.std.proofs.lemmas.List.Elements.{All-weaker}
use Rattle.std.proofs.lemmas.List.Quantifiers.{all_pairs_push, position-Some}
use Rattle.std.proofs.lemmas.List.Sums.{AllPass-from_list_all, fails_before_first}
use Rattle.p9_base.specs.Group.{GroupRow}
use Rattle.p9_base.specs.declared.node_ref.NodeRef.{NodeRef}
use Rattle.p9_base.specs.NodeRef.{servers_max}
use Rattle.p9_base.specs.Results.{obtain, need}
use Rattle.p9_tree.specs.Node.{Node}
use Rattle.p9_tree.specs.Server.{Server, WellFormed, is_dir_at, node_at, rooted}
use Rattle.p9_tree.proofs.ForestLemmas.{map-tree_changed_at, server_at-map}
use Rattle.p9_tree.proofs.Lookups.{All-node_at, number-node_at}
use Rattle.p9_tree.specs.Forest.{next_of, server_at, tree_changed_at}
use Rattle.p9_clean.specs.Path.{Component}
use Rattle.p9_world.specs.Server.{is_server_name, server_line, server_number, with_server}
use Rattle.p9_world.specs.World.{World, IsWorld, world_view}
use Rattle.p9_world.specs.Entry.{in_last_server, last_number}
use Rattle.p9_world.specs.Hide.{hide_line, with_hidden}
use Rattle.p9_world.specs.LastDir.{IsWhereNamesLead}
use Rattle.p9_world.specs.Meaning.{Makes}
use Rattle.p9_world.specs.Path.{dir_number, dir_of, names_of, number_from}
use Rattle.p9_world.specs.declared.last_dir.LastDir.{LastDir}
use Rattle.p9_world.specs.declared.error.LineFault.{LineFault}
use Rattle.p9_base.specs.declared.stop.Stop.{Stop}
use Rattle.p9_base.specs.declared.stop.Stop.TheVariants.{Refused, NoMemory}

-- where no server has the name, each has another
other_names : (name : List ℕ) (servers : List (List ℕ)) (k : ℕ) (d : List ℕ)
    → is_some (server_number name servers) ≡ false → k < length servers → get_or servers k d ≢ name
other_names name servers k d absent lt same =
    let p : List ℕ → Bool = λ other. bytes_eq other name in
    let passes : p (get_or servers k d) ≡ true =
    (bytes_eq-Decides (get_or servers k d) name).1 same in
    let all : length servers ≤ position_or_len (λ other. bytes_eq other name) servers =
    grind (arith, nat_tests) in
    let fails = fails_before_first (λ other. bytes_eq other name) servers k d (omega arith) in
    cc

-- a server that joins leaves the others' numbers
next_of-joined : (i : ℕ) (forest : List Server) (s : Server)
    → next_of i forest ≤ next_of i (forest ++ s ∷ [])
next_of-joined i [] s = omega arith
next_of-joined zero (x ∷ xs) s = omega arith
next_of-joined (suc i) (x ∷ xs) s = next_of-joined i xs s

-- a server whose next number doesn't fall leaves no number above it
next_of-changed : (i k : ℕ) (forest : List Server) (s : Server) → next_of k forest ≤ s.next
    → next_of i forest ≤ next_of i (tree_changed_at k (λ old. s) forest)
next_of-changed i k [] s le = omega arith
next_of-changed zero zero (x ∷ xs) s le = le
next_of-changed (suc i) zero (x ∷ xs) s le = omega arith
next_of-changed zero (suc k) (x ∷ xs) s le = omega arith
next_of-changed (suc i) (suc k) (x ∷ xs) s le = next_of-changed i k xs s le

-- a server of a new name joins a world
pub IsWorld-with_server : (name : List ℕ) (w : World) → IsWorld w
    → is_some (server_number name w.servers) ≡ false → length w.servers < servers_max
    → IsWorld (with_server name w)
IsWorld-with_server name w ok absent room = record {
  named =
      omega (
        arith,
        ok.named,
        length-append w.servers (name ∷ []),
        length-append w.forest
            (rooted ∷ []),
      );
  few = omega (arith, ok.named, length-append w.forest (rooted ∷ []));
  distinct =
      all_pairs_push (λ a b. a ≢ b) w.servers name ok.distinct
      (λ k d lt. other_names name w.servers k d absent lt);
  below =
      All-weaker (λ r. r.number < next_of r.server w.forest)
      (λ r. r.number < next_of r.server (w.forest ++ rooted ∷ []))
      (λ r h. omega (arith, next_of-joined r.server w.forest rooted)) w.hidden ok.below;
}

-- a line that passes each test
pub server_line-ok : (name : List ℕ) (w : World) → is_server_name name ≡ true
    → is_some (server_number name w.servers) ≡ false → length w.servers < servers_max
    → server_line name w ≡ Ok (with_server name w)
unfolding need
server_line-ok name w valid absent room =
    let test = lt-ltb _ _ room in
    rw (valid, absent, test) refl

-- a world of which one server is changed
abbrev pub with_changed_server : ℕ → Server → World → World
with_changed_server k s w = record w { forest = tree_changed_at k (λ old. s) w.forest }

-- it stays a world where the server's next number doesn't fall
pub IsWorld-changed : (k : ℕ) (s : Server) (w : World) → IsWorld w → next_of k w.forest ≤ s.next
    → IsWorld (with_changed_server k s w)
IsWorld-changed k s w ok le = record {
  named = ok.named ∙ sym (length-set w.forest k s);
  few = omega (arith, ok.few, length-set w.forest k s);
  distinct = ok.distinct;
  below =
      All-weaker (λ r. r.number < next_of r.server w.forest)
      (λ r. r.number < next_of r.server (tree_changed_at k (λ old. s) w.forest))
      (λ r h. omega (arith, next_of-changed r.server k w.forest s le)) w.hidden ok.below;
}

-- a server written over by itself
same_server : (k : ℕ) (forest : List Server)
    → tree_changed_at k (λ old. server_at k forest) forest ≡ forest
same_server k [] = refl
same_server zero (x ∷ xs) = refl
same_server (suc k) (x ∷ xs) = ap (λ rest. x ∷ rest) (same_server k xs)

-- a change of the last server, seen in the world
pub Makes-in_last_server : {D : Type 0} (change : Server → Result Server LineFault) (w : World)
    (s new : Server) (r : Result D (Stop LineFault)) → 0 < length w.forest
    → server_at (last_number w) w.forest ≡ s → Makes (change s) s new r
    → Makes (in_last_server change w) w (with_changed_server (last_number w) new w) r
unfolding need
Makes-in_last_server change w s new (Ok done) some at made =
    let test = lt-ltb 0 (length w.forest) some in
    rw (test, at, made) refl
Makes-in_last_server change w s new (Err (Refused fault)) some at made =
    let test = lt-ltb 0 (length w.forest) some in (
      rw (test, at, made.0) refl,
      ap (λ forest. record w { forest = forest })
          (ap (λ s. tree_changed_at (last_number w) (λ old. s) w.forest) (made.1 ∙ sym at)
          ∙ same_server (last_number w) w.forest),
    )
Makes-in_last_server change w s new (Err NoMemory) some at made =
    ap (λ forest. record w { forest = forest })
    (ap (λ s. tree_changed_at (last_number w) (λ old. s) w.forest) (made ∙ sym at)
    ∙ same_server (last_number w) w.forest)

-- the last of some trees, and a write over it
module _ {T : Type 0} (state : T → Server) (ts : List T) (t u : T) (n : ℕ) (count : n ≡ length ts)
    (some : 0 < length ts) (read : t ≡ get_or ts (n - 1) t) (forest : List Server)
    (seen : map state ts ≡ forest) where
  last_is : n - 1 ≡ length forest - 1
  last_is = rw (← seen) (omega (arith, length-map ts state))

  pub state-last : server_at (length forest - 1) forest ≡ state t
  state-last =
      ap (λ i. server_at i forest) (sym last_is)
      ∙ rw (← seen) (server_at-map state ts (n - 1) t (omega arith) read)

  pub map-last : map state (set ts (n - 1) u)
      ≡ tree_changed_at (length forest - 1) (λ old. state u) forest
  map-last =
      map-tree_changed_at state (λ old. state u) ts (n - 1) t u (omega arith) read refl
      ∙ ap (λ old. tree_changed_at (n - 1) (λ old. state u) old) seen
      ∙ ap (λ i. tree_changed_at i (λ old. state u) forest) last_is

  -- where names lead there, they lead at the last server
  pub led-last : {Z : Type 0} (dir : LastDir Z) → IsWhereNamesLead dir (state u)
      → IsWhereNamesLead dir
      (server_at (length (map state (set ts (n - 1) u)) - 1) (map state (set ts (n - 1) u)))
  led-last dir led =
      let here : n - 1 < length ts = omega arith in
      let written : u ≡ get_or (set ts (n - 1) u) (n - 1) u = rw get_or-set_same refl in
      let last : n - 1 ≡ length (map state (set ts (n - 1) u)) - 1 =
      omega (arith, length-map (set ts (n - 1) u) state, length-set ts (n - 1) u) in
      subst (λ s. IsWhereNamesLead dir s)
      (sym (server_at-map state (set ts (n - 1) u) (n - 1) u
      (omega (arith, length-set ts (n - 1) u)) written)
      ∙ ap (λ i. server_at i (map state (set ts (n - 1) u))) last) led

  module _ {A : Type 0} (users : List (List ℕ)) (groups : List GroupRow) (hidden : List NodeRef)
      (vars : List (String A × String A)) (servers : List (String A)) where
    -- the world with this forest
    abbrev with_forest : List Server → World
    with_forest f = world_view f users groups hidden vars servers

    -- it stays one where the server's next number doesn't fall
    pub IsWorld-last : IsWorld (with_forest forest) → (state t).next ≤ (state u).next
        → IsWorld (with_forest (map state (set ts (n - 1) u)))
    IsWorld-last ok rises =
        let same : next_of (length forest - 1) forest ≡ (state t).next =
        ap (λ (s : Server). s.next) state-last in
        rw map-last
        (IsWorld-changed (length forest - 1) (state u) (with_forest forest) ok (omega arith))

    -- and its line is that of the last server
    pub Makes-last : {D : Type 0} (change : Server → Result Server LineFault)
        (r : Result D (Stop LineFault)) → Makes (change (state t)) (state t) (state u) r →
        Makes (in_last_server change (with_forest forest)) (with_forest forest)
        (with_forest (map state (set ts (n - 1) u))) r
    Makes-last change r made =
        let here : 0 < length forest = rw (← seen) (omega (arith, length-map ts state)) in
        rw map-last
        (Makes-in_last_server change (with_forest forest) (state t) (state u) r here state-last made)

-- the tree of a server that is found by its name
pub server_at-named : {T A : Type 0} (state : T → Server) (name : List ℕ) (trees : List T)
    (forest : List Server) → map state trees ≡ forest
    → (servers : List (String A)) (k : ℕ) (t : T)
    → length (map string_bytes servers) ≡ length forest
    → server_number name (map string_bytes servers) ≡ Some k
    → t ≡ get_or trees k t → server_at k forest ≡ state t
server_at-named state name trees forest seen servers k t named at read =
    let few : k < length (map string_bytes servers) =
    (position-Some (λ other. bytes_eq other name) (map string_bytes servers) k [] at).0 in
    rw (← seen)
    (server_at-map state trees k t (omega (arith, ap length seen, length-map trees state)) read)

-- the directory that some names lead to has a number of its server
pub dir_of-below : (names : List Component) (s : Server) (k : ℕ) → WellFormed s
    → Some k ≡ dir_of names s → k < s.next
dir_of-below names s k well found = go (number_from 0 names s.nodes) refl
  where
    node : (j : ℕ) (o : Option Node) → node_at j s.nodes ≡ o → is_dir_at j s.nodes ≡ true
        → j < s.next
    node j None e dir = absurd (grind (arith))
    node j (Some m) e dir =
        let below : m.number < s.next =
        All-node_at (λ m. m.number < s.next) j s.nodes m well.below e in
        let same : m.number ≡ j = number-node_at j s.nodes m e in
        omega arith

    test : (j : ℕ) (b : Bool) → is_dir_at j s.nodes ≡ b → dir_number s.nodes j ≡ Some k → k < s.next
    test j true e at =
        let same : j ≡ k = grind (arith) in
        subst (λ i. i < s.next) same (node j (node_at j s.nodes) refl e)
    test j false e at = absurd (grind (arith))

    go : (o : Option ℕ) → number_from 0 names s.nodes ≡ o → k < s.next
    go None e = absurd (let none : Some k ≡ None = rw e at found in cc)
    go (Some j) e = test j (is_dir_at j s.nodes) refl (sym (rw e at found))

-- the line of a directory that is found
pub hide_line-found : (server path : List ℕ) (w : World) (number dir : ℕ) (names : List Component)
    → server_number server w.servers ≡ Some number → names_of path ≡ Some names
    → Some dir ≡ dir_of names (server_at number w.forest)
    → hide_line server path w ≡ with_hidden (record { server = number; number = dir }) w
unfolding obtain
hide_line-found server path w number dir names at_server at_path at_dir =
    rw (at_server, at_path, ← at_dir) refl

-- nodes that were tested were made
pub all_made : (forest : List Server) (refs : List NodeRef)
    → list_all (λ r. nat_lt r.number (next_of r.server forest)) refs ≡ true
    → All (λ r. r.number < next_of r.server forest) refs
all_made forest refs test =
    All-weaker (λ r. nat_lt r.number (next_of r.server forest) ≡ true)
    (λ r. r.number < next_of r.server forest) (λ r h. ltb-true _ _ h) refs
    (AllPass-from_list_all (λ r. nat_lt r.number (next_of r.server forest)) refs test)
