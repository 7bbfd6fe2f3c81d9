-- A world as far as its text is read, when a line adds to it.
use Rattle.std.proofs.Common.{◌≡◌, ◌<◌, ℕ, true, false, List, [], ◌∷◌, ◌++◌, length, Option}
use Rattle.std.proofs.Common.{Some, None, Ok, Err, is_some, refl, sym, ap, ◌∙◌, arith, cond, rules}
use Rattle.std.proofs.lemmas.Bool.Decides.{nat_tests}
use Rattle.std.proofs.lemmas.Grind.{common_steps}
use Rattle.std.proofs.lemmas.List.{map_push, length-map}
use Rattle.std.proofs.lemmas.List.Folds.{list_any-append}
use Rattle.std.specs.BTreeMap.{is_at}
use Rattle.std.specs.BTreeSet.{BTreeSet, contains}
use Rattle.std.specs.List.{list_any}
use Rattle.std.specs.Str.{bytes_eq}
use Rattle.p9_base.specs.declared.node_ref.NodeRef.{NodeRef}
use Rattle.p9_base.specs.NodeRef.{same_node}
use Rattle.p9_base.specs.Results.{need}
use Rattle.p9_base.specs.User.{is_listed_user, is_user}
use Rattle.p9_base.specs.Variable.{Variable}
use Rattle.p9_base.proofs.Views.{list_any-map}
use Rattle.p9_tree.specs.Forest.{next_of}
use Rattle.p9_world.specs.declared.error.LineFault.TheVariants.{Duplicate}
use Rattle.p9_world.specs.declared.last_dir.LastDir.{LastDir}
use Rattle.p9_world.specs.declared.positions.Positions.{Positions}
use Rattle.p9_world.specs.Positions.{HasSame, Indexes, Places, position_at}
use Rattle.p9_world.specs.Reader.{HasHidden, IsReader, variable_names, node_cmp}
use Rattle.p9_world.specs.User.{user_line}
use Rattle.p9_world.specs.Variable.{is_set, is_variable_name, set_line}
use Rattle.p9_world.specs.World.{IsWorld, World, empty_world}
use Rattle.p9_world.proofs.LastDirs.{led-root}
use Rattle.p9_world.proofs.TextPositions.{Indexes-joined, Indexes-same, is_some-position}

-- a directory that is hidden joins a world
pub IsWorld-hidden : (w : World) (node : NodeRef) → IsWorld w
    → node.number < next_of node.server w.forest
    → IsWorld (record w { hidden = w.hidden ++ node ∷ [] })
IsWorld-hidden w node ok below = record {
  named = ok.named;
  few = ok.few;
  distinct = ok.distinct;
  below = grind (arith, common_steps, ok.below);
}

-- what has no position
pub no-position : (o : Option ℕ) → is_some o ≡ false → o ≡ None
no-position None none = refl
no-position (Some k) none = absurd (let e : true ≡ false = none in cc)

-- a node is at its own place in the order alone
at-node : (a b : NodeRef) → is_at (node_cmp a) b ≡ same_node a b
at-node a b = grind (arith, nat_tests)

module _ {Z : Type 0} (w : World) (users vars servers : Positions Z) (hidden : BTreeSet NodeRef)
    (last_dir : LastDir Z) (reader : IsReader w users vars servers hidden last_dir) where
  -- a user joins
  pub reader-user : (name : List ℕ) (count : ℕ) (new : Positions Z)
      → is_some (position_at users name) ≡ false → count ≡ length w.users
      → Places name count users new
      → IsReader (record w { users = w.users ++ name ∷ [] }) new vars servers hidden
      last_dir
  reader-user name count new absent last places = record {
    world = record {
      named = reader.world.named;
      few = reader.world.few;
      distinct = reader.world.distinct;
      below = reader.world.below;
    };
    users = Indexes-joined w.users name count users new reader.users
        (no-position (position_at users name) absent) last places;
    vars = reader.vars;
    servers = reader.servers;
    hidden = reader.hidden;
    led = reader.led;
  }

  -- a variable joins
  pub reader-variable : (name value : List ℕ) (count : ℕ) (new : Positions Z)
      → is_some (position_at vars name) ≡ false → count ≡ length w.vars
      → Places name count vars new
      → IsReader (record w { vars = w.vars ++ (name, value) ∷ [] }) users new servers
      hidden last_dir
  reader-variable name value count new absent last places = record {
    world = record {
      named = reader.world.named;
      few = reader.world.few;
      distinct = reader.world.distinct;
      below = reader.world.below;
    };
    users = reader.users;
    vars =
        rw (map_push (λ (var : Variable). var.0) w.vars (name, value))
        (Indexes-joined (variable_names w.vars) name count vars new reader.vars
        (no-position (position_at vars name) absent)
        (omega (arith, last, length-map w.vars (λ (var : Variable). var.0))) places);
    servers = reader.servers;
    hidden = reader.hidden;
    led = reader.led;
  }

  -- no index changes what it says
  pub reader-same : (users' vars' servers' : Positions Z) → HasSame users users'
      → HasSame vars vars' → HasSame servers servers' → IsReader w users' vars' servers'
      hidden last_dir
  reader-same users' vars' servers' u v s = record {
    world = reader.world;
    users = Indexes-same w.users users users' reader.users u;
    vars = Indexes-same (variable_names w.vars) vars vars' reader.vars v;
    servers = Indexes-same w.servers servers servers' reader.servers s;
    hidden = reader.hidden;
    led = reader.led;
  }

  -- a user is listed where it has a position
  pub listed-position : (name : List ℕ)
      → is_listed_user w.users name ≡ is_some (position_at users name)
  listed-position name =
      sym (ap is_some (reader.users name)
      ∙ is_some-position (λ other. bytes_eq other name) w.users)

  pub user_line-again : (name : List ℕ) → is_user name ≡ true
      → is_some (position_at users name) ≡ true → user_line name w ≡ Err Duplicate
  unfolding need
  user_line-again name valid there = rw (valid, listed-position name, there) refl

  pub user_line-new : (name : List ℕ) → is_user name ≡ true
      → is_some (position_at users name) ≡ false
      → user_line name w ≡ Ok (record w { users = w.users ++ name ∷ [] })
  unfolding need
  user_line-new name valid absent = rw (valid, listed-position name, absent) refl

  -- a variable is set where it has a position
  pub set-position : (name : List ℕ) → is_set name w.vars ≡ is_some (position_at vars name)
  set-position name =
      list_any-map (λ (var : Variable). var.0) (λ other. bytes_eq other name) w.vars
      ∙ sym (ap is_some (reader.vars name)
      ∙ is_some-position (λ other. bytes_eq other name) (variable_names w.vars))

  pub set_line-again : (name value : List ℕ) → is_variable_name name ≡ true
      → is_some (position_at vars name) ≡ true → set_line name value w ≡ Err Duplicate
  unfolding need
  set_line-again name value valid there = rw (valid, set-position name, there) refl

  pub set_line-new : (name value : List ℕ) → is_variable_name name ≡ true
      → is_some (position_at vars name) ≡ false
      → set_line name value w ≡ Ok (record w { vars = w.vars ++ (name, value) ∷ [] })
  unfolding need
  set_line-new name value valid absent = rw (valid, set-position name, absent) refl

-- a hidden directory joins
pub hidden-joined : (hidden : List NodeRef) (node : NodeRef) (old new : BTreeSet NodeRef)
    → HasHidden old hidden
    → ((q : NodeRef) → contains node_cmp new q
    ≡ cond (is_at (node_cmp node) q) true (contains node_cmp old q))
    → HasHidden new (hidden ++ node ∷ [])
hidden-joined hidden node old new has adds q =
    grind (
      arith,
      nat_tests,
      adds q,
      has q,
      at-node node q,
      list_any-append (λ other. same_node other q) hidden (node ∷ []),
    )

pub IsWorld-empty : IsWorld empty_world
IsWorld-empty = search rules

-- nothing is read yet
pub reader-none : {Z : Type 0} (users vars servers : Positions Z) (hidden : BTreeSet NodeRef)
    (last_dir : LastDir Z) → IsWorld empty_world → Indexes users [] → Indexes vars []
    → Indexes servers [] → hidden.keys ≡ [] → last_dir.names.items ≡ [] → last_dir.number ≡ 0
    → IsReader empty_world users vars servers hidden last_dir
reader-none users vars servers hidden last_dir world u v s none names number = record {
  world = world;
  users = u;
  vars = v;
  servers = s;
  hidden = λ q. ap (list_any (is_at (node_cmp q))) none;
  led = led-root last_dir [] names number;
}
