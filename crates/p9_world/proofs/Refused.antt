-- What lines mean that are refused, and the line of a group.
use Rattle.std.proofs.Common.{◌≡◌, ℕ, zero, suc, ◌<◌, Bool, true, false, IsTrue, List, Some, None}
use Rattle.std.proofs.Common.{[], ◌∷◌, ◌++◌, Result, Ok, Err, is_some, length, not, refl, sym, true≢false}
use Rattle.std.proofs.Common.{arith}
use Rattle.std.specs.List.{list_all}
use Rattle.p9_base.specs.Group.{group_of}
use Rattle.p9_base.specs.Results.{need, obtain}
use Rattle.p9_base.specs.User.{is_user}
use Rattle.p9_base.specs.declared.node_ref.NodeRef.{NodeRef}
use Rattle.p9_base.specs.declared.stop.Stop.{Stop}
use Rattle.p9_base.specs.declared.stop.Stop.TheVariants.{Refused, NoMemory}
use Rattle.p9_clean.specs.Path.{Component}
use Rattle.p9_tree.specs.Forest.{server_at}
use Rattle.p9_tree.specs.Server.{Server}
use Rattle.p9_world.specs.declared.error.LineFault.{LineFault}
use Rattle.p9_world.specs.declared.error.LineFault.TheVariants.{BadName, BadPath, BadUser, Duplicate}
use Rattle.p9_world.specs.declared.error.LineFault.TheVariants.{NoParent, NoServer}
use Rattle.p9_world.specs.Entry.{in_last_server}
use Rattle.p9_world.specs.Group.{IsBadUser, are_distinct, group_line}
use Rattle.p9_world.specs.Hide.{hide_line, is_hidden_by, with_hidden}
use Rattle.p9_world.specs.Meaning.{Makes}
use Rattle.p9_world.specs.Path.{dir_of, names_of}
use Rattle.p9_world.specs.Server.{is_server_name, server_line, server_number}
use Rattle.p9_world.specs.World.{World}

-- a test that fails
fails : (b : Bool) → ¬ IsTrue b → b ≡ false
fails true bad = absurd (bad refl)
fails false bad = refl

-- a count that is not positive
pub none-counted : (n : ℕ) → (0 < n → false ≡ true) → n ≡ 0
none-counted zero none = refl
none-counted (suc n) none = absurd (true≢false (sym (none (omega arith))))

-- there is no last server
pub no-last_server : (change : Server → Result Server LineFault) (w : World)
    → length w.forest ≡ 0 → in_last_server change w ≡ Err NoServer
unfolding need
no-last_server change w none = rw none refl

-- a name that no server may have, or that one has
pub server_line-bad : (name : List ℕ) (w : World) → is_server_name name ≡ false
    → server_line name w ≡ Err BadName
unfolding need
server_line-bad name w bad = rw bad refl

pub server_line-again : (name : List ℕ) (w : World) → is_server_name name ≡ true
    → is_some (server_number name w.servers) ≡ true → server_line name w ≡ Err Duplicate
unfolding need
server_line-again name w valid there = rw (valid, there) refl

module _ (server path : List ℕ) (w : World) where
  pub hide_line-no_server : server_number server w.servers ≡ None
      → hide_line server path w ≡ Err NoServer
  unfolding obtain
  hide_line-no_server none = rw none refl

  pub hide_line-bad_path : (number : ℕ) → server_number server w.servers ≡ Some number
      → names_of path ≡ None → hide_line server path w ≡ Err BadPath
  unfolding obtain
  hide_line-bad_path number at none = rw (at, none) refl

  pub hide_line-no_dir : (number : ℕ) (names : List Component)
      → server_number server w.servers ≡ Some number → names_of path ≡ Some names
      → None ≡ dir_of names (server_at number w.forest) → hide_line server path w ≡ Err NoParent
  unfolding obtain
  hide_line-no_dir number names at named none = rw (at, named, ← none) refl

-- a directory that is hidden already, or is not
pub with_hidden-again : (node : NodeRef) (w : World) → not (is_hidden_by w.hidden node) ≡ false
    → with_hidden node w ≡ Err Duplicate
unfolding need
with_hidden-again node w there = rw there refl

pub with_hidden-new : (node : NodeRef) (w : World) → not (is_hidden_by w.hidden node) ≡ true
    → with_hidden node w ≡ Ok (record w { hidden = w.hidden ++ node ∷ [] })
unfolding need
with_hidden-new node w absent = rw absent refl

module _ (name leader : List ℕ) (members : List (List ℕ)) (w : World)
    (valid : is_user name ≡ true) where
  pub group_line-bad_leader : ¬ IsTrue (is_user leader)
      → group_line name leader members w ≡ Err BadUser
  unfolding need
  group_line-bad_leader bad =
      let invalid : is_user leader ≡ false = fails (is_user leader) bad in rw (valid, invalid) refl

  module _ (led : is_user leader ≡ true) where
    pub group_line-bad : (D : Type 0) (stop : Stop LineFault)
        → IsBadUser stop (list_all is_user members)
        → Makes {D = D} (group_line name leader members w) w w (Err stop)
    unfolding need
    group_line-bad D (Refused fault) bad = (rw (valid, led, bad.1, bad.0) refl, refl)
    group_line-bad D NoMemory bad = refl

    module _ (users : list_all is_user members ≡ true) where
      pub group_line-listed : is_some (group_of name w.groups) ≡ true
          → group_line name leader members w ≡ Err Duplicate
      unfolding need
      group_line-listed listed = rw (valid, led, users, listed) refl

      module _ (absent : is_some (group_of name w.groups) ≡ false) where
        pub group_line-twice : are_distinct members ≡ false
            → group_line name leader members w ≡ Err Duplicate
        unfolding need
        group_line-twice twice = rw (valid, led, users, absent, twice) refl
