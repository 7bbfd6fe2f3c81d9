-- The world of a text is well-formed.
use Rattle.std.proofs.Common.{◌≡◌, ℕ, zero, suc, ◌<◌, ◌≤◌, Bool, true, false, List, [], ◌∷◌}
use Rattle.std.proofs.Common.{◌++◌, length, Option, Some, None, Result, Ok, Err, IsTrue, is_some}
use Rattle.std.proofs.Common.{slice_get, refl, sym, ap, ◌∙◌, subst, arith}
use Rattle.std.specs.Prelude.{codes, not, nat_le, nat_lt, if◌then◌else◌}
use Rattle.std.specs.List.{list_all}
use Rattle.std.specs.Option.{option_map_or, option_and_then, option_map}
use Rattle.std.specs.Str.{bytes_eq}
use Rattle.std.proofs.lemmas.Bool.{and_from, and_parts, leb-true, ltb-true}
use Rattle.std.proofs.lemmas.List.Folds.{list_all-append}
use Rattle.std.proofs.lemmas.List.Quantifiers.{position-Some}
use Rattle.std.proofs.lemmas.Option.{same_Some}
use Rattle.std.proofs.lemmas.Slice.Eq.{bytes_eq-Decides}
use Rattle.p9_base.specs.Group.{are_groups}
use Rattle.p9_base.specs.Mode.{is_dir as is_dir_mode}
use Rattle.p9_base.specs.Name.{is_name}
use Rattle.p9_base.specs.NodeRef.{servers_max}
use Rattle.p9_base.specs.Results.{obtain, try_fold}
use Rattle.p9_base.specs.Statement.{statements_of}
use Rattle.p9_base.specs.User.{is_user}
use Rattle.p9_base.specs.declared.mode.FileFlags.{FileFlags}
use Rattle.p9_base.specs.declared.mode.Kind.TheVariants.{File}
use Rattle.p9_base.specs.declared.mode.Mode.{Mode}
use Rattle.p9_base.specs.declared.mode.Permissions.{Permissions}
use Rattle.p9_base.specs.declared.node_ref.NodeRef.{NodeRef}
use Rattle.p9_base.proofs.GroupNames.{groups-listed}
use Rattle.p9_clean.specs.Path.{Component, cleaned_elements, is_rooted}
use Rattle.p9_tree.specs.Bytes.{file_max}
use Rattle.p9_tree.specs.Forest.{IsForest, server_at, tree_changed_at}
use Rattle.p9_tree.specs.Node.{IsTellable, Node, is_dir, with_owner}
use Rattle.p9_tree.specs.Server.{CanAdd, Server, WellFormed, added, child_of, is_dir_at, next_max}
use Rattle.p9_tree.specs.Server.{node_at, rooted, with_changed}
use Rattle.p9_tree.proofs.Added.{WellFormed-added}
use Rattle.p9_tree.proofs.Changed.{KeepsSound, WellFormed-changed, keeps-with_owner}
use Rattle.p9_tree.proofs.Changed.{sound-with_owner}
use Rattle.p9_tree.proofs.Rooted.{WellFormed-rooted}
use Rattle.p9_world.specs.declared.error.LineFault.{LineFault}
use Rattle.p9_world.specs.Entry.{NewNode, are_users, bytes_in, dir_line, file_line, in_last_server}
use Rattle.p9_world.specs.Entry.{last_number, node_of_line, with_dir, with_entry}
use Rattle.p9_world.specs.Group.{are_distinct, group_line}
use Rattle.p9_world.specs.Hide.{hide_line, is_hidden_by}
use Rattle.p9_world.specs.Mode.{dir_mode, file_mode_in, permissions_in}
use Rattle.p9_world.specs.Path.{dir_number, dir_of, last_and_rest, names_among, names_of}
use Rattle.p9_world.specs.Path.{number_from}
use Rattle.p9_world.specs.Read.{at_line, line_meaning, operation_of, read_statement}
use Rattle.p9_world.specs.Read.{world_of}
use Rattle.p9_world.specs.Server.{is_server_name, server_line, server_number, with_server}
use Rattle.p9_world.specs.User.{user_line}
use Rattle.p9_world.specs.Variable.{set_line}
use Rattle.p9_world.specs.World.{IsWorld, World, empty_world}
use Rattle.p9_world.proofs.Readers.{IsWorld-empty, IsWorld-hidden}
use Rattle.p9_world.proofs.Worlds.{IsWorld-changed, IsWorld-with_server, dir_of-below}
use Rattle.p9_world.proofs.Worlds.{with_changed_server}
use Rattle.p9_input_laws.proofs.Results.{and_then-ok, is-none, need-ok, not-passed, obtain-ok}
use Rattle.p9_input_laws.proofs.Results.{same-ok}

-- a world with its trees, its users and its groups
pub record IsRead (w : World) : Type 0 where
  pub world : IsWorld w
  pub forest : IsForest w.forest
  pub users : list_all is_user w.users ≡ true
  pub groups : are_groups w.groups ≡ true

-- Servers of a forest.

-- each is well-formed
abbrev AreWellFormed : List Server → Type 0
AreWellFormed forest = (k : ℕ) (s : Server) → slice_get forest k ≡ Some s → WellFormed s

-- one joins after the others
joined : (forest : List Server) (new : Server) → AreWellFormed forest → WellFormed new
    → AreWellFormed (forest ++ new ∷ [])
joined [] new each fine zero s at = let same : new ≡ s = cc in subst WellFormed same fine
joined [] new each fine (suc k) s at = absurd (cc)
joined (x ∷ xs) new each fine zero s at = each zero s at
joined (x ∷ xs) new each fine (suc k) s at = joined xs new (λ j. each (suc j)) fine k s at

-- one is written over
written : (i : ℕ) (forest : List Server) (new : Server) → AreWellFormed forest → WellFormed new
    → AreWellFormed (tree_changed_at i (λ old. new) forest)
written i [] new each fine k s at = absurd (cc)
written zero (x ∷ xs) new each fine zero s at =
    let same : new ≡ s = cc in subst WellFormed same fine
written zero (x ∷ xs) new each fine (suc k) s at = each (suc k) s at
written (suc i) (x ∷ xs) new each fine zero s at = each zero s at
written (suc i) (x ∷ xs) new each fine (suc k) s at =
    written i xs new (λ j. each (suc j)) fine k s at

-- one that is there
there : (k : ℕ) (forest : List Server) → AreWellFormed forest → k < length forest
    → WellFormed (server_at k forest)
there k [] each within = absurd (omega arith)
there zero (x ∷ xs) each within = each zero x refl
there (suc k) (x ∷ xs) each within = there k xs (λ j. each (suc j)) (omega arith)

-- A line 'server'.

server-read : (name : List ℕ) (w new : World) → IsRead w → server_line name w ≡ Ok new → IsRead new
server-read name w new ok is =
    let a = need-ok (is_server_name name) _ _ new is in
    let b = need-ok (not (is_some (server_number name w.servers))) _ _ new a.1 in
    let c = need-ok (nat_lt (length w.servers) servers_max) _ _ new b.1 in
    let world : IsWorld (with_server name w) =
    IsWorld-with_server name w ok.world (not-passed (is_some (server_number name w.servers)) b.0)
    (ltb-true (length w.servers) servers_max c.0) in
    subst IsRead (same-ok (with_server name w) new c.1) (record {
      world = world;
      forest = record {
        few = world.few;
        servers = joined w.forest rooted ok.forest.servers WellFormed-rooted;
      };
      users = ok.users;
      groups = ok.groups;
    })

-- Lines 'dir' and 'file'.

-- a server that stays well-formed, and gives no number again
record IsKept (old new : Server) : Type 0 where
  well : WellFormed new
  next : old.next ≤ new.next

-- the last of some names is one
last-name : (names : List Component) (place : Component × List Component)
    → list_all is_name names ≡ true → last_and_rest names ≡ Some place → is_name place.0 ≡ true
last-name [] place all last = absurd (cc)
last-name (name ∷ names) place all last =
    by (last_and_rest names) refl (last-name names) last
  where
    by : (o : Option (Component × List Component)) → last_and_rest names ≡ o
        → ((place : Component × List Component) → list_all is_name names ≡ true
        → last_and_rest names ≡ Some place → is_name place.0 ≡ true)
        → Some (option_map_or (λ place. (place.0, name ∷ place.1)) o (name, [])) ≡ Some place
        → is_name place.0 ≡ true
    by None e later is =
        let same : name ≡ place.0 = cc in
        subst (λ n. is_name n ≡ true) same
        (and_parts (is_name name) (list_all is_name names) all).0
    by (Some further) e later is =
        let same : further.0 ≡ place.0 = cc in
        subst (λ n. is_name n ≡ true) same
        (later further (and_parts (is_name name) (list_all is_name names) all).1 e)

-- the names of a path are names
names-are : (path : List ℕ) (names : List Component) → names_of path ≡ Some names
    → list_all is_name names ≡ true
names-are path names is = by (is_rooted path) is
  where
    all : (b : Bool) (elements : List Component) → list_all is_name elements ≡ b
        → (if b then Some elements else None) ≡ Some names → list_all is_name names ≡ true
    all true elements e same =
        let one : elements ≡ names = cc in subst (λ xs. list_all is_name xs ≡ true) one e
    all false elements e same = absurd (cc)

    by : (b : Bool)
        → (if b then names_among (cleaned_elements path) else None) ≡ Some names
        → list_all is_name names ≡ true
    by true same =
        all (list_all is_name (cleaned_elements path)) (cleaned_elements path) refl same
    by false same = absurd (cc)

-- a directory that names lead to is one
is-dir : (names : List Component) (s : Server) (dir : ℕ) → dir_of names s ≡ Some dir
    → is_dir_at dir s.nodes ≡ true
is-dir names s dir is = by (number_from 0 names s.nodes) is
  where
    at : (number : ℕ) (b : Bool) → is_dir_at number s.nodes ≡ b
        → (if b then Some number else None) ≡ Some dir → is_dir_at dir s.nodes ≡ true
    at number true e same =
        let one : number ≡ dir = cc in subst (λ k. is_dir_at k s.nodes ≡ true) one e
    at number false e same = absurd (cc)

    by : (o : Option ℕ) → option_and_then (dir_number s.nodes) o ≡ Some dir
        → is_dir_at dir s.nodes ≡ true
    by None same = absurd (cc)
    by (Some number) same = at number (is_dir_at number s.nodes) refl same

-- an owner and a group that are users
record AreUsers (uid gid : List ℕ) : Type 0 where
  owner : is_user uid ≡ true
  group : is_user gid ≡ true

users-are : (uid gid : List ℕ) → are_users uid gid ≡ true → AreUsers uid gid
users-are uid gid all =
    let parts = and_parts (is_user uid) (is_user gid) all in
    record { owner = parts.0; group = parts.1 }

entry-kept : (name : Component) (names : List Component) (entry : NewNode) (s new : Server)
    → WellFormed s → is_name name ≡ true → AreUsers entry.uid entry.gid
    → length entry.bytes ≤ file_max → (IsTrue (is_dir_mode entry.mode) → entry.bytes ≡ [])
    → with_entry name names entry s ≡ Ok new → IsKept s new
entry-kept name names entry s new well valid users small empty is =
    let a = obtain-ok (dir_of names s) _ _ new is in
    let b = need-ok (not (is_some (child_of a.0 name s.nodes))) _ _ new a.2 in
    let c = need-ok (nat_lt s.next next_max) _ _ new b.1 in
    let node : Node = node_of_line s.next a.0 name entry in
    let can : CanAdd s a.0 node = record {
      number_left = ltb-true s.next next_max c.0;
      into = is-dir names s a.0 a.1;
      free = is-none (child_of a.0 name s.nodes)
          (not-passed (is_some (child_of a.0 name s.nodes)) b.0);
      small = small;
      empty_dir = empty;
    } in
    let told : IsTellable node =
    ((users.owner, users.group, users.owner), (omega arith, omega arith, omega arith)) in
    subst (IsKept s) (same-ok (added s node) new c.1) (record {
      well = WellFormed-added s a.0 node well can refl refl valid told;
      next = omega arith;
    })

-- the root gets an owner and permissions
root-kept : (permissions : Permissions) (uid gid : List ℕ) (s : Server) → WellFormed s
    → AreUsers uid gid → IsKept s (with_changed 0 (with_owner permissions uid gid) s)
root-kept permissions uid gid s well users =
    let f : Node → Node = with_owner permissions uid gid in record {
      well = WellFormed-changed 0 f (keeps-with_owner permissions uid gid).in_dir s well sound
          (λ n found j p m e in_n in_m same. well.siblings j 0 p m n e found in_m in_n (sym same));
      next = omega arith;
    }
  where
    sound : (n : Node) → node_at 0 s.nodes ≡ Some n → KeepsSound (with_owner permissions uid gid) n
    sound n found =
        let root : IsTrue (is_dir n) = rw found at well.root in
        sound-with_owner permissions uid gid n root
        ((users.owner, users.group, users.owner), (well.sound 0 n found).tellable.1)

dir-kept : (path mode uid gid : List ℕ) (s new : Server) → WellFormed s
    → dir_line path mode uid gid s ≡ Ok new → IsKept s new
dir-kept path mode uid gid s new well is =
    let a = obtain-ok (names_of path) _ _ new is in
    let b = obtain-ok (permissions_in mode) _ _ new a.2 in
    let c = need-ok (are_users uid gid) _ _ new b.2 in
    let users = users-are uid gid c.0 in
    by a.0 (last_and_rest a.0) refl (names-are path a.0 a.1) b.0 users c.1
  where
    by : (names : List Component) (place : Option (Component × List Component))
        → last_and_rest names ≡ place → list_all is_name names ≡ true → (permissions : Permissions)
        → AreUsers uid gid → with_dir place permissions uid gid s ≡ Ok new → IsKept s new
    by names None e all permissions users same =
        subst (IsKept s) (same-ok (with_changed 0 (with_owner permissions uid gid) s) new same)
        (root-kept permissions uid gid s well users)
    by names (Some place) e all permissions users same =
        entry-kept place.0 place.1 (record {
          mode = dir_mode permissions;
          uid = uid;
          gid = gid;
          bytes = [];
        }) s new well (last-name names place all e) users (omega arith) (λ d. refl) same

-- a file's mode is no directory's
file-mode : (word : List ℕ) (mode : Mode) → file_mode_in word ≡ Some mode
    → is_dir_mode mode ≡ false
file-mode word mode is = by _ _ is
  where
    by : (flags : FileFlags) (o : Option Permissions)
        → option_map (λ (permissions : Permissions). record {
          kind = File flags;
          permissions = permissions;
        }) o ≡ Some mode → is_dir_mode mode ≡ false
    by flags None same = absurd (cc)
    by flags (Some permissions) same =
        subst (λ (m : Mode). is_dir_mode m ≡ false) (same_Some _ mode same) refl

file-kept : (path mode uid gid hex : List ℕ) (s new : Server) → WellFormed s
    → file_line path mode uid gid hex s ≡ Ok new → IsKept s new
file-kept path mode uid gid hex s new well is =
    let a = obtain-ok (names_of path) _ _ new is in
    let b = obtain-ok (last_and_rest a.0) _ _ new a.2 in
    let c = obtain-ok (file_mode_in mode) _ _ new b.2 in
    let d = need-ok (are_users uid gid) _ _ new c.2 in
    let e = obtain-ok (bytes_in hex) _ _ new d.1 in
    let f = need-ok (nat_le (length e.0) file_max) _ _ new e.2 in
    let other = file-mode mode c.0 c.1 in
    entry-kept b.0.0 b.0.1 (record { mode = c.0; uid = uid; gid = gid; bytes = e.0 }) s new well
    (last-name a.0 b.0 (names-are path a.0 a.1) b.1) (users-are uid gid d.0)
    (leb-true (length e.0) file_max f.0)
    (λ dir. absurd (let both : true ≡ false = sym dir ∙ other in cc)) f.1

-- the last server is changed so
last-read : (change : Server → Result Server LineFault)
    → ((s new : Server) → WellFormed s → change s ≡ Ok new → IsKept s new) → (w new : World)
    → IsRead w → in_last_server change w ≡ Ok new → IsRead new
last-read change keeps w new ok is =
    let a = need-ok (nat_lt 0 (length w.forest)) _ _ new is in
    let b = and_then-ok (change (server_at (last_number w) w.forest)) _ new a.1 in
    let some = ltb-true 0 (length w.forest) a.0 in
    let old = there (last_number w) w.forest ok.forest.servers (omega arith) in
    let kept = keeps (server_at (last_number w) w.forest) b.0 old b.1 in
    let world : IsWorld (with_changed_server (last_number w) b.0 w) =
    IsWorld-changed (last_number w) b.0 w ok.world kept.next in
    subst IsRead (same-ok (with_changed_server (last_number w) b.0 w) new b.2) (record {
      world = world;
      forest = record {
        few = world.few;
        servers = written (last_number w) w.forest b.0 ok.forest.servers kept.well;
      };
      users = ok.users;
      groups = ok.groups;
    })

-- Lines 'user', 'group', 'hide' and 'set'.

user-read : (name : List ℕ) (w new : World) → IsRead w → user_line name w ≡ Ok new → IsRead new
user-read name w new ok is =
    let a = need-ok (is_user name) _ _ new is in
    let b = need-ok _ _ _ new a.1 in
    subst IsRead (same-ok (record w { users = w.users ++ name ∷ [] }) new b.1) (record {
      world = record {
        named = ok.world.named;
        few = ok.world.few;
        distinct = ok.world.distinct;
        below = ok.world.below;
      };
      forest = ok.forest;
      users =
          list_all-append is_user w.users (name ∷ [])
          ∙ and_from (list_all is_user w.users) (list_all is_user (name ∷ [])) ok.users
          (and_from (is_user name) true a.0 refl);
      groups = ok.groups;
    })

group-read : (name leader : List ℕ) (members : List (List ℕ)) (w new : World) → IsRead w
    → group_line name leader members w ≡ Ok new → IsRead new
group-read name leader members w new ok is =
    let a = need-ok (list_all is_user (name ∷ leader ∷ members)) _ _ new is in
    let b = need-ok _ _ _ new a.1 in
    let c = need-ok (are_distinct members) _ _ new b.1 in
    let valid = (and_parts (is_user name) (list_all is_user (leader ∷ members)) a.0).0 in
    subst IsRead (same-ok _ new c.1) (record {
      world = record {
        named = ok.world.named;
        few = ok.world.few;
        distinct = ok.world.distinct;
        below = ok.world.below;
      };
      forest = ok.forest;
      users = ok.users;
      groups =
          groups-listed name (record { leader = leader; members = members }) valid w.groups
          ok.groups;
    })

hide-read : (server path : List ℕ) (w new : World) → IsRead w → hide_line server path w ≡ Ok new
    → IsRead new
hide-read server path w new ok is =
    let a = obtain-ok (server_number server w.servers) _ _ new is in
    let b = obtain-ok (names_of path) _ _ new a.2 in
    let c = obtain-ok (dir_of b.0 (server_at a.0 w.forest)) _ _ new b.2 in
    let node : NodeRef = record { server = a.0; number = c.0 } in
    let d = need-ok (not (is_hidden_by w.hidden node)) _ _ new c.2 in
    let few : a.0 < length w.servers =
    (position-Some (λ other. bytes_eq other server) w.servers a.0 [] a.1).0 in
    let well = there a.0 w.forest ok.forest.servers (omega (arith, ok.world.named)) in
    subst IsRead (same-ok (record w { hidden = w.hidden ++ node ∷ [] }) new d.1) (record {
      world = IsWorld-hidden w node ok.world
          (dir_of-below b.0 (server_at a.0 w.forest) c.0 well (sym c.1));
      forest = ok.forest;
      users = ok.users;
      groups = ok.groups;
    })

set-read : (name value : List ℕ) (w new : World) → IsRead w → set_line name value w ≡ Ok new
    → IsRead new
set-read name value w new ok is =
    let a = need-ok _ _ _ new is in
    let b = need-ok _ _ _ new a.1 in
    subst IsRead (same-ok (record w { vars = w.vars ++ (name, value) ∷ [] }) new b.1) (record {
      world = record {
        named = ok.world.named;
        few = ok.world.few;
        distinct = ok.world.distinct;
        below = ok.world.below;
      };
      forest = ok.forest;
      users = ok.users;
      groups = ok.groups;
    })

-- All lines.

module _ (w new : World) (ok : IsRead w) where
  server-words : (words : List (List ℕ)) → line_meaning (codes "server" ∷ words) w ≡ Ok new
      → IsRead new
  unfolding obtain
  server-words [] is = absurd (cc)
  server-words (name ∷ []) is = server-read name w new ok is
  server-words (name ∷ more ∷ words) is = absurd (cc)

  dir-words : (words : List (List ℕ)) → line_meaning (codes "dir" ∷ words) w ≡ Ok new → IsRead new
  unfolding obtain
  dir-words [] is = absurd (cc)
  dir-words (path ∷ []) is = absurd (cc)
  dir-words (path ∷ mode ∷ []) is = absurd (cc)
  dir-words (path ∷ mode ∷ uid ∷ []) is = absurd (cc)
  dir-words (path ∷ mode ∷ uid ∷ gid ∷ []) is =
      last-read (dir_line path mode uid gid) (dir-kept path mode uid gid) w new ok is
  dir-words (path ∷ mode ∷ uid ∷ gid ∷ more ∷ words) is = absurd (cc)

  file-words : (words : List (List ℕ)) → line_meaning (codes "file" ∷ words) w ≡ Ok new
      → IsRead new
  unfolding obtain
  file-words [] is = absurd (cc)
  file-words (path ∷ []) is = absurd (cc)
  file-words (path ∷ mode ∷ []) is = absurd (cc)
  file-words (path ∷ mode ∷ uid ∷ []) is = absurd (cc)
  file-words (path ∷ mode ∷ uid ∷ gid ∷ []) is = absurd (cc)
  file-words (path ∷ mode ∷ uid ∷ gid ∷ hex ∷ []) is =
      last-read (file_line path mode uid gid hex) (file-kept path mode uid gid hex) w new ok is
  file-words (path ∷ mode ∷ uid ∷ gid ∷ hex ∷ more ∷ words) is = absurd (cc)

  user-words : (words : List (List ℕ)) → line_meaning (codes "user" ∷ words) w ≡ Ok new
      → IsRead new
  unfolding obtain
  user-words [] is = absurd (cc)
  user-words (name ∷ []) is = user-read name w new ok is
  user-words (name ∷ more ∷ words) is = absurd (cc)

  group-words : (words : List (List ℕ)) → line_meaning (codes "group" ∷ words) w ≡ Ok new
      → IsRead new
  unfolding obtain
  group-words [] is = absurd (cc)
  group-words (name ∷ []) is = absurd (cc)
  group-words (name ∷ leader ∷ members) is = group-read name leader members w new ok is

  hide-words : (words : List (List ℕ)) → line_meaning (codes "hide" ∷ words) w ≡ Ok new
      → IsRead new
  unfolding obtain
  hide-words [] is = absurd (cc)
  hide-words (server ∷ []) is = absurd (cc)
  hide-words (server ∷ path ∷ []) is = hide-read server path w new ok is
  hide-words (server ∷ path ∷ more ∷ words) is = absurd (cc)

  set-words : (words : List (List ℕ)) → line_meaning (codes "set" ∷ words) w ≡ Ok new → IsRead new
  unfolding obtain
  set-words [] is = absurd (cc)
  set-words (name ∷ []) is = absurd (cc)
  set-words (name ∷ value ∷ []) is = set-read name value w new ok is
  set-words (name ∷ value ∷ more ∷ words) is = absurd (cc)

  meaning-read : (words : List (List ℕ)) → line_meaning words w ≡ Ok new → IsRead new
  meaning-read [] is = absurd (cc)
  meaning-read (word ∷ words) is =
      by (bytes_eq word (codes "server")) refl (bytes_eq word (codes "dir")) refl
      (bytes_eq word (codes "file")) refl (bytes_eq word (codes "user")) refl
      (bytes_eq word (codes "group")) refl (bytes_eq word (codes "hide")) refl
      (bytes_eq word (codes "set")) refl
    where
      -- the same line, with the word that its first word is
      line : (other : List ℕ) → bytes_eq word other ≡ true
          → line_meaning (other ∷ words) w ≡ Ok new
      line other same =
          subst (λ v. line_meaning (v ∷ words) w ≡ Ok new) ((bytes_eq-Decides word other).0 same) is

      by : (s : Bool) → bytes_eq word (codes "server") ≡ s
          → (d : Bool) → bytes_eq word (codes "dir") ≡ d
          → (f : Bool) → bytes_eq word (codes "file") ≡ f
          → (u : Bool) → bytes_eq word (codes "user") ≡ u
          → (g : Bool) → bytes_eq word (codes "group") ≡ g
          → (h : Bool) → bytes_eq word (codes "hide") ≡ h
          → (v : Bool) → bytes_eq word (codes "set") ≡ v → IsRead new
      by true s d' d f' f u' u g' g h' h v' v = server-words words (line (codes "server") s)
      by false s true d f' f u' u g' g h' h v' v = dir-words words (line (codes "dir") d)
      by false s false d true f u' u g' g h' h v' v = file-words words (line (codes "file") f)
      by false s false d false f true u g' g h' h v' v = user-words words (line (codes "user") u)
      by false s false d false f false u true g h' h v' v =
          group-words words (line (codes "group") g)
      by false s false d false f false u false g true h v' v =
          hide-words words (line (codes "hide") h)
      by false s false d false f false u false g false h true v =
          set-words words (line (codes "set") v)
      by false s false d false f false u false g false h false v =
          let none : operation_of word ≡ None = rw (s, d, f, u, g, h, v) refl in
          let a = obtain-ok (operation_of word) _ _ new is in
          let no : None ≡ Some a.0 = sym none ∙ a.1 in
          absurd (cc)

statement-read : (w new : World) (statement : ℕ × List (List ℕ)) → IsRead w
    → read_statement w statement ≡ Ok new → IsRead new
statement-read w new statement ok is = by (line_meaning statement.1 w) refl is
  where
    by : (r : Result World LineFault) → line_meaning statement.1 w ≡ r
        → at_line statement.0 r ≡ Ok new → IsRead new
    by (Ok made) e same =
        meaning-read w new ok statement.1 (e ∙ ap Ok (same-ok made new same))
    by (Err fault) e same = absurd (cc)

statements-read : (statements : List (ℕ × List (List ℕ))) (w new : World) → IsRead w
    → try_fold read_statement w statements ≡ Ok new → IsRead new
statements-read [] w new ok is = subst IsRead (same-ok w new is) ok
statements-read (statement ∷ statements) w new ok is =
    let a = and_then-ok (read_statement w statement) _ new is in
    statements-read statements a.0 new (statement-read w a.0 statement ok a.1) a.2

empty-read : IsRead empty_world
empty-read = record {
  world = IsWorld-empty;
  forest = record { few = omega arith; servers = λ k s at. absurd (cc) };
  users = refl;
  groups = refl;
}

-- a text makes such a world, and it has a server
pub world-read : (text : List ℕ) (w : World) → world_of text ≡ Ok w
    → IsRead w × (0 < length w.servers)
unfolding world_of
world-read text w is =
    let a = and_then-ok (try_fold read_statement empty_world (statements_of text)) _ w is in
    let b = need-ok (nat_lt 0 (length a.0.servers)) _ _ w a.2 in
    subst (λ v. IsRead v × (0 < length v.servers)) (same-ok a.0 w b.1) (
      statements-read (statements_of text) empty_world a.0 empty-read a.1,
      ltb-true 0 (length a.0.servers) b.0,
    )
