-- No line has a fault of its words.
use Rattle.std.proofs.Common.{◌≡◌, ℕ, Bool, true, false, List, [], ◌∷◌, Option, Some, None, Result}
use Rattle.std.proofs.Common.{Ok, Err, refl, length}
use Rattle.std.specs.Prelude.{◌&&◌, IfErr, IsTrue, is_some, nat_le, nat_lt, not}
use Rattle.std.specs.List.{AllByRecursion, list_all}
use Rattle.std.proofs.lemmas.Bool.{and_from, and_parts, both_ways}
use Rattle.p9_base.specs.Group.{group_of}
use Rattle.p9_base.specs.NodeRef.{servers_max}
use Rattle.p9_base.specs.Results.{and_then, need, obtain}
use Rattle.p9_base.specs.User.{is_listed_user, is_user}
use Rattle.p9_base.specs.declared.mode.Permissions.{Permissions}
use Rattle.p9_clean.specs.Path.{Component}
use Rattle.p9_tree.specs.Bytes.{file_max}
use Rattle.p9_tree.specs.Forest.{server_at, tree_changed_at}
use Rattle.p9_tree.specs.Server.{Server as ServerTree, child_of, next_max}
use Rattle.p9_world.specs.declared.error.LineFault.{LineFault}
use Rattle.p9_world.specs.declared.error.LineFault.TheVariants.{BadName, BadPath, BadUser, Duplicate}
use Rattle.p9_world.specs.declared.error.LineFault.TheVariants.{NoParent, NoServer, TooLarge}
use Rattle.p9_world.specs.declared.error.LineFault.TheVariants.{TooMany}
use Rattle.p9_world.specs.declared.line.FileLine.{FileLine}
use Rattle.p9_world.specs.declared.line.WorldLine.TheVariants.{Server, Dir, File, User, Group, Hide}
use Rattle.p9_world.specs.Change.{with_file}
use Rattle.p9_world.specs.Entry.{NewNode, in_last_server, last_number, with_dir}
use Rattle.p9_world.specs.Entry.{with_entry}
use Rattle.p9_world.specs.Group.{are_distinct}
use Rattle.p9_world.specs.Hide.{is_hidden_by}
use Rattle.p9_world.specs.Laws.{WordsAreGood, is_word_fault}
use Rattle.p9_world.specs.Path.{dir_of, last_and_rest}
use Rattle.p9_world.specs.Server.{is_server_name, server_number}
use Rattle.p9_world.specs.Word.{is_plain, is_plain_user}
use Rattle.p9_world.specs.World.{World}

-- the only faults are others
HasOthers : {X : Type 0} → Result X LineFault → Type 0
HasOthers made = IfErr made (λ fault. is_word_fault fault ≡ false)

done : {X : Type 0} (x : X) → HasOthers (Ok x)
unfolding HasOthers
done x = tt

-- a test with another fault, and one that passes
tested : {X : Type 0} (test : Bool) (fault : LineFault) (rest : Result X LineFault)
    → is_word_fault fault ≡ false → HasOthers rest → HasOthers (need test fault rest)
unfolding HasOthers need
tested true fault rest other others = others
tested false fault rest other others = other

passed : {X : Type 0} (test : Bool) (fault : LineFault) (rest : Result X LineFault)
    → test ≡ true → HasOthers rest → HasOthers (need test fault rest)
unfolding HasOthers need
passed true fault rest holds others = others
passed false fault rest holds others = absurd (both_ways false refl holds)

found : {X Y : Type 0} (o : Option X) (fault : LineFault) (rest : X → Result Y LineFault)
    → is_word_fault fault ≡ false → ((x : X) → HasOthers (rest x)) → HasOthers (obtain o fault rest)
unfolding HasOthers obtain
found (Some x) fault rest other others = others x
found None fault rest other others = other

then_done : {X Y : Type 0} (made : Result X LineFault) (change : X → Y) → HasOthers made
    → HasOthers (and_then made (λ x. Ok (change x)))
unfolding HasOthers
then_done (Ok x) change others = tt
then_done (Err fault) change others = others

-- Parts of lines.

entry-faults : (name : Component) (names : List Component) (entry : NewNode) (server : ServerTree)
    → HasOthers (with_entry name names entry server)
entry-faults name names entry server =
    found (dir_of names server) NoParent _ refl
    (λ dir. tested (not (is_some (child_of dir name server.nodes))) Duplicate _ refl
    (tested (nat_lt server.next next_max) TooMany _ refl (done _)))

dir-faults : (place : Option (Component × List Component)) (permissions : Permissions)
    (uid gid : List ℕ) (server : ServerTree)
    → HasOthers (with_dir place permissions uid gid server)
dir-faults None permissions uid gid server = done _
dir-faults (Some place) permissions uid gid server = entry-faults place.0 place.1 _ server

file-faults : (file : FileLine) (server : ServerTree) → HasOthers (with_file file server)
file-faults file server =
    found (last_and_rest file.path.now) BadPath _ refl
    (λ place. tested (nat_le (length file.bytes.now) file_max) TooLarge _ refl
    (entry-faults place.0 place.1 _ server))

last-faults : (change : ServerTree → Result ServerTree LineFault) (w : World)
    → HasOthers (change (server_at (last_number w) w.forest)) → HasOthers (in_last_server change w)
last-faults change w others =
    tested (nat_lt 0 (length w.forest)) NoServer _ refl
    (then_done (change (server_at (last_number w) w.forest)) (λ server.
    record w { forest = tree_changed_at (last_number w) (λ old. server) w.forest }) others)

all-users : (users : List (List ℕ)) → AllByRecursion (λ user. IsTrue (is_plain_user user)) users
    → list_all is_user users ≡ true
all-users [] all = refl
all-users (user ∷ users) all =
    and_from _ _ (and_parts (is_user user) (is_plain user) all.0).0 (all-users users all.1)

pub words_are_good : WordsAreGood
unfolding HasOthers
words_are_good (Server name) sound w =
    let both = and_parts (is_user name && is_server_name name) (is_plain name) sound in
    passed (is_server_name name) BadName _ (and_parts (is_user name) (is_server_name name) both.0).1
    (tested (not (is_some (server_number name w.servers))) Duplicate _ refl
    (tested (nat_lt (length w.servers) servers_max) TooMany _ refl tt))
words_are_good (Dir dir) sound w =
    last-faults (with_dir (last_and_rest dir.path.now) dir.permissions dir.uid dir.gid) w
    (dir-faults (last_and_rest dir.path.now) dir.permissions dir.uid dir.gid _)
words_are_good (File file) sound w = last-faults (with_file file) w (file-faults file _)
words_are_good (User name) sound w =
    passed (is_user name) BadUser _ (and_parts (is_user name) (is_plain name) sound).0
    (tested (not (is_listed_user w.users name)) Duplicate _ refl tt)
words_are_good (Group group) sound w =
    passed (list_all is_user (group.name ∷ group.leader ∷ group.members.now)) BadUser _
    (all-users (group.name ∷ group.leader ∷ group.members.now) (sound.0, (sound.1, sound.2)))
    (tested (not (is_some (group_of group.name w.groups))) Duplicate _ refl
    (tested (are_distinct group.members.now) Duplicate _ refl tt))
words_are_good (Hide hide) sound w =
    found (server_number hide.server w.servers) NoServer _ refl
    (λ number. found (dir_of hide.path.now (server_at number w.forest)) NoParent _ refl
    (λ dir. tested (not (is_hidden_by w.hidden (record { server = number; number = dir }))) Duplicate
    _ refl tt))
