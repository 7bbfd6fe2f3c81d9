-- The words of a line mean what its fields ask for.
use Rattle.std.proofs.Common.{◌≡◌, ℕ, true, false, List, [], ◌∷◌, length, Result}
use Rattle.std.proofs.Common.{Ok, refl, ap}
use Rattle.std.specs.Prelude.{IsTrue, codes, nat_lt}
use Rattle.std.specs.List.{AllByRecursion}
use Rattle.std.proofs.lemmas.Bool.{and_from, and_parts}
use Rattle.p9_base.specs.Line.{is_skipped}
use Rattle.p9_base.specs.Results.{and_then, need, obtain}
use Rattle.p9_base.specs.User.{is_user}
use Rattle.p9_clean.specs.Path.{path_of}
use Rattle.p9_tree.specs.Forest.{server_at, tree_changed_at}
use Rattle.p9_tree.specs.Server.{Server as ServerTree}
use Rattle.p9_world.specs.declared.error.LineFault.{LineFault}
use Rattle.p9_world.specs.declared.error.LineFault.TheVariants.{NoServer}
use Rattle.p9_world.specs.declared.line.WorldLine.{WorldLine}
use Rattle.p9_world.specs.declared.line.WorldLine.TheVariants.{Server, Dir, File, User, Group, Hide}
use Rattle.p9_world.specs.declared.line.DirLine.{DirLine}
use Rattle.p9_world.specs.declared.line.FileLine.{FileLine}
use Rattle.p9_world.specs.Change.{IsLine, line_change, with_file}
use Rattle.p9_world.specs.Entry.{are_users, dir_line, file_line, in_last_server, last_number}
use Rattle.p9_world.specs.Entry.{with_dir}
use Rattle.p9_world.specs.Path.{last_and_rest}
use Rattle.p9_world.specs.Read.{line_meaning}
use Rattle.p9_world.specs.Text.{bytes_word, file_mode_word, line_words, permissions_word}
use Rattle.p9_world.specs.Word.{is_plain, is_plain_user}
use Rattle.p9_world.specs.World.{World}
use Rattle.p9_world.proofs.Digits.{IsWord-bytes, bytes_in-bytes_word}
use Rattle.p9_world.proofs.Modes.{IsWord-file_mode, IsWord-permissions, file_mode_in-file_mode_word}
use Rattle.p9_world.proofs.Modes.{permissions_in-permissions_word}
use Rattle.p9_world.proofs.Paths.{IsWord-path, names_of-path_of}
use Rattle.p9_world.proofs.Words.{IsPlain-from_test, IsWord, IsWord-server, IsWord-user}

-- Words.

users-words : (users : List (List ℕ)) → AllByRecursion (λ user. IsTrue (is_plain_user user)) users
    → AllByRecursion IsWord users
users-words [] all = tt
users-words (user ∷ users) all = (IsWord-user user all.0, users-words users all.1)

-- the first words of lines
verb : (word : List ℕ) → nat_lt 0 (length word) ≡ true → is_plain word ≡ true → IsWord word
verb word some plain = record { some = some; plain = IsPlain-from_test word plain }

-- each of a line's words is one
pub line-words : (line : WorldLine) → IsLine line → AllByRecursion IsWord (line_words line)
line-words (Server name) sound =
    (verb (codes "server") refl refl, (IsWord-server name sound, tt))
line-words (Dir dir) sound = (
  verb (codes "dir") refl refl,
  (
    IsWord-path dir.path.now sound.0,
    (
      IsWord-permissions dir.permissions,
      (IsWord-user dir.uid sound.1, (IsWord-user dir.gid sound.2, tt)),
    ),
  ),
)
line-words (File file) sound = (
  verb (codes "file") refl refl,
  (
    IsWord-path file.path.now sound.0,
    (
      IsWord-file_mode file.flags file.permissions,
      (
        IsWord-user file.uid sound.1,
        (IsWord-user file.gid sound.2, (IsWord-bytes file.bytes.now, tt)),
      ),
    ),
  ),
)
line-words (User name) sound = (verb (codes "user") refl refl, (IsWord-user name sound, tt))
line-words (Group group) sound = (
  verb (codes "group") refl refl,
  (
    IsWord-user group.name sound.0,
    (IsWord-user group.leader sound.1, users-words group.members.now sound.2),
  ),
)
line-words (Hide hide) sound = (
  verb (codes "hide") refl refl,
  (IsWord-server hide.server sound.0, (IsWord-path hide.path.now sound.1, tt)),
)

-- no line is a comment
pub line-said : (line : WorldLine) → is_skipped (line_words line) ≡ false
line-said (Server name) = refl
line-said (Dir dir) = refl
line-said (File file) = refl
line-said (User name) = refl
line-said (Group group) = refl
line-said (Hide hide) = refl

-- Meanings.

plain-users : (uid gid : List ℕ) → IsTrue (is_plain_user uid) → IsTrue (is_plain_user gid)
    → are_users uid gid ≡ true
plain-users uid gid first second =
    and_from _ _ (and_parts (is_user uid) (is_plain uid) first).0
    (and_parts (is_user gid) (is_plain gid) second).0

-- the last server is changed alike by what makes the same of it
same-in_last_server : (f g : ServerTree → Result ServerTree LineFault) (w : World)
    → f (server_at (last_number w) w.forest) ≡ g (server_at (last_number w) w.forest)
    → in_last_server f w ≡ in_last_server g w
same-in_last_server f g w same =
    ap (λ changed. need (nat_lt 0 (length w.forest)) NoServer (
    and_then changed (λ server.
    Ok (record w { forest = tree_changed_at (last_number w) (λ old. server) w.forest })))) same

dir-meaning : (dir : DirLine) → IsLine (Dir dir) → (server : ServerTree)
    → dir_line (path_of true dir.path.now) (permissions_word dir.permissions) dir.uid dir.gid server
    ≡ with_dir (last_and_rest dir.path.now) dir.permissions dir.uid dir.gid server
unfolding need obtain
dir-meaning dir sound server =
    rw (
      names_of-path_of dir.path.now sound.0,
      permissions_in-permissions_word dir.permissions,
      plain-users dir.uid dir.gid sound.1 sound.2,
    ) refl

file-meaning : (file : FileLine) → IsLine (File file) → (server : ServerTree)
    → file_line (path_of true file.path.now) (file_mode_word file.flags file.permissions) file.uid
    file.gid (bytes_word file.bytes.now) server
    ≡ with_file file server
unfolding need obtain
file-meaning file sound server =
    rw (
      names_of-path_of file.path.now sound.0,
      file_mode_in-file_mode_word file.flags file.permissions,
      plain-users file.uid file.gid sound.1 sound.2,
      bytes_in-bytes_word file.bytes.now sound.3,
    ) refl

pub line-meaning : (line : WorldLine) → IsLine line → (w : World)
    → line_meaning (line_words line) w ≡ line_change line w
unfolding obtain
line-meaning (Server name) sound w = refl
line-meaning (Dir dir) sound w =
    same-in_last_server
    (dir_line (path_of true dir.path.now) (permissions_word dir.permissions) dir.uid dir.gid)
    (with_dir (last_and_rest dir.path.now) dir.permissions dir.uid dir.gid) w
    (dir-meaning dir sound (server_at (last_number w) w.forest))
line-meaning (File file) sound w =
    same-in_last_server
    (file_line (path_of true file.path.now) (file_mode_word file.flags file.permissions) file.uid
    file.gid (bytes_word file.bytes.now)) (with_file file) w
    (file-meaning file sound (server_at (last_number w) w.forest))
line-meaning (User name) sound w = refl
line-meaning (Group group) sound w = refl
line-meaning (Hide hide) sound w = rw (names_of-path_of hide.path.now sound.1) refl
