-- What lines ask for, by their fields.
use Rattle.std.specs.Prelude.{ℕ, List, Result, length, IsTrue, nat_le}
use Rattle.std.specs.List.{AllByRecursion, enumerate_from}
use Rattle.hex.specs.Hex.{IsBytes}
use Rattle.p9_base.specs.declared.mode.Kind.TheVariants.{File as FileKind}
use Rattle.p9_base.specs.Results.{and_then, need, obtain, try_fold}
use Rattle.p9_tree.specs.Bytes.{file_max}
use Rattle.p9_tree.specs.Forest.{server_at}
use Rattle.p9_tree.specs.Server.{Server as ServerTree}
use Rattle.p9_world.specs.declared.error.LineFault.{LineFault}
use Rattle.p9_world.specs.declared.error.LineFault.TheVariants.{BadPath, NoParent, NoServer}
use Rattle.p9_world.specs.declared.error.LineFault.TheVariants.{TooLarge}
use Rattle.p9_world.specs.declared.line.WorldLine.{WorldLine}
use Rattle.p9_world.specs.declared.line.WorldLine.TheVariants.{Server, Dir, File, User, Group, Hide}
use Rattle.p9_world.specs.declared.line.FileLine.{FileLine}
use Rattle.p9_world.specs.declared.line.HideLine.{HideLine}
use Rattle.p9_world.specs.Entry.{in_last_server, with_dir, with_entry}
use Rattle.p9_world.specs.Group.{group_line}
use Rattle.p9_world.specs.Hide.{with_hidden}
use Rattle.p9_world.specs.Path.{dir_of, last_and_rest}
use Rattle.p9_world.specs.Read.{at_line, with_a_server}
use Rattle.p9_world.specs.Server.{server_line, server_number}
use Rattle.p9_world.specs.User.{user_line}
use Rattle.p9_world.specs.Word.{is_plain_name, is_plain_server, is_plain_user}
use Rattle.p9_world.specs.World.{World, empty_world}

-- What the types of a line's fields say.

abbrev pub ArePlainNames : List (List ℕ) → Type 0
ArePlainNames names = AllByRecursion (λ name. IsTrue (is_plain_name name)) names

abbrev pub IsLine : WorldLine → Type 0
IsLine (Server name) = IsTrue (is_plain_server name)
IsLine (Dir dir) =
    ArePlainNames dir.path.now × IsTrue (is_plain_user dir.uid) × IsTrue (is_plain_user dir.gid)
IsLine (File file) =
    ArePlainNames file.path.now × IsTrue (is_plain_user file.uid) × IsTrue (is_plain_user file.gid)
    × IsBytes file.bytes.now
IsLine (User name) = IsTrue (is_plain_user name)
IsLine (Group group) =
    IsTrue (is_plain_user group.name) × IsTrue (is_plain_user group.leader)
    × AllByRecursion (λ member. IsTrue (is_plain_user member)) group.members.now
IsLine (Hide hide) = IsTrue (is_plain_server hide.server) × ArePlainNames hide.path.now

-- What a line asks for.

-- the file joins a server, unless it has no name or too many bytes
abbrev pub with_file : FileLine → ServerTree → Result ServerTree LineFault
with_file file server =
    obtain (last_and_rest file.path.now) BadPath (λ place.
    need (nat_le (length file.bytes.now) file_max) TooLarge (
    with_entry place.0 place.1 (record {
      mode = record { kind = FileKind file.flags; permissions = file.permissions };
      uid = file.uid;
      gid = file.gid;
      bytes = file.bytes.now;
    }) server))

-- the directory of a server is hidden, where both are there
abbrev pub hidden_by : HideLine → World → Result World LineFault
hidden_by hide w =
    obtain (server_number hide.server w.servers) NoServer (λ number.
    obtain (dir_of hide.path.now (server_at number w.forest)) NoParent (λ dir.
    with_hidden (record { server = number; number = dir }) w))

-- what comes of a world by a line
abbrev pub line_change : WorldLine → World → Result World LineFault
line_change (Server name) w = server_line name w
line_change (Dir dir) w =
    in_last_server (with_dir (last_and_rest dir.path.now) dir.permissions dir.uid dir.gid) w
line_change (File file) w = in_last_server (with_file file) w
line_change (User name) w = user_line name w
line_change (Group group) w = group_line group.name group.leader group.members.now w
line_change (Hide hide) w = hidden_by hide w

-- what comes of it by a line of this number
abbrev pub numbered_change : World → ℕ × WorldLine → Result World (ℕ × LineFault)
numbered_change w numbered = at_line numbered.0 (line_change numbered.1 w)

-- the world that lines make, one after another and counted from 1, or the first fault with the
-- number of its line; 0 stands for all of them
abbrev pub world_by : List WorldLine → Result World (ℕ × LineFault)
world_by lines =
    and_then (try_fold numbered_change empty_world (enumerate_from 1 lines)) with_a_server
