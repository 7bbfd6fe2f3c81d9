-- What a line of a world's text means, by its words.
use Rattle.std.specs.Prelude.{Result, map}
use Rattle.p9_world.specs.declared.error.LineFault.{LineFault}
use Rattle.p9_world.specs.declared.line_words.LineWords.{LineWords}
use Rattle.p9_world.specs.declared.line_words.LineWords.TheVariants.{Server, Dir, File, User, Group}
use Rattle.p9_world.specs.declared.line_words.LineWords.TheVariants.{Hide, Set}
use Rattle.p9_world.specs.Entry.{dir_line, file_line, in_last_server}
use Rattle.p9_world.specs.Group.{group_line}
use Rattle.p9_world.specs.Hide.{hide_line}
use Rattle.p9_world.specs.Server.{server_line}
use Rattle.p9_world.specs.User.{user_line}
use Rattle.p9_world.specs.Variable.{set_line}
use Rattle.p9_world.specs.World.{World}

-- what comes of a world by a line of these words
abbrev pub meant : LineWords → World → Result World LineFault
meant (Server name) w = server_line name.now w
meant (Dir node) w =
    in_last_server (dir_line node.path.now node.mode.now node.uid.now node.gid.now) w
meant (File node hex) w =
    in_last_server (file_line node.path.now node.mode.now node.uid.now node.gid.now hex.now) w
meant (User name) w = user_line name.now w
meant (Group name leader members) w =
    group_line name.now leader.now (map (λ member. member.now) members.now) w
meant (Hide server path) w = hide_line server.now path.now w
meant (Set name value) w = set_line name.now value.now w
