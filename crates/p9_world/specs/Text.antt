-- The text of a line.
use Rattle.std.specs.Prelude.{ℕ, ◌+◌, ◌/◌, ◌%◌, Bool, true, List, [], ◌∷◌, ◌++◌, codes}
use Rattle.std.specs.Prelude.{if◌then◌else◌}
use Rattle.std.specs.List.{flat_map}
use Rattle.hex.specs.Hex.{encode_lower}
use Rattle.p9_base.specs.declared.mode.FileFlags.{FileFlags}
use Rattle.p9_base.specs.declared.mode.Permissions.{Permissions}
use Rattle.p9_base.specs.Mode.{permissions_bits}
use Rattle.p9_clean.specs.Path.{path_of}
use Rattle.p9_world.specs.declared.line.WorldLine.{WorldLine}
use Rattle.p9_world.specs.declared.line.WorldLine.TheVariants.{Server, Dir, File, User, Group, Hide}
use Rattle.p9_world.specs.declared.line.DirLine.{DirLine}
use Rattle.p9_world.specs.declared.line.FileLine.{FileLine}
use Rattle.p9_world.specs.declared.line.GroupLine.{GroupLine}
use Rattle.p9_world.specs.declared.line.HideLine.{HideLine}

-- Words.

-- the digits of a number below 512 in base 8
abbrev pub octal_digits : ℕ → List ℕ
octal_digits n = (48 + n / 64) ∷ (48 + n / 8 % 8) ∷ (48 + n % 8) ∷ []

-- three digits: the rights of the owner, of the group and of the others
abbrev pub permissions_word : Permissions → List ℕ
permissions_word permissions = octal_digits (permissions_bits permissions)

-- a letter, where its flag is set
abbrev pub letter : Bool → ℕ → List ℕ
letter flag code = if flag then code ∷ [] else []

-- the letters 'a' for append-only, 'l' for exclusive use and 't' for temporary, and three digits
abbrev pub file_mode_word : FileFlags → Permissions → List ℕ
file_mode_word flags permissions =
    letter flags.append_only 97 ++ letter flags.exclusive 108 ++ letter flags.temporary 116
    ++ permissions_word permissions

-- two hexadecimal digits for each byte; '-' for none
abbrev pub bytes_word : List ℕ → List ℕ
bytes_word [] = codes "-"
bytes_word (b ∷ bs) = encode_lower (b ∷ bs)

-- The words of a line. A path has a slash before each name; the root's is a slash.

abbrev pub dir_words : DirLine → List (List ℕ)
dir_words dir =
    codes "dir" ∷ path_of true dir.path.now ∷ permissions_word dir.permissions
    ∷ dir.uid ∷ dir.gid ∷ []

abbrev pub file_words : FileLine → List (List ℕ)
file_words file =
    codes "file" ∷ path_of true file.path.now ∷ file_mode_word file.flags file.permissions
    ∷ file.uid ∷ file.gid ∷ bytes_word file.bytes.now ∷ []

abbrev pub group_words : GroupLine → List (List ℕ)
group_words group = codes "group" ∷ group.name ∷ group.leader ∷ group.members.now

abbrev pub hide_words : HideLine → List (List ℕ)
hide_words hide = codes "hide" ∷ hide.server ∷ path_of true hide.path.now ∷ []

abbrev pub server_words : List ℕ → List (List ℕ)
server_words name = codes "server" ∷ name ∷ []

abbrev pub user_words : List ℕ → List (List ℕ)
user_words name = codes "user" ∷ name ∷ []

abbrev pub line_words : WorldLine → List (List ℕ)
line_words (Server name) = server_words name
line_words (Dir dir) = dir_words dir
line_words (File file) = file_words file
line_words (User name) = user_words name
line_words (Group group) = group_words group
line_words (Hide hide) = hide_words hide

-- Texts.

-- the words after the first, each after a blank
abbrev pub spaced : List (List ℕ) → List ℕ
spaced words = flat_map (λ word. 32 ∷ word) words

-- words with a blank between each two
abbrev pub joined : List (List ℕ) → List ℕ
joined [] = []
joined (word ∷ words) = word ++ spaced words

-- a line of words, with its newline
abbrev pub words_text : List (List ℕ) → List ℕ
words_text words = joined words ++ 10 ∷ []

-- the text of a line
abbrev pub line_text : WorldLine → List ℕ
line_text line = words_text (line_words line)

-- the text of lines
abbrev pub lines_text : List WorldLine → List ℕ
lines_text lines = flat_map line_text lines
