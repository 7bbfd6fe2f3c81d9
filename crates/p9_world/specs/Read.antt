-- The world of a text: each line in turn makes its change.
use Rattle.std.specs.Prelude.{◌≡◌, ℕ, nat_lt, List, [], ◌∷◌, Option, Some, None, Result, Ok, Err}
use Rattle.std.specs.Prelude.{length, codes, if◌then◌else◌}
use Rattle.std.specs.Str.{bytes_eq}
use Rattle.p9_base.specs.Statement.{statements_of}
use Rattle.p9_base.specs.Results.{and_then, obtain, need, try_fold}
use Rattle.p9_world.specs.declared.error.LineFault.{LineFault}
use Rattle.p9_world.specs.declared.error.LineFault.TheVariants.{UnknownWord, WordCount, NoServer}
use Rattle.p9_world.specs.declared.error.WorldError.{WorldError}
use Rattle.p9_world.specs.declared.error.WorldError.TheVariants.{BadWorld, NoMemory}
use Rattle.p9_world.specs.declared.line_words.Operation.{Operation}
use Rattle.p9_world.specs.declared.line_words.Operation.TheVariants.{Server, Dir, File, User, Group, Hide}
use Rattle.p9_world.specs.declared.line_words.Operation.TheVariants.{Set}
use Rattle.p9_world.specs.World.{World, empty_world}
use Rattle.p9_world.specs.Server.{server_line}
use Rattle.p9_world.specs.Entry.{dir_line, file_line, in_last_server}
use Rattle.p9_world.specs.User.{user_line}
use Rattle.p9_world.specs.Group.{group_line}
use Rattle.p9_world.specs.Hide.{hide_line}
use Rattle.p9_world.specs.Variable.{set_line}

-- what the first word of a line asks for
abbrev pub operation_of : List ℕ → Option Operation
operation_of word =
    if bytes_eq word (codes "server") then Some Server
    else if bytes_eq word (codes "dir") then Some Dir
    else if bytes_eq word (codes "file") then Some File
    else if bytes_eq word (codes "user") then Some User
    else if bytes_eq word (codes "group") then Some Group
    else if bytes_eq word (codes "hide") then Some Hide
    else if bytes_eq word (codes "set") then Some Set
    else None

-- what comes of a world by an operation on the words that follow
abbrev pub operated : Operation → List (List ℕ) → World → Result World LineFault
operated Server (name ∷ []) w = server_line name w
operated Dir (path ∷ mode ∷ uid ∷ gid ∷ []) w = in_last_server (dir_line path mode uid gid) w
operated File (path ∷ mode ∷ uid ∷ gid ∷ hex ∷ []) w =
    in_last_server (file_line path mode uid gid hex) w
operated User (name ∷ []) w = user_line name w
operated Group (name ∷ leader ∷ members) w = group_line name leader members w
operated Hide (server ∷ path ∷ []) w = hide_line server path w
operated Set (name ∷ value ∷ []) w = set_line name value w
operated operation words w = Err WordCount

-- what comes of a world by a line of these words
abbrev pub line_meaning : List (List ℕ) → World → Result World LineFault
line_meaning [] w = Err UnknownWord
line_meaning (word ∷ words) w =
    obtain (operation_of word) UnknownWord (λ operation. operated operation words w)

-- a fault with the number of its line
abbrev pub at_line : {X : Type 0} → ℕ → Result X LineFault → Result X (ℕ × LineFault)
at_line line (Ok value) = Ok value
at_line line (Err fault) = Err (line, fault)

-- what comes of a world by a statement
abbrev pub read_statement : World → ℕ × List (List ℕ) → Result World (ℕ × LineFault)
read_statement w statement = at_line statement.0 (line_meaning statement.1 w)

-- a world has a server
abbrev pub with_a_server : World → Result World (ℕ × LineFault)
with_a_server w = need (nat_lt 0 (length w.servers)) (0, NoServer) (Ok w)

-- the world of the text, or the number of its first bad line and what is wrong there; 0 stands for
-- the whole text
unfoldable pub world_of : List ℕ → Result World (ℕ × LineFault)
world_of text = and_then (try_fold read_statement empty_world (statements_of text)) with_a_server

-- what a reader's error says of the text
abbrev pub Tells : WorldError → Result World (ℕ × LineFault) → Type 0
Tells (BadWorld line kind) world = world ≡ Err (line, kind)
Tells NoMemory world = Unit {0}

-- what a reader of one statement does
abbrev pub Steps : {D : Type 0} → Result World (ℕ × LineFault) → World → Result D WorldError
    → Type 0
Steps step new (Ok done) = step ≡ Ok new
Steps step new (Err error) = Tells error step
