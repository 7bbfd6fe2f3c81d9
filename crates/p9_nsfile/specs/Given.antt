-- What the running of a file keeps of a mount table: it names only nodes that were made.
use Rattle.std.specs.Prelude.{◌<◌, ◌≤◌, IsTrue, List, length}
use Rattle.p9_space.specs.Given.{is_table_given}
use Rattle.p9_space.specs.Table.{MountRow}
use Rattle.p9_nsline.specs.Environment.{Environment}

-- there is a server, and each that has a name is there: if the old table names only nodes that were
-- made, so does the new one
abbrev pub KeepsGiven : Environment → List MountRow → List MountRow → Type 0
KeepsGiven environment old new =
    0 < length environment.forest → length environment.servers ≤ length environment.forest
    → IsTrue (is_table_given environment.forest old) → IsTrue (is_table_given environment.forest new)
