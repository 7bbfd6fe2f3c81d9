-- The changes that bytes stand for, and the forest that they make.
use Rattle.std.specs.Prelude.{◌≡◌, ℕ, zero, suc, List, [], ◌∷◌, ◌++◌, Option, Some, None, length}
use Rattle.std.specs.Prelude.{nat_lt, if◌then◌else◌}
use Rattle.p9_tree.specs.ForestEdit.{ForestEdit, all_forest_edited}
use Rattle.p9_tree.specs.Server.{Server}
use Rattle.p9_record.specs.Closed.{closed_edit_at}

-- a change that was read in front of bytes, and those that are read of the rest
abbrev pub edits_after : (List ℕ → List ForestEdit) → (bytes : List ℕ)
    → Option (ForestEdit × List ℕ) → List ForestEdit
edits_after others bytes None = []
edits_after others bytes (Some x) =
    if nat_lt (length x.1) (length bytes) then x.0 ∷ others x.1 else []

-- at most so many changes, one after another, up to the first bytes that are none
abbrev pub edits_by : (most : ℕ) → List ℕ → List ForestEdit
edits_by zero bytes = []
edits_by (suc most) bytes = edits_after (edits_by most) bytes (closed_edit_at bytes)

-- all of them. Each takes a byte at least
unfoldable pub edits_in : List ℕ → List ForestEdit
edits_in bytes = edits_by (length bytes) bytes

-- the bytes end where a change ends
abbrev pub IsWhole : List ℕ → Type 0
IsWhole bytes = (more : List ℕ) → edits_in (bytes ++ more) ≡ edits_in bytes ++ edits_in more

-- the forest that the changes make of this one
abbrev pub stood_from : List Server → List ℕ → List Server
stood_from forest bytes = all_forest_edited (edits_in bytes) forest

-- the forest that bytes stand for: the changes begin with no server
abbrev pub stood_for : List ℕ → List Server
stood_for bytes = stood_from [] bytes
