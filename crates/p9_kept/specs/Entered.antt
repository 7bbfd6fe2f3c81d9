-- Which names may be in directories, by a table that has a slot for each.
use Rattle.std.specs.Prelude.{◌≡◌, ℕ, ◌==◌, ◌%◌, Bool, true, List, All, length, slice_get, unwrap_or}
use Rattle.std.specs.Prelude.{if◌then◌else◌}
use Rattle.std.specs.Hash.FoldHasher as folding
use Rattle.std.specs.Int.{w64, to_le_bytes}
use Rattle.std.specs.Option.{ForSome}
use Rattle.p9_tree.specs.Node.{Node}

-- the slot of a name in a directory, of so many
unfoldable pub slot_of : (count dir : ℕ) (name : List ℕ) → ℕ
slot_of count dir name =
    if count == 0 then 0
    else folding.finish (folding.write (folding.write folding.initial (to_le_bytes w64 dir)) name)
    % count

-- whether the name may be in the directory: its slot is set, or there are no slots
abbrev pub may_have : (slots : List Bool) (dir : ℕ) (name : List ℕ) → Bool
may_have slots dir name = unwrap_or (slice_get slots (slot_of (length slots) dir name)) true

-- what may be there before may be there afterwards
abbrev pub KeepsEntered : (old new : List Bool) → Type 0
KeepsEntered old new =
    (dir : ℕ) (name : List ℕ) → may_have old dir name ≡ true → may_have new dir name ≡ true

-- a node may be in its directory under its name
abbrev pub IsEntered : List Bool → Node → Type 0
IsEntered slots n = ForSome n.parent (λ dir. may_have slots dir n.name ≡ true)

-- and each of these may
abbrev pub AreEntered : List Bool → List Node → Type 0
AreEntered slots nodes = All (IsEntered slots) nodes
