use Rattle.std.proofs.Common.{◌≡◌, ◌++◌, drop}
use Rattle.std.specs.List.{flat_map}
use Rattle.std.specs.String.{string_bytes}
use Rattle.p9_prepared.proofs.Paths.{slashed}
use Rattle.p9_prepared.proofs.path.rooted_path.Given as goal

-- the path so far, with the names that are left after it, has all names
abbrev pub invariant-loop-name : goal.invariant-loop-name
invariant-loop-name g l =
    string_bytes l.path ++ flat_map slashed (drop l.name-index l.names) ≡ flat_map slashed l.names
