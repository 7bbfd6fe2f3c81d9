use Rattle.std.proofs.Common.{◌≡◌, ◌++◌, length}
use Rattle.p9_client.specs.Files.{spelled}
use Rattle.p9_client.proofs.listing.push_entries.Given as goal

abbrev pub invariant-loop-rest : goal.invariant-loop-rest
invariant-loop-rest g l =
    spelled l.entries.items ++ l.rest ≡ spelled l.initial.entries.items ++ l.bytes

abbrev pub decreases-loop-rest : goal.decreases-loop-rest
decreases-loop-rest g l = length l.rest
