use Rattle.std.proofs.Common.{◌≡◌, ◌-◌, false, length}
use Rattle.std.specs.Prelude.{filter}
use Rattle.p9_step.specs.Listing.{is_behind}
use Rattle.p9_walks.proofs.Entries.{entries_in}
use Rattle.p9_walks.proofs.Fillings.{Filling}
use Rattle.p9_walks.proofs.Listings.{IsAtMost}
use Rattle.p9_walks.proofs.listing.fill_dir.Given as goal

abbrev pub invariant-loop-node : goal.invariant-loop-node
invariant-loop-node g l =
    let es = entries_in l.forest l.position l.dir in
    Filling (length l.fn.buffer) (filter (is_behind l.fn.cursor) es) l.fn.cursor l.buffer
    l.filled.size l.filled.cursor (filter (is_behind l.filled.cursor) es)
    × IsAtMost l.filled.cursor l.position × (l.filled.is_full ≡ false)

abbrev pub decreases-loop-node : goal.decreases-loop-node
decreases-loop-node g l = length l.fn.buffer - l.filled.size
