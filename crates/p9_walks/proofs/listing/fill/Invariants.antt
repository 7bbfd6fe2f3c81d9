use Rattle.p9_space.specs.Rights.{who_view}
use Rattle.std.proofs.Common.{◌≡◌, false, length, drop}
use Rattle.std.specs.Prelude.{filter}
use Rattle.p9_step.specs.Listing.{entries_from, is_behind, left_of}
use Rattle.p9_walks.proofs.Fillings.{Filling}
use Rattle.p9_walks.proofs.Listings.{IsAtMost}
use Rattle.p9_walks.proofs.listing.fill.Given as goal

abbrev pub invariant-loop-position : goal.invariant-loop-position
invariant-loop-position g l =
    let forest = l.forest in
    Filling (length l.fn.buffer) (left_of forest (who_view l.who) l.fn.cursor l.members) l.fn.cursor
    l.buffer l.filled.size l.filled.cursor
    (filter (is_behind l.filled.cursor)
    (entries_from forest (who_view l.who) l.position (drop l.position l.members)))
    × IsAtMost l.filled.cursor l.position × (l.filled.is_full ≡ false)
