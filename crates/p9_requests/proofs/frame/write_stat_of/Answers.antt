use Rattle.std.proofs.Common.{sym}
use Rattle.p9_walks.proofs.Places.{node_of-below}
use Rattle.p9_requests.proofs.frame.write_stat_of.Goals as goal

pub stat_of-stat-requires : goal.stat_of-stat-requires
stat_of-stat-requires g c =
    node_of-below _ c.args.at c.in-Some.file.now c.well_formed-2.ensures (sym c.in-Some.ensures)
